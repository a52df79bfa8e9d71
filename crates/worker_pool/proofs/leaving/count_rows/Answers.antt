use Rattle.std.proofs.Common.{◌≡◌, ◌∙◌, ℕ, List, sym, ap, subst, arith}
use Rattle.run_rows.specs.Counts.{moment_of, IsPartOfGroup}
use Rattle.worker_pool.proofs.GroupRows.{AreOfGroup, part-of-group}
use Rattle.worker_pool.proofs.leaving.count_rows.Goals as goal

pub take_of_group-requires-clause-of_group : goal.take_of_group-requires-clause-of_group
take_of_group-requires-clause-of_group g c =
    let plan = g.J.NetworkRun.plan in
    let owners = g.J.NetworkRun.owners in
    let old = c.args.counted.now in
    let n = c.from-number.result in
    let from = c.moment_of-from.result in
    let to = c.gvt_seen-to.result in
    let rows = c.rows_between.result.now in
    let sealed = c.if-not-is_committed_before.false in
    let good = c.is_committed_before.ensures.all.0 sealed in
    let at : from ≡ moment_of old.own.items old.end n = c.moment_of-from.ensures ∙ ap (λ (own : List ℕ). moment_of own old.end n) c.as_slice.ensures.value in
    let number : n ≡ c.args.group.now.number = c.from-number.ensures ∙ c.number.ensures.number in
    subst (λ (z : ℕ). IsPartOfGroup plan owners n z to rows) at
    (part-of-group plan owners n from to rows
    (subst (λ (g : ℕ). AreOfGroup plan owners g from to rows) (sym number) (c.rows_between.ensures.whole good.0 (c.is_committed_before.ensures.each sealed))))

pub take_of_group-requires-clause-later : goal.take_of_group-requires-clause-later
take_of_group-requires-clause-later g c =
    let old = c.args.counted.now in
    let n = c.from-number.result in
    let at : c.moment_of-from.result ≡ moment_of old.own.items old.end n = c.moment_of-from.ensures ∙ ap (λ (own : List ℕ). moment_of own old.end n) c.as_slice.ensures.value in
    omega arith
