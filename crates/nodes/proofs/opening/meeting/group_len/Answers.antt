use Rattle.std.proofs.Common.{◌≡◌, ℕ, ◌==◌, false, length, take, get_or, arith, sym, ◌∙◌, subst, All}
use Rattle.std.proofs.lemmas.Bool.Decides.{nat_tests}
use Rattle.std.proofs.lemmas.List.{drop_more, drop_all}
use Rattle.std.proofs.lemmas.List.Elements.{All-more}
use Rattle.nodes.proofs.GroupLemmas.{group-at, apart-later, no_way}
use Rattle.nodes.proofs.opening.meeting.group_len.Goals as goal

pub returns-then-ne-clause-group : goal.returns-then-ne-clause-group
returns-then-ne-clause-group c =
    let ways = c.args.ways.now in
    let i = c.loop-i.i in
    let apart : ((get_or ways 0 no_way).vl.0 == (get_or ways i no_way).vl.0) ≡ false = grind (arith, nat_tests) in
    group-at ways i (apart-later ways i (sym c.ne.ensures ∙ c.if-ne.true)) c.loop-i.invariant (rw (drop_more ways i no_way (omega arith)) apart) c.requires

pub loop-i-preserved : goal.loop-i-preserved
loop-i-preserved c =
    let ways = c.args.ways.now in
    let i = c.loop-i.i in
    let same : (get_or ways i no_way).vl.0 ≡ (get_or ways 0 no_way).vl.0 = grind (arith, nat_tests) in
    All-more (λ way. way.vl.0 ≡ (get_or ways 0 no_way).vl.0) ways i no_way (omega arith) c.loop-i.invariant same

pub returns-clause-group : goal.returns-clause-group
returns-clause-group c =
    let ways = c.args.ways.now in
    let end : c.loop-i.i ≡ length ways = omega arith in
    let all = subst (λ (n : ℕ). All (λ way. way.vl.0 ≡ (get_or ways 0 no_way).vl.0) (take n ways)) end c.loop-i.invariant in
    group-at ways (length ways) c.requires all (rw (drop_all (length ways) ways (omega arith)) tt) c.requires
