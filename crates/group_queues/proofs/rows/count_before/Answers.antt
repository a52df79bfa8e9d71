use Rattle.std.proofs.Common.{◌≡◌, ◌<◌, ◌≤◌, IfSome, Some, length, slice_get, refl, subst, sym, ap, ◌∙◌, arith}
use Rattle.std.proofs.lemmas.Option.{slice_get-get_or}
use Rattle.vlink.specs.Letters.{Row}
use Rattle.group_queues.proofs.Forgetting.{one-more, none-past}
use Rattle.group_queues.proofs.rows.count_before.Goals.{After-index-rows-place}
use Rattle.group_queues.proofs.rows.count_before.Goals as goal

-- the row that was looked at
at : (c : After-index-rows-place) → slice_get c.args.rows.now c.loop-place.place ≡ Some c.index-rows-place.result
at c =
    slice_get-get_or c.args.rows.now c.loop-place.place c.index-rows-place.result (let t = c.loop-place-test.true in omega arith) ∙ ap (λ z. Some z) (sym c.index-rows-place.is)

pub returns-then-not-is_early-clause-early : goal.returns-then-not-is_early-clause-early
returns-then-not-is_early-clause-early c = c.loop-place.invariant

pub returns-then-not-is_early-clause-late : goal.returns-then-not-is_early-clause-late
returns-then-not-is_early-clause-late c =
    subst (λ o. IfSome o (λ (row : Row). c.args.moment ≤ row.message.time)) (sym (at (goal.at.returns-then-not-is_early-clause-late c).After-index-rows-place)) (c.if-not-is_early.ensures.no refl)

pub loop-place-preserved : goal.loop-place-preserved
loop-place-preserved c =
    one-more (λ (row : Row). row.message.time < c.args.moment) c.loop-place.place c.args.rows.now c.index-rows-place.result
    (at (goal.at.loop-place-preserved c).After-index-rows-place) (c.if-not-is_early.ensures.yes refl) c.loop-place.invariant

pub returns-clause-late : goal.returns-clause-late
returns-clause-late c = none-past (λ (row : Row). c.args.moment ≤ row.message.time) (length c.args.rows.now) c.args.rows.now (omega arith)
