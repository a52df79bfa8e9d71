use Rattle.std.proofs.Common.{◌≡◌, ◌<◌, length, false, refl, subst, arith, Some, Ordering, is_lt}
use Rattle.std.proofs.lemmas.Bool.{both_ways}
use Rattle.std.specs.declared.ops.Bound.TheVariants.{Included, Unbounded}
use Rattle.std.specs.Map.{lookup}
use Rattle.std.specs.BTreeMap.{is_at}
use Rattle.std.specs.BTreeMap.Range.{IsRangeOf}
use Rattle.antimessages.specs.declared.occurrence.Occurrence.{Occurrence}
use Rattle.antimessages.specs.Occurrences.{occurrence_of, occurrence_cmp}
use Rattle.antimessages.proofs.Last.{count-none, count-other_last, room, count-last}
use Rattle.antimessages.proofs.occurrences.last_of.Goals.{After-range}
use Rattle.antimessages.proofs.occurrences.last_of.Goals as goal

range : (c : After-range) → IsRangeOf occurrence_cmp Unbounded (Included (occurrence_of c.args.message.now 18446744073709551615)) c.args.signs.now c.range.result
range c =
    subst (λ (f : Occurrence → Occurrence → Ordering). IsRangeOf f Unbounded (Included (occurrence_of c.args.message.now 18446744073709551615)) c.args.signs.now c.range.result)
    c.occurrence_order_law.ensures.written (c.range.ensures.in_range tt)

pub returns-in_err-last-clause-count : goal.returns-in_err-last-clause-count
returns-in_err-last-clause-count c =
    let w = c.occurrence_order_law.ensures in
    let r = range (goal.at.returns-in_err-last-clause-count c).After-range in
    rw c.from_residual.ensures (count-none w.total w.exact c.args.message.now 18446744073709551615 c.args.signs.now.entries c.requires
    (λ q l. r.5 c.in_err-last.ensures.steps.0 q (tt, l)))

-- the last one stands at its ordinal of the message, of which there are fewer than the greatest
here : (c : goal.After-result-1) → lookup (is_at (occurrence_cmp (occurrence_of c.args.message.now c.in_ok-last.last.now.ordinal))) c.args.signs.now.entries
    ≡ Some c.in_ok-last.sign.now
here c =
    subst (λ x. lookup (is_at (occurrence_cmp (occurrence_of x c.in_ok-last.last.now.ordinal))) c.args.signs.now.entries ≡ Some c.in_ok-last.sign.now)
    (c.if-is_same.ensures.0 refl)
    ((range (goal.at.returns-then-is_same-clause-count c).After-range).3 (c.in_ok-last.last.now, c.in_ok-last.sign.now) c.next_back.new.self c.in_ok-last.ensures.steps).1

few : (c : goal.After-result-1) → length c.args.signs.now.entries < 18446744073709551615
few c = let l = c.len-len.ensures.len in let t = c.len-len.ensures.small in omega arith

pub returns-then-is_same-clause-count : goal.returns-then-is_same-clause-count
returns-then-is_same-clause-count c =
    let w = c.occurrence_order_law.ensures in
    let p = c.in_ok-last.last.now in
    let b = (range (goal.at.returns-then-is_same-clause-count c).After-range).4 (p, c.in_ok-last.sign.now) c.next_back.new.self c.in_ok-last.ensures.steps in
    count-last w.total w.exact c.args.message.now 18446744073709551615 c.args.signs.now.entries c.requires p.ordinal c.in_ok-last.sign.now (here c) (few c)
    (λ q l i. subst (λ x. is_lt (occurrence_cmp (occurrence_of x p.ordinal) q) ≡ false) (c.if-is_same.ensures.0 refl) (b q (tt, l) i))

pub returns-then-is_same-clause-room : goal.returns-then-is_same-clause-room
returns-then-is_same-clause-room c =
    let w = c.occurrence_order_law.ensures in
    let t = room w.total w.exact c.args.message.now 18446744073709551615 c.args.signs.now.entries c.requires
    c.in_ok-last.last.now.ordinal c.in_ok-last.sign.now (here c) (few c) in
    let l = c.len-len.ensures.len in
    let u = c.len-len.ensures.small in
    omega arith

pub returns-else-is_same-clause-count : goal.returns-else-is_same-clause-count
returns-else-is_same-clause-count c =
    let w = c.occurrence_order_law.ensures in
    let p = c.in_ok-last.last.now in
    let s = c.in_ok-last.sign.now in
    let r = range (goal.at.returns-else-is_same-clause-count c).After-range in
    let a = r.3 (p, s) c.next_back.new.self c.in_ok-last.ensures.steps in
    count-other_last w.total w.exact c.args.message.now 18446744073709551615 c.args.signs.now.entries c.requires p s a.1 a.0.1
    (λ q l i. r.4 (p, s) c.next_back.new.self c.in_ok-last.ensures.steps q (tt, l) i) (λ e. both_ways _ refl (c.if-is_same.ensures.1 e))
