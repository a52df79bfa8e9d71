use Rattle.std.proofs.Common.{◌≢◌, ◌<◌, ◌≤◌, All, length, map, subst, arith, refl}
use Rattle.std.proofs.lemmas.List.{take_all, length-map}
use Rattle.group_queues.proofs.NewestDone.{none-more}
use Rattle.group_queues.proofs.newest.is_among.Goals as goal

pub loop-place-preserved : goal.loop-place-preserved
loop-place-preserved g c =
    let n : c.item.result.now.message ≢ c.args.message.now = c.if-is_same.ensures.no refl in
    let l : c.loop-place.place < length c.args.events.now.items = (let t = c.loop-place-test.true in let k = c.len-place-end.ensures in omega arith) in
    none-more c.args.message.now c.args.events.now.items c.loop-place.place c.item.result.now l c.item.ensures n c.loop-place.invariant

pub returns-clause-no : goal.returns-clause-no
returns-clause-no g c = λ e.
    let xs = map (λ z. z.message) c.args.events.now.items in
    let n = length-map c.args.events.now.items (λ z. z.message) in
    let l : length xs ≤ c.loop-place.place = (let t = c.loop-place-test.false in let k = c.len-place-end.ensures in omega arith) in
    subst (All (λ x. x ≢ c.args.message.now)) (take_all c.loop-place.place xs l) c.loop-place.invariant
