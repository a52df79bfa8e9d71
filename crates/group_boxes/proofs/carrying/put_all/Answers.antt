use Rattle.std.proofs.Common.{◌≡◌, ◌<◌, ◌+◌, ◌++◌, ◌-◌, [], ◌∷◌, Some, length, map, take, slice_get, ap, sym, ◌∙◌, arith, length-set, take_all, vec_len, vec_capacity}
use Rattle.std.proofs.lemmas.List.{take_more}
use Rattle.vlink.specs.Order.{message_order}
use Rattle.group_boxes.specs.Boxing.{box_of, for_group, room_in}
use Rattle.group_boxes.proofs.Lists.{owner-of, one-of, box-put, room-at, room-less, short-set}
use Rattle.group_boxes.proofs.carrying.put_all.Goals.{After-index_mut}
use Rattle.group_boxes.proofs.carrying.put_all.Goals as goal

-- the group of the letter's receiver
owner : (c : After-index_mut) → (slice_get c.args.owners.now c.letter-item.result.message.receiver ≡ Some c.from-in-loop-letter.result) × (c.from-in-loop-letter.result < length c.args.boxes.now.items)
owner c =
    owner-of c.args.owners.now (length c.args.boxes.now.items) c.letter-item.result.message.receiver c.from.result c.from-in-loop-letter.result c.requires.each
    (one-of (λ l. l.message.receiver < length c.args.owners.now) c.args.letters.now c.requires.receivers c.loop-letter.letter-index c.letter-item.result c.loop-letter-test.true c.letter-item.is)
    c.from.ensures c.from-in-loop-letter.ensures

pub push_reserved-requires : goal.push_reserved-requires
push_reserved-requires c =
    let inv = c.loop-letter.invariant in
    let within = (owner (goal.at.push_reserved-requires c).After-index_mut).1 in
    let room = room-at (λ x. room_in (vec_capacity x) (vec_len x)) c.loop-letter.boxes.items c.from-in-loop-letter.result c.index_mut.result.now
    (length c.args.letters.now - c.loop-letter.letter-index) (omega (arith, within, inv.count)) c.index_mut.ensures.value inv.room in
    omega (arith, room, c.loop-letter-test.true)

pub loop-letter-preserved : goal.loop-letter-preserved
loop-letter-preserved c =
    let boxes = c.loop-letter.boxes.items in
    let at = c.from-in-loop-letter.result in
    let old = c.index_mut.result.now in
    let new = c.push_reserved.new.self in
    let inv = c.loop-letter.invariant in
    let l = c.letter-item.result in
    let k = c.loop-letter.letter-index in
    let ls = c.args.letters.now in
    let own = owner (goal.at.loop-letter-preserved c).After-index_mut in
    let within : at < length boxes = omega (arith, own.1, inv.count) in
    let room = room-at (λ x. room_in (vec_capacity x) (vec_len x)) boxes at old (length ls - k) within c.index_mut.ensures.value inv.room in
    record {
      count = length-set boxes at new ∙ inv.count;
      put = λ g h. box-put c.args.owners.now l at own.0 (λ x. x.items) (map (λ x. x.items) c.args.boxes.now.items) boxes old new (take k ls) (take (k + 1) ls)
          within c.index_mut.ensures.value c.push_reserved.ensures.items (take_more ls k l c.loop-letter-test.true ∙ ap (λ z. take k ls ++ z ∷ []) (sym c.letter-item.is)) g (inv.put g h);
      room = room-less (λ x. room_in (vec_capacity x) (vec_len x)) boxes at new (length ls - (k + 1)) (length ls - k) (omega arith)
          (omega (arith, room, c.push_reserved.ensures.len, c.push_reserved.ensures.capacity)) inv.room;
      short = λ s. short-set (λ x. x.items) boxes at new (omega (arith, room, c.push_reserved.ensures.len, c.loop-letter-test.true)) (inv.short s);
    }

pub returns-clause-put : goal.returns-clause-put
returns-clause-put c = λ g h.
    c.loop-letter.invariant.put g h ∙
    ap (λ z. box_of (map (λ x. x.items) c.args.boxes.now.items) g ++ for_group message_order c.args.owners.now g z) (take_all c.loop-letter.letter-index c.args.letters.now c.loop-letter-test.false)
