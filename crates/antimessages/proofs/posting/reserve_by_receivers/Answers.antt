use Rattle.std.proofs.Common.{inl, inr, length, map, slice_set, ap, ◌∙◌, arith, length-set}
use Rattle.std.proofs.lemmas.Bool.{cases_lt}
use Rattle.antimessages.specs.Mailing.{store_of}
use Rattle.antimessages.proofs.Boxes.{IsChanged, changed, received-none, same-letters, more-room, reserve-next, refused-next}
use Rattle.antimessages.proofs.posting.reserve_by_receivers.Goals.{After-make_room}
use Rattle.antimessages.proofs.posting.reserve_by_receivers.Goals as goal

-- room was made in the box of the receiver
box : (c : After-make_room) → IsChanged (map store_of c.loop-receiver.boxes.items)
    (map store_of (slice_set c.loop-receiver.boxes.items c.loop-receiver.receiver c.make_room.new.mailbox))
    c.loop-receiver.receiver c.index_mut.result.now c.make_room.new.mailbox
box c = changed c.loop-receiver.boxes.items c.loop-receiver.receiver c.index_mut.result.now c.make_room.new.mailbox (omega (arith, c.args.boxes.now.ok.0)) c.index_mut.ensures.value

pub returns-in_err-make_room-clause-same : goal.returns-in_err-make_room-clause-same
returns-in_err-make_room-clause-same c = λ p.
    same-letters (box (goal.at.returns-in_err-make_room-clause-same c).After-make_room) c.make_room.ensures.items p ∙ c.loop-receiver.invariant.same p

pub returns-in_err-make_room-clause-no_less : goal.returns-in_err-make_room-clause-no_less
returns-in_err-make_room-clause-no_less c = λ p.
    let a = c.loop-receiver.invariant.no_less p in
    let b = more-room (box (goal.at.returns-in_err-make_room-clause-no_less c).After-make_room) c.make_room.ensures.len c.make_room.ensures.capacity p in
    omega arith

pub returns-in_err-make_room-clause-reserved : goal.returns-in_err-make_room-clause-reserved
returns-in_err-make_room-clause-reserved c = λ room.
    absurd (refused-next (box (goal.at.returns-in_err-make_room-clause-reserved c).After-make_room) c.args.letters.now c.in_err-make_room.ensures.full
    (λ p. let a = room p in let b = c.loop-receiver.invariant.no_less p in omega arith))

pub loop-receiver-preserved : goal.loop-receiver-preserved
loop-receiver-preserved c =
    let one = box (goal.at.loop-receiver-preserved c).After-make_room in
    let inv = c.loop-receiver.invariant in
    record {
      processes = length-set c.loop-receiver.boxes.items c.loop-receiver.receiver c.make_room.new.mailbox ∙ inv.processes;
      same = λ p. same-letters one c.make_room.ensures.items p ∙ inv.same p;
      no_less = λ p. let a = inv.no_less p in let b = more-room one c.make_room.ensures.len c.make_room.ensures.capacity p in omega arith;
      room = reserve-next one c.args.letters.now c.in_ok-make_room.ensures.ok inv.room;
    }

pub returns-clause-room : goal.returns-clause-room
returns-clause-room c = λ p.
    elim (cases_lt p c.loop-receiver.receiver) [
      | inl below ↦ c.loop-receiver.invariant.room p below
      | inr beyond ↦ let none = ap length (received-none c.args.letters.now (length c.args.boxes.now.items) p c.requires (omega (arith, c.args.boxes.now.ok.0))) in omega arith
    ]
