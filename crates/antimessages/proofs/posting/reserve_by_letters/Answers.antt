use Rattle.std.proofs.Common.{inl, inr, length, map, slice_set, refl, ap, ◌∙◌, arith, length-set, take_all}
use Rattle.std.proofs.lemmas.Bool.{cases_lt}
use Rattle.virtual_time.specs.Law.{received_by}
use Rattle.vlink.specs.Order.{message_order}
use Rattle.antimessages.specs.Mailing.{store_of}
use Rattle.antimessages.proofs.Boxes.{IsChanged, changed, receiver-within, same-letters, more-room, reserve-room, refused-next}
use Rattle.antimessages.proofs.posting.reserve_by_letters.Goals.{After-make_room}
use Rattle.antimessages.proofs.posting.reserve_by_letters.Goals as goal

pub loop-letter-init : goal.loop-letter-init
loop-letter-init c = record { processes = refl; same = λ p. refl; no_less = λ p. omega arith; room = λ p some. absurd (omega arith) }

pub index_mut-requires : goal.index_mut-requires
index_mut-requires c =
    let within = receiver-within c.args.letters.now _ c.requires c.loop-letter.letter-index c.letter-item.result c.loop-letter-test.true c.letter-item.is in
    omega (arith, c.from-receiver.ensures, c.loop-letter.invariant.processes, c.loop-letter.boxes.ok.0)

-- room was made in the box of the letter's receiver
box : (c : After-make_room) → IsChanged (map store_of c.loop-letter.boxes.items)
    (map store_of (slice_set c.loop-letter.boxes.items c.from-receiver.result c.make_room.new.mailbox))
    c.from-receiver.result c.index_mut.result.now c.make_room.new.mailbox
box c =
    let within = receiver-within c.args.letters.now _ c.requires c.loop-letter.letter-index c.letter-item.result c.loop-letter-test.true c.letter-item.is in
    changed c.loop-letter.boxes.items c.from-receiver.result c.index_mut.result.now c.make_room.new.mailbox
    (omega (arith, c.from-receiver.ensures, c.loop-letter.invariant.processes))
    c.index_mut.ensures.value

pub returns-in_err-make_room-clause-same : goal.returns-in_err-make_room-clause-same
returns-in_err-make_room-clause-same c = λ p.
    same-letters (box (goal.at.returns-in_err-make_room-clause-same c).After-make_room) c.make_room.ensures.items p ∙ c.loop-letter.invariant.same p

pub returns-in_err-make_room-clause-no_less : goal.returns-in_err-make_room-clause-no_less
returns-in_err-make_room-clause-no_less c = λ p.
    let a = c.loop-letter.invariant.no_less p in
    let b = more-room (box (goal.at.returns-in_err-make_room-clause-no_less c).After-make_room) c.make_room.ensures.len c.make_room.ensures.capacity p in
    omega arith

pub returns-in_err-make_room-clause-reserved : goal.returns-in_err-make_room-clause-reserved
returns-in_err-make_room-clause-reserved c = λ room.
    absurd (refused-next (box (goal.at.returns-in_err-make_room-clause-reserved c).After-make_room) c.args.letters.now c.in_err-make_room.ensures.full
    (λ p. let a = room p in let b = c.loop-letter.invariant.no_less p in omega arith))

pub loop-letter-preserved : goal.loop-letter-preserved
loop-letter-preserved c =
    let one = box (goal.at.loop-letter-preserved c).After-make_room in
    let inv = c.loop-letter.invariant in
    record {
      processes = length-set c.loop-letter.boxes.items c.from-receiver.result c.make_room.new.mailbox ∙ inv.processes;
      same = λ p. same-letters one c.make_room.ensures.items p ∙ inv.same p;
      no_less = λ p. let a = inv.no_less p in let b = more-room one c.make_room.ensures.len c.make_room.ensures.capacity p in omega arith;
      room = reserve-room one c.args.letters.now c.loop-letter.letter-index c.letter-item.result c.loop-letter-test.true c.letter-item.is c.from-receiver.ensures
          c.make_room.ensures.len c.make_room.ensures.capacity (rw c.from-receiver.ensures at c.in_ok-make_room.ensures.ok) inv.room;
    }

pub returns-clause-same : goal.returns-clause-same
returns-clause-same c = c.loop-letter.invariant.same

pub returns-clause-room : goal.returns-clause-room
returns-clause-room c = λ p.
    let all = ap (λ z. length (received_by message_order p z)) (take_all c.loop-letter.letter-index c.args.letters.now c.loop-letter-test.false) in
    elim (cases_lt 0 (length (received_by message_order p c.args.letters.now))) [
      | inl some ↦ c.loop-letter.invariant.room p (omega arith)
      | inr none ↦ omega arith
    ]

pub returns-clause-no_less : goal.returns-clause-no_less
returns-clause-no_less c = c.loop-letter.invariant.no_less
