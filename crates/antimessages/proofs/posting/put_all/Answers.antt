use Rattle.std.proofs.Common.{◌++◌, map, refl, sym, ap, ◌∙◌, append-nil, arith, length-set, take_all}
use Rattle.virtual_time.specs.Law.{received_by}
use Rattle.vlink.specs.Order.{message_order}
use Rattle.antimessages.specs.Mailing.{letters_for, store_of}
use Rattle.antimessages.proofs.Boxes.{changed, receiver-within, room-needed, put-letters, put-room}
use Rattle.antimessages.proofs.posting.put_all.Goals as goal

pub loop-letter-init : goal.loop-letter-init
loop-letter-init c = record { processes = refl; put = λ p. sym (append-nil _); room = c.requires.room }

pub index_mut-requires : goal.index_mut-requires
index_mut-requires c =
    let within = receiver-within c.args.letters.now _ c.requires.receivers c.loop-letter.letter-index c.letter-item.result c.loop-letter-test.true c.letter-item.is in
    omega (arith, c.from.ensures, c.loop-letter.invariant.processes, c.loop-letter.boxes.ok.0)

pub push_back_reserved-requires : goal.push_back_reserved-requires
push_back_reserved-requires c =
    let within = receiver-within c.args.letters.now _ c.requires.receivers c.loop-letter.letter-index c.letter-item.result c.loop-letter-test.true c.letter-item.is in
    let box = c.index_mut.result.now in
    room-needed (changed c.loop-letter.boxes.items c.from.result box box (omega (arith, c.from.ensures, c.loop-letter.invariant.processes)) c.index_mut.ensures.value)
    c.args.letters.now c.loop-letter.letter-index c.letter-item.result c.loop-letter-test.true c.letter-item.is c.from.ensures c.loop-letter.invariant.room

pub loop-letter-preserved : goal.loop-letter-preserved
loop-letter-preserved c =
    let boxes = c.loop-letter.boxes.items in
    let new = c.push_back_reserved.new.self in
    let inv = c.loop-letter.invariant in
    let within = receiver-within c.args.letters.now _ c.requires.receivers c.loop-letter.letter-index c.letter-item.result c.loop-letter-test.true c.letter-item.is in
    let one = changed boxes c.from.result c.index_mut.result.now new (omega (arith, c.from.ensures, inv.processes)) c.index_mut.ensures.value in
    record {
      processes = length-set boxes c.from.result new ∙ inv.processes;
      put = put-letters one c.args.letters.now c.loop-letter.letter-index c.letter-item.result c.loop-letter-test.true c.letter-item.is c.from.ensures
          c.args.boxes.now.items c.push_back_reserved.ensures.items inv.put;
      room = put-room one c.args.letters.now c.loop-letter.letter-index c.letter-item.result c.loop-letter-test.true c.letter-item.is c.from.ensures
          c.push_back_reserved.ensures.len c.push_back_reserved.ensures.capacity inv.room;
    }

pub returns-clause-put : goal.returns-clause-put
returns-clause-put c = λ p.
    c.loop-letter.invariant.put p ∙
    ap (λ z. letters_for p (map store_of c.args.boxes.now.items) ++ received_by message_order p z) (take_all c.loop-letter.letter-index c.args.letters.now c.loop-letter-test.false)
