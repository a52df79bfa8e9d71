use Rattle.std.proofs.Common.{◌++◌, map, refl, sym, ap, ◌∙◌, append-nil, arith, length-set, take_all}
use Rattle.virtual_time.specs.Law.{received_by}
use Rattle.vlink.specs.Order.{message_order}
use Rattle.antimessages.specs.Mailing.{letters_for, store_of}
use Rattle.antimessages.proofs.Boxes.{changed, receiver-within, put-letters}
use Rattle.antimessages.proofs.posting.push_all.Goals as goal

pub loop-letter-init : goal.loop-letter-init
loop-letter-init c = record { processes = refl; put = λ p. sym (append-nil _) }

pub index_mut-requires : goal.index_mut-requires
index_mut-requires c =
    let within = receiver-within c.args.letters.now _ c.requires c.loop-letter.letter-index c.letter-item.result c.loop-letter-test.true c.letter-item.is in
    omega (arith, c.from.ensures, c.loop-letter.invariant.processes, c.loop-letter.boxes.ok.0)

pub loop-letter-preserved : goal.loop-letter-preserved
loop-letter-preserved c =
    let boxes = c.loop-letter.boxes.items in
    let new = c.push.new.queue in
    let inv = c.loop-letter.invariant in
    let within = receiver-within c.args.letters.now _ c.requires c.loop-letter.letter-index c.letter-item.result c.loop-letter-test.true c.letter-item.is in
    record {
      processes = length-set boxes c.from.result new ∙ inv.processes;
      put = put-letters (changed boxes c.from.result c.index_mut.result.now new (omega (arith, c.from.ensures, inv.processes)) c.index_mut.ensures.value)
          c.args.letters.now c.loop-letter.letter-index c.letter-item.result c.loop-letter-test.true c.letter-item.is c.from.ensures
          c.args.boxes.now.items c.in_ok-push.ensures inv.put;
    }

pub returns-clause-put : goal.returns-clause-put
returns-clause-put c = λ p.
    c.loop-letter.invariant.put p ∙
    ap (λ z. letters_for p (map store_of c.args.boxes.now.items) ++ received_by message_order p z) (take_all c.loop-letter.letter-index c.args.letters.now c.loop-letter-test.false)
