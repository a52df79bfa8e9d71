use Rattle.std.proofs.Common.{◌<◌, ◌+◌, ◌++◌, [], ◌∷◌, length, map, take, ap, sym, ◌∙◌, arith, length-set, take_all}
use Rattle.std.proofs.lemmas.List.{take_more, map-append}
use Rattle.vlink.specs.declared.message.Message.{Message}
use Rattle.vlink.specs.Order.{message_order}
use Rattle.virtual_time.specs.Law.{plus_of}
use Rattle.group_boxes.specs.Boxing.{box_of, for_group}
use Rattle.group_boxes.proofs.Lists.{owner-of, one-of, box-put, short-set}
use Rattle.group_boxes.proofs.carrying.push_all.Goals as goal

pub loop-message-preserved : goal.loop-message-preserved
loop-message-preserved c =
    let boxes = c.loop-message.boxes.items in
    let at = c.from-in-loop-message.result in
    let old = c.index_mut.result.now in
    let new = c.push.new.items in
    let inv = c.loop-message.invariant in
    let m = c.message-item.result in
    let k = c.loop-message.message-index in
    let ms = c.args.messages.now in
    let own = owner-of c.args.owners.now (length c.args.boxes.now.items) m.receiver c.from.result at c.requires.each
    (one-of (λ (n : Message). n.receiver < length c.args.owners.now) ms c.requires.receivers k m c.loop-message-test.true c.message-item.is) c.from.ensures c.from-in-loop-message.ensures in
    record {
      count = length-set boxes at new ∙ inv.count;
      put = λ g h. box-put c.args.owners.now (plus_of m) at own.0 (λ x. x.items) (map (λ x. x.items) c.args.boxes.now.items) boxes old new
          (map plus_of (take k ms)) (map plus_of (take (k + 1) ms)) (omega (arith, own.1, inv.count)) c.index_mut.ensures.value c.in_ok-push.ensures.items
          (ap (map plus_of) (take_more ms k m c.loop-message-test.true ∙ ap (λ z. take k ms ++ z ∷ []) (sym c.message-item.is)) ∙ map-append plus_of (take k ms) (m ∷ [])) g (inv.put g h);
      short = λ s. short-set (λ x. x.items) boxes at new c.in_ok-push.ensures.short (inv.short s);
    }

pub returns-clause-put : goal.returns-clause-put
returns-clause-put c = λ g h.
    c.loop-message.invariant.put g h ∙
    ap (λ z. box_of (map (λ x. x.items) c.args.boxes.now.items) g ++ for_group message_order c.args.owners.now g (map plus_of z)) (take_all c.loop-message.message-index c.args.messages.now c.loop-message-test.false)
