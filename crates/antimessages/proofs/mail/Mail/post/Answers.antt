use Rattle.std.proofs.Common.{◌<◌, ◌++◌, map, slice_index_or, sym, ap, ◌∙◌, subst}
use Rattle.virtual_time.specs.Law.{received_by}
use Rattle.vlink.specs.Order.{message_order}
use Rattle.antimessages.specs.Mailing.{letters_for, store_of, HasRoom}
use Rattle.antimessages.proofs.Boxes.{receivers-inside}
use Rattle.antimessages.proofs.mail.Mail.post.Goals as goal

pub reserve_all-requires : goal.reserve_all-requires
reserve_all-requires c =
    receivers-inside c.outbox.inside.letters.items c.deref.result.now c.args.outbox.now.letters c.self.inside.boxes.items c.args.self.now
    c.deref.ensures.value (ap (λ v. v.letters) c.outbox.view_is) c.self.view_is c.requires

pub put_all-requires-clause-receivers : goal.put_all-requires-clause-receivers
put_all-requires-clause-receivers c = λ k d h.
    subst (λ n. (slice_index_or c.deref-2.result.now k d).message.receiver < n) (sym c.reserve_all.ensures.processes)
    (receivers-inside c.outbox.inside.letters.items c.deref-2.result.now c.args.outbox.now.letters c.self.inside.boxes.items c.args.self.now
    c.deref-2.ensures.value (ap (λ v. v.letters) c.outbox.view_is) c.self.view_is c.requires k d h)

pub put_all-requires-clause-room : goal.put_all-requires-clause-room
put_all-requires-clause-room c =
    subst (HasRoom (map store_of c.reserve_all.new.boxes.items)) (c.deref.ensures.value ∙ sym c.deref-2.ensures.value) c.in_ok-reserve_all.ensures.room

pub returns-clause-posted : goal.returns-clause-posted
returns-clause-posted c = λ p.
    c.put_all.ensures.put p ∙
    ap (λ ls. ls ++ received_by message_order p c.deref-2.result.now) (c.reserve_all.ensures.same p ∙ ap (letters_for p) c.self.view_is) ∙
    ap (λ ls. letters_for p c.args.self.now ++ received_by message_order p ls) (c.deref-2.ensures.value ∙ ap (λ v. v.letters) c.outbox.view_is)
