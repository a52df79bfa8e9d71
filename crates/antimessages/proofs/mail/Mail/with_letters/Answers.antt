use Rattle.std.proofs.Common.{◌<◌, All, length, sym, ap, subst, arith}
use Rattle.std.proofs.lemmas.List.{length-map}
use Rattle.antimessages.specs.Mailing.{store_of}
use Rattle.antimessages.proofs.Boxes.{receivers-inside, for-none}
use Rattle.antimessages.proofs.mail.Mail.with_letters.Goals as goal

pub push_all-requires : goal.push_all-requires
push_all-requires c =
    receivers-inside c.outbox.inside.letters.items c.deref.result.now c.args.outbox.now.letters c.boxes.inside.boxes.items c.in_ok-boxes.field-0
    c.deref.ensures.value (ap (λ v. v.letters) c.outbox.view_is) c.boxes.view_is
    (subst (λ n. All (λ l. l.message.receiver < n) c.args.outbox.now.letters) (sym c.in_ok-boxes.ensures.processes) c.requires)

pub returns-in_err-push_all-clause-reserved : goal.returns-in_err-push_all-clause-reserved
returns-in_err-push_all-clause-reserved c = λ none.
    let boxes = c.boxes.inside.boxes.items in
    let refused = c.in_err-push_all.ensures.none
    (for-none c.deref.result.now (length boxes) (omega (arith, none, length-map boxes store_of, ap length c.boxes.view_is, c.in_ok-boxes.ensures.processes))
    (receivers-inside c.outbox.inside.letters.items c.deref.result.now c.args.outbox.now.letters boxes c.in_ok-boxes.field-0
    c.deref.ensures.value (ap (λ v. v.letters) c.outbox.view_is) c.boxes.view_is
    (subst (λ n. All (λ l. l.message.receiver < n) c.args.outbox.now.letters) (sym c.in_ok-boxes.ensures.processes) c.requires))) in
    cc
