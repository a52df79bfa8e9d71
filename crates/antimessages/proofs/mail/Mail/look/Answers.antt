use Rattle.std.proofs.Common.{slice_get, sym, ap, ◌∙◌}
use Rattle.antimessages.proofs.Boxes.{box-letters, letter-read, no-box}
use Rattle.antimessages.proofs.mail.Mail.look.Goals as goal

pub returns-in-Some : goal.returns-in-Some
returns-in-Some c =
    let l = c.in-Some.ensures.lookup in
    let box = box-letters c.self.inside.boxes.items c.deref.result.now c.from.result c.args.process c.args.self.now c.deref.ensures.value c.from.ensures c.self.view_is c.in-Some.letters.now l.3.0 l.1 in
    c.copied.ensures ∙ (letter-read c.in-Some.letters.now.items c.args.place c.get-in-Some.result c.get-in-Some.ensures.item ∙ sym (ap (λ z. slice_get z c.args.place) box))

pub returns-in-None : goal.returns-in-None
returns-in-None c =
    sym (ap (λ z. slice_get z c.args.place)
    (no-box c.self.inside.boxes.items c.deref.result.now c.from.result c.args.process c.args.self.now c.deref.ensures.value c.from.ensures c.self.view_is c.in-None.ensures.lookup.3))
