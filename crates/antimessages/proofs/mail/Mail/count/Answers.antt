use Rattle.std.proofs.Common.{length, sym, ap, ◌∙◌}
use Rattle.antimessages.proofs.Boxes.{box-letters, no-box}
use Rattle.antimessages.proofs.mail.Mail.count.Goals as goal

pub returns-in-Some : goal.returns-in-Some
returns-in-Some c =
    let l = c.in-Some.ensures.lookup in
    let box = box-letters c.self.inside.boxes.items c.deref.result.now c.from.result c.args.process c.args.self.now c.deref.ensures.value c.from.ensures c.self.view_is c.in-Some.letters.now l.3.0 l.1 in
    c.len.ensures ∙ (c.in-Some.letters.now.ok.0 ∙ sym (ap length box))

pub returns-in-None : goal.returns-in-None
returns-in-None c =
    sym (ap length (no-box c.self.inside.boxes.items c.deref.result.now c.from.result c.args.process c.args.self.now c.deref.ensures.value c.from.ensures c.self.view_is c.in-None.ensures.lookup.3))
