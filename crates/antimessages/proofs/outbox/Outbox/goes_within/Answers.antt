use Rattle.std.proofs.Common.{◌↔◌, ◌<◌, ◌∙◌, All, IsTrue, List, ap, subst}
use Rattle.vlink.specs.Letters.{Letter}
use Rattle.antimessages.proofs.outbox.Outbox.goes_within.Goals as goal

pub returns : goal.returns
returns c =
    subst (λ (letters : List Letter). IsTrue c.are_within.result ↔ All (λ letter. letter.message.receiver < c.args.processes) letters)
    (c.deref.ensures.value ∙ ap (λ b. b.letters) c.self.view_is) c.are_within.ensures
