use Rattle.std.proofs.Common.{◌<◌, All, sym, ap, ◌∙◌, subst}
use Rattle.vlink.specs.Order.{message_order}
use Rattle.virtual_time.specs.Law.{received_by}
use Rattle.process_exchange.proofs.opening.mail_and_floors.Goals as goal

pub with_letters-requires : goal.with_letters-requires
with_letters-requires c =
    subst (λ ls. All (λ l. l.message.receiver < c.args.processes) ls) (sym c.in_ok-letters.ensures) c.requires.receivers

pub returns-clause-letters : goal.returns-clause-letters
returns-clause-letters c = λ p. c.in_ok-mail.ensures.letters p ∙ ap (received_by message_order p) c.in_ok-letters.ensures
