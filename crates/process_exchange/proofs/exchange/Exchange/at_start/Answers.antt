use Rattle.std.proofs.Common.{◌<◌, map, Some, sym, ap, ◌∙◌, subst, arith}
use Rattle.virtual_time.specs.Law.{plus_of, received_by}
use Rattle.reverse.specs.Rules.{rules_of}
use Rattle.process_exchange.specs.Views.{marks_in}
use Rattle.process_exchange.proofs.Marks.{marks-blank}
use Rattle.process_exchange.proofs.Opened.{until-next, offers-go, kept-opened}
use Rattle.process_exchange.proofs.exchange.Exchange.at_start.Goals as goal

pub mail_and_floors-requires-clause-receivers : goal.mail_and_floors-requires-clause-receivers
mail_and_floors-requires-clause-receivers g c =
    let L = c.actor_law.ensures g.J.ActorRun.setting c.requires.layout in
    offers-go c.requires.layout L.order c.args.offers.now c.requires.offers c.args.processes c.requires.processes

pub invariant_of-result : goal.invariant_of-result
invariant_of-result g c =
    let r = rules_of g.R.Reversible.plain in
    let x = g.J.ActorRun.setting in
    let count = c.requires.processes in
    let made = c.in_ok-mail.ensures in (
      omega arith,
      c.requires.most,
      kept-opened c.requires.layout
          c.in_ok-mail.mail (made.boxes ∙ count) (λ p. made.letters p ∙ ap (received_by r.order p) (ap (map plus_of) c.requires.offers))
          c.in_ok-mail.floors (made.floors ∙ count) (made.until ∙ c.requires.until)
          (λ p i. made.each p (subst (λ n. p < n) (sym count) i) ∙ ap (λ n. Some n) (until-next c.args.until x.until c.requires.until))
          _ c.requires.blanks c.new-journal.result.entries c.new-journal.ensures.entries c.default.result c.default.ensures,
      c.requires.names,
      c.new-journal.ensures.keeps ∙ c.requires.keeps,
    )

pub returns-clause-opened : goal.returns-clause-opened
returns-clause-opened g c =
    λ i. record { entries = c.new-journal.ensures.entries i; marks = (ap marks_in c.requires.blanks ∙ marks-blank g.J.ActorRun.setting.processes) i; shared = c.new-journal.ensures.shared i; limit = c.args.limit }
