use Rattle.std.proofs.Common.{◌∙◌, sym, ap, arith, Some}
use Rattle.reverse.specs.Rules.{rules_of}
use Rattle.actor_world.proofs.Opening.{offers-go, opens}
use Rattle.actor_world.proofs.actors.ActorWorld.new.Goals as goal

pub offered-requires : goal.offered-requires
offered-requires g c =
    offers-go (rules_of g.R.Reversible.plain) c.actor_rules_law.ensures.order g.R.Actor.number g.R.Actor.end g.R.Actor.is_placed g.R.Reversible.is_value
    c.args.actors.items c.args.offers.now c.args.until c.requires.layout _ (omega (arith, c.process_number-count.ensures, c.len.ensures, c.args.actors.ok.0))

pub returns-clause-opens : goal.returns-clause-opens
returns-clause-opens g c = λ x o e.
    let floors = c.in_ok-floors.ensures in
    opens (rules_of g.R.Reversible.plain) g.R.Reversible.is_value x c.args.actors.items c.args.offers.now o
    _ c.in_ok-processes.ensures.processes
    c.in_ok-mail.mail (omega (arith, c.process_number-count.ensures, c.len.ensures, c.in_ok-mail.ensures.processes, c.args.actors.ok.0))
    c.in_ok-mail.ensures.letters
    c.in_ok-floors.floors.floors (omega (arith, floors.processes, c.process_number-count.ensures, c.len.ensures, c.args.actors.ok.0))
    (λ p i. floors.each p (omega (arith, i, c.process_number-count.ensures, c.len.ensures, c.args.actors.ok.0)) ∙ ap (λ z. Some z) (omega (arith, e)))
    c.default.result c.default.ensures c.in_ok-floors.floors.until (floors.until ∙ sym e)
