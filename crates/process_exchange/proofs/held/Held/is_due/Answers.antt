use Rattle.std.proofs.Common.{◌+◌, sym}
use Rattle.reverse.specs.Rules.{rules_of}
use Rattle.reverse.specs.Setting.{simulation_of}
use Rattle.process_exchange.specs.Views.{place_of, own_of}
use Rattle.process_exchange.proofs.Moves.{in_hand}
use Rattle.process_exchange.proofs.Worked.{due-before, idle-before, idle-none}
use Rattle.process_exchange.proofs.held.Held.is_due.Goals as goal

pub returns-in-Some-clause-due : goal.returns-in-Some-clause-due
returns-in-Some-clause-due g c = λ on.
    rw (sym c.self.view_is)
    (due-before (simulation_of (rules_of g.R.Reversible.plain) g.J.ActorRun.setting) (c.self.inside.standing.seen + c.args.window)
    (in_hand (simulation_of (rules_of g.R.Reversible.plain) g.J.ActorRun.setting) c.self.inside.number (own_of c.self.inside.number c.self.inside.standing.last) (place_of c.self.inside.standing.last)
    c.self.inside.standing.seen c.self.inside.gone c.self.inside.block).part c.in-Some.message
    (c.in-Some.ensures.stands _ _ c.self.invariant.0.stands) c.is_within.result c.is_within.ensures on)

pub returns-in-Some-clause-idle : goal.returns-in-Some-clause-idle
returns-in-Some-clause-idle g c = λ off.
    rw (sym c.self.view_is)
    (idle-before (simulation_of (rules_of g.R.Reversible.plain) g.J.ActorRun.setting) (c.self.inside.standing.seen + c.args.window)
    (in_hand (simulation_of (rules_of g.R.Reversible.plain) g.J.ActorRun.setting) c.self.inside.number (own_of c.self.inside.number c.self.inside.standing.last) (place_of c.self.inside.standing.last)
    c.self.inside.standing.seen c.self.inside.gone c.self.inside.block).part c.in-Some.message
    (c.in-Some.ensures.stands _ _ c.self.invariant.0.stands) c.is_within.result c.is_within.ensures off)

pub returns-in-None-clause-idle : goal.returns-in-None-clause-idle
returns-in-None-clause-idle g c = λ off.
    rw (sym c.self.view_is)
    (idle-none (simulation_of (rules_of g.R.Reversible.plain) g.J.ActorRun.setting) (c.self.inside.standing.seen + c.args.window)
    (in_hand (simulation_of (rules_of g.R.Reversible.plain) g.J.ActorRun.setting) c.self.inside.number (own_of c.self.inside.number c.self.inside.standing.last) (place_of c.self.inside.standing.last)
    c.self.inside.standing.seen c.self.inside.gone c.self.inside.block).part (c.in-None.ensures.stands _ _ c.self.invariant.0.stands))
