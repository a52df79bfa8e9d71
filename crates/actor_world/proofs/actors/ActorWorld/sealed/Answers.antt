use Rattle.std.proofs.Common.{◌<◌, drop, length, sym, ap, ◌∙◌, subst}
use Rattle.virtual_time.specs.Law.{rowed, start, run}
use Rattle.reverse.specs.Rules.{rules_of}
use Rattle.reverse.specs.Setting.{simulation_of}
use Rattle.actor_world.specs.Worlds.{Holdings, StandsForWorld}
use Rattle.actor_world.proofs.Holding.{queues-at}
use Rattle.actor_world.proofs.actors.ActorWorld.sealed.Goals as goal

pub returns : goal.returns
returns g c = λ x laid steps h.
    let f = simulation_of (rules_of g.R.Reversible.plain) x in
    let w = run f steps (start f) in
    let p = c.args.process in
    let there = subst (λ (o : Holdings g.row.R.Denot g.row.R-Record.Denot). p < length o.processes) (sym c.self.view_is) c.requires in
    let k = subst (StandsForWorld f g.R.Reversible.is_value w) (sym c.self.view_is) h in
    let here = queues-at c.self.inside.processes.items p c.from.result c.index.result.now c.from.ensures there c.index.ensures in
    c.sealed.ensures (x.opening p) (w.parts p) (k.parts p _ here) ∙ ap (λ n. drop n (rowed f.rules (x.opening p) (w.parts p).committed)) (k.whole p _ here)
