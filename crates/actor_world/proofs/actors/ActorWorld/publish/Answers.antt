use Rattle.std.proofs.Common.{refl, sym, ◌∙◌}
use Rattle.reverse.specs.Rules.{rules_of}
use Rattle.reverse.specs.Setting.{simulation_of}
use Rattle.virtual_time.specs.Law.{start, run}
use Rattle.actor_world.proofs.Exchanging.{gvt-did}
use Rattle.actor_world.proofs.actors.ActorWorld.publish.Goals as goal

pub returns-clause-stepped : goal.returns-clause-stepped
returns-clause-stepped g c =
    rw (sym c.self.view_is)
    (gvt-did _ _ _ _ _ _ _ (λ x laid steps h.
    let f = simulation_of (rules_of g.R.Reversible.plain) x in
    c.horizon-self-inside.ensures
    ∙ c.gvt_law.ensures f (λ m. refl) (run f steps (start f)) c.self.inside.floors c.self.inside.mail (sym h.floor_count) (sym h.boxes) (sym h.until) h.floors h.mail))
