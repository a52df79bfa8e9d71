use Rattle.std.proofs.Common.{◌≡◌, map, min, slice_get, Some, Err, sym, ap, ◌∙◌, option_map}
use Rattle.std.proofs.lemmas.Result.{err_from_is_err_and}
use Rattle.process_queues.specs.Queues.{Queues, InHand}
use Rattle.actor_world.specs.Faults.{fault_of}
use Rattle.actor_world.proofs.Holding.{queues-at, queues-set, queues-same}
use Rattle.actor_world.proofs.Exchanging.{take-did, take-none, take-refused, floors-within}
use Rattle.actor_world.proofs.actors.ActorWorld.take.Given.{Over}
use Rattle.actor_world.proofs.actors.ActorWorld.take.Goals.{After-index_mut}
use Rattle.actor_world.proofs.actors.ActorWorld.take.Goals as goal

-- the process in hand
here : (g : Over) (c : After-index_mut g) →
    slice_get (map (λ (u : InHand g.row.R.Denot g.row.R-Record.Denot). u.queues) c.self.inside.processes.items) c.args.process ≡ Some c.index_mut.result.now.queues
here g c =
    queues-at c.self.inside.processes.items c.args.process c.from.result c.index_mut.result.now c.from.ensures
    (rw (sym c.self.view_is) at c.requires.there) c.index_mut.ensures.value

pub returns-in_default : goal.returns-in_default
returns-in_default g c = rw (sym c.self.view_is) (take-none _ _ _ _ _ _ c.args.process (rw (sym c.self.view_is) at c.requires.there) c.args.place (sym c.in_default.ensures))

pub returns-in_err-deliver : goal.returns-in_err-deliver
returns-in_err-deliver g c =
    let e = err_from_is_err_and c.from_residual.result c.from_residual.ensures.1 in
    let unchanged = queues-same c.self.inside.processes.items c.from.result c.index_mut.result.now c.deliver.new.self c.index_mut.ensures.value c.in_err-deliver.ensures.unchanged in
    rw (sym c.self.view_is)
    (take-refused _ _ _ _ _ _ _ _ (here g (goal.at.returns-in_err-deliver g c).After-index_mut) c.args.place c.in-Some.letter (sym c.in-Some.ensures) _ unchanged _
    (e.1 ∙ ap (λ z. Err z) (e.2 ∙ ap fault_of c.in_err-deliver.ensures.memory)))

pub lower-requires : goal.lower-requires
lower-requires g c = rw (sym c.self.view_is) at (floors-within _ _ _ _ _ _ c.requires.world c.args.process c.requires.there)

pub returns : goal.returns
returns g c =
    rw (sym c.self.view_is)
    (take-did _ _ _ _ _ _ _ _ (here g (goal.at.returns g c).After-index_mut) c.deliver.new.self.queues _
    (queues-set c.self.inside.processes.items c.args.process c.from.result c.deliver.new.self c.from.ensures)
    c.take-taken.new.self c.take-taken.ensures.processes
    c.lower.new.self.floors c.lower.ensures.processes c.lower.ensures.others
    c.lower.new.self.until c.lower.ensures.until
    c.args.place c.in-Some.letter (sym c.in-Some.ensures) c.in_ok-deliver.ensures.delivered
    (ap (λ (z : Queues g.row.R.Denot g.row.R-Record.Denot). z.left) c.in_ok-deliver.ensures.tray) c.take-taken.ensures.left c.take-taken.ensures.others
    (c.lower.ensures.lowered ∙ ap (λ t. option_map (min t) (slice_get c.self.inside.floors.floors c.args.process)) c.time_of-time.ensures))
