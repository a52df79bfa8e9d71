use Rattle.std.proofs.Common.{◌≡◌, ◌<◌, map, length, nat_lt, slice_get, Some, Err, refl, sym, ap, ◌∙◌, subst, arith, lt-ltb}
use Rattle.std.proofs.lemmas.Result.{err_from_is_err_and}
use Rattle.virtual_time.specs.declared.moved.Move.TheVariants.{Arrived}
use Rattle.process_queues.specs.Queues.{InHand}
use Rattle.actor_world.specs.Faults.{fault_of}
use Rattle.actor_world.proofs.Holding.{queues-at, queues-set, queues-same}
use Rattle.actor_world.proofs.Acting.{moved-none, moved-did, moved-refused}
use Rattle.actor_world.proofs.actors.ActorWorld.arrive.Given.{Over}
use Rattle.actor_world.proofs.actors.ActorWorld.arrive.Goals.{After-index_mut-process}
use Rattle.actor_world.proofs.actors.ActorWorld.arrive.Goals as goal

-- the process in hand
here : (g : Over) (c : After-index_mut-process g) →
    slice_get (map (λ (u : InHand g.row.R.Denot g.row.R-Record.Denot). u.queues) c.self.inside.processes.items) c.args.process ≡ Some c.index_mut-process.result.now.queues
here g c =
    queues-at c.self.inside.processes.items c.args.process c.from.result c.index_mut-process.result.now c.from.ensures
    (rw (sym c.self.view_is) at c.requires.there) c.index_mut-process.ensures.value

pub returns-then-tray_len-eq0 : goal.returns-then-tray_len-eq0
returns-then-tray_len-eq0 g c =
    let unchanged = queues-same c.self.inside.processes.items c.from.result c.index_mut-process.result.now c.index_mut-process.result.now c.index_mut-process.ensures.value refl in
    rw (sym c.self.view_is)
    (moved-none _ _ _ _ _ _ _ _ (here g (goal.at.returns-then-tray_len-eq0 g c).After-index_mut-process) Arrived
    (λ x part h. ap (nat_lt 0) (sym (ap length h.tray) ∙ (sym c.tray_len.ensures.value ∙ c.if-tray_len-eq0.true))) _ unchanged)

pub returns-in_err-arrive : goal.returns-in_err-arrive
returns-in_err-arrive g c =
    let some : 0 < length c.index_mut-process.result.now.queues.tray = let a = c.tray_len.ensures.value in let b = c.if-tray_len-eq0.false in omega arith in
    let e = err_from_is_err_and c.from_residual.result c.from_residual.ensures.1 in
    let unchanged = queues-same c.self.inside.processes.items c.from.result c.index_mut-process.result.now c.arrive.new.self c.index_mut-process.ensures.value c.in_err-arrive.ensures.unchanged in
    rw (sym c.self.view_is)
    (moved-refused _ _ _ _ _ _ _ _ (here g (goal.at.returns-in_err-arrive g c).After-index_mut-process) Arrived (λ x laid steps h d. d)
    (λ x part h. lt-ltb 0 _ (subst (λ t. 0 < length t) h.tray some))
    _ unchanged _ (e.1 ∙ ap (λ z. Err z) (e.2 ∙ ap fault_of c.in_err-arrive.ensures.memory)))

pub returns : goal.returns
returns g c =
    let some : 0 < length c.index_mut-process.result.now.queues.tray = let a = c.tray_len.ensures.value in let b = c.if-tray_len-eq0.false in omega arith in
    rw (sym c.self.view_is)
    (moved-did _ _ _ _ _ _ _ _ (here g (goal.at.returns g c).After-index_mut-process) Arrived (λ x laid steps h d. d)
    (λ x part h. lt-ltb 0 _ (subst (λ t. 0 < length t) h.tray some))
    _ c.in_ok-arrive.ensures.arrived c.arrive.ensures.left _ (queues-set c.self.inside.processes.items c.args.process c.from.result c.arrive.new.self c.from.ensures))
