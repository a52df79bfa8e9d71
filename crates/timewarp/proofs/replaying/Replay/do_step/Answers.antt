use Rattle.std.proofs.Common.{◌≡◌, ◌+◌, true, false, Err, refl, sym, ap, subst, arith, is_ok}
use Rattle.std.proofs.lemmas.Bool.{false≢true, false_from_ne_true}
use Rattle.nodes.specs.Words.{simulation_of}
use Rattle.network.specs.Words.{Plan}
use Rattle.antimessages.specs.Steps.{names_none}
use Rattle.timewarp.specs.declared.replaying.Replay.{Replay}
use Rattle.actor_world.specs.declared.fault.StepFault.{StepFault}
use Rattle.seqsim.specs.Committed.{after}
use Rattle.actor_world.proofs.Answering.{step-not}
use Rattle.timewarp.proofs.Counts.{counted, counted-total, replayed, unknown-not-enabled}
use Rattle.timewarp.proofs.NetworkWorlds.{stepped-same}
use Rattle.timewarp.proofs.replaying.Replay.do_step.Goals as goal

pub returns-in-Ok-clause-replayed : goal.returns-in-Ok-clause-replayed
returns-in-Ok-clause-replayed c = λ steps h.
    counted c.in-Ok.done c.args.self.now c.step.new.self c.count.new.did c.count.new.not_enabled c.count.ensures.did c.count.ensures.not_enabled c.args.step steps c.step.ensures.network h
    (c.in-Ok.ensures.after steps h.after) (c.in-Ok.ensures.enabled steps h.after)
    (false_from_ne_true _ (λ e. false≢true (sym (ap is_ok (c.in-Ok.ensures.no_process.1 e)))))

pub returns-in-Ok-clause-totals : goal.returns-in-Ok-clause-totals
returns-in-Ok-clause-totals c = counted-total c.in-Ok.done c.args.self.now c.count.new.did c.count.new.not_enabled c.count.ensures.did c.count.ensures.not_enabled

pub returns-in-Err-NoProcess-clause-replayed : goal.returns-in-Err-NoProcess-clause-replayed
returns-in-Err-NoProcess-clause-replayed c = λ steps h.
    let old = c.args.self.now in
    let new : Replay = record { world = c.step.new.self; did = old.did; not_enabled = old.not_enabled; refused = old.refused + 1 } in
    let unknown : names_none (simulation_of old.world.plan).processes c.args.step ≡ true =
    c.in-Err-NoProcess.ensures.no_process.0 (ap (λ (fault : StepFault). Err fault) c.in-Err-NoProcess.field-0-is) in
    let there : names_none (simulation_of new.world.plan).processes c.args.step ≡ true =
    subst (λ (plan : Plan). names_none (simulation_of plan).processes c.args.step ≡ true) (sym c.step.ensures.network) unknown in
    replayed old new c.args.step steps false true c.step.ensures.network h
    (stepped-same new.world.plan new.world.held steps c.args.step
    (step-not (simulation_of new.world.plan) c.args.step (after new.world.plan steps)
    (unknown-not-enabled (simulation_of new.world.plan) c.args.step (after new.world.plan steps) there))
    (c.in-Err-NoProcess.ensures.refused steps h.after))
    (unknown-not-enabled (simulation_of old.world.plan) c.args.step (after old.world.plan steps) unknown)
    unknown
    (omega arith) (omega arith) refl
