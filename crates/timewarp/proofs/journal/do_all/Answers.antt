use Rattle.std.proofs.Common.{◌≡◌, ◌∙◌, inl, inr, Some, Err, slice_get, take, get_or, true, sym, subst, arith}
use Rattle.std.proofs.lemmas.Bool.{cases_lt}
use Rattle.std.proofs.lemmas.List.{take_more}
use Rattle.std.proofs.lemmas.Option.{slice_get-get_or, slice_get_within, get_or_from_slice_get}
use Rattle.std.proofs.lemmas.Result.{err_from_is_err_and}
use Rattle.virtual_time.specs.declared.step.Step.TheVariants.{Take}
use Rattle.virtual_time.specs.Law.{is_enabled}
use Rattle.network.specs.Words.{Plan}
use Rattle.nodes.specs.Words.{simulation_of}
use Rattle.actor_world.specs.declared.fault.StepFault.TheVariants.{Exhausted, OutOfMemory}
use Rattle.seqsim.specs.Committed.{after}
use Rattle.timewarp.specs.Replayed.{IsReplayed}
use Rattle.actor_world.specs.Worlds.{IsExhausted}
use Rattle.timewarp.proofs.journal.do_all.Goals as goal

pub returns-in_err-do_step-clause-exhausted : goal.returns-in_err-do_step-clause-exhausted
returns-in_err-do_step-clause-exhausted c = λ e.
    let p = err_from_is_err_and c.from_residual.result c.from_residual.ensures.1 in
    let q : p.0 ≡ c.in_err-do_step.field-0.0 = p.2 in
    let w : c.do_step.result ≡ Err c.in_err-do_step.field-0.0 = c.in_err-do_step.was in
    let k : c.do_step.result ≡ Err Exhausted = cc in
    let steps = c.args.steps.now in
    let i = c.loop-step.step-index in
    let x = get_or steps i (Take 0 0) in (
      i,
      x,
      record {
        replayed = c.in_err-do_step.ensures.refused (take i steps) c.loop-step.invariant.replayed;
        there = slice_get-get_or steps i (Take 0 0) (omega (arith, c.loop-step-test.true));
      },
      subst (λ (plan : Plan). IsExhausted (simulation_of plan) x (after plan (take i steps))) c.loop-step.invariant.network
          ((c.do_step.ensures.exhausted (take i steps) c.loop-step.invariant.replayed).0 k),
    )

pub returns-in_err-do_step-clause-memory : goal.returns-in_err-do_step-clause-memory
returns-in_err-do_step-clause-memory c = λ e.
    let p = err_from_is_err_and c.from_residual.result c.from_residual.ensures.1 in
    let q : p.0 ≡ c.in_err-do_step.field-0.0 = p.2 in
    let w : c.do_step.result ≡ Err c.in_err-do_step.field-0.0 = c.in_err-do_step.was in
    let k : c.do_step.result ≡ Err OutOfMemory = cc in
    let steps = c.args.steps.now in
    let i = c.loop-step.step-index in
    let x = get_or steps i (Take 0 0) in (
      i,
      x,
      record {
        replayed = c.in_err-do_step.ensures.refused (take i steps) c.loop-step.invariant.replayed;
        there = slice_get-get_or steps i (Take 0 0) (omega (arith, c.loop-step-test.true));
      },
      subst (λ (plan : Plan). is_enabled (simulation_of plan) x (after plan (take i steps)) ≡ true) c.loop-step.invariant.network
          (c.do_step.ensures.memory k (take i steps) c.loop-step.invariant.replayed),
      λ exhausted.
          let met = subst (λ (plan : Plan). IsExhausted (simulation_of plan) x (after plan (take i steps))) (sym c.loop-step.invariant.network) exhausted in
          let told = (c.do_step.ensures.exhausted (take i steps) c.loop-step.invariant.replayed).1 met in cc,
    )

pub loop-step-preserved : goal.loop-step-preserved
loop-step-preserved c =
    let steps = c.args.steps.now in
    let plan = c.args.replay.now.world.plan in
    let i = c.loop-step.step-index in
    record {
      replayed = subst (IsReplayed c.do_step.new.self) (sym (take_more steps i (Take 0 0) (omega (arith, c.loop-step-test.true))))
          (c.in_ok-do_step.ensures.replayed (take i steps) c.loop-step.invariant.replayed);
      network = c.do_step.ensures.network ∙ c.loop-step.invariant.network;
      totals = let a = c.in_ok-do_step.ensures.totals in let b = c.loop-step.invariant.totals in omega arith;
      numbered = λ n x near here exhausted.
          elim (cases_lt n i) [
            | inl before ↦ c.loop-step.invariant.numbered n x before here exhausted
            | inr from ↦
                let y = get_or steps i (Take 0 0) in
                let same : n ≡ i = omega (arith, near, from) in
                let is : y ≡ x = get_or_from_slice_get steps i x (Take 0 0) (subst (λ k. slice_get steps k ≡ Some x) same here) in
                let now = subst (λ k. IsExhausted (simulation_of plan) x (after plan (take k steps))) same exhausted in
                let of_it = subst (λ z. IsExhausted (simulation_of plan) z (after plan (take i steps))) (sym is) now in
                let met = subst (λ (plan : Plan). IsExhausted (simulation_of plan) y (after plan (take i steps))) (sym c.loop-step.invariant.network) of_it in
                let told = (c.do_step.ensures.exhausted (take i steps) c.loop-step.invariant.replayed).1 met in
                let went = c.in_ok-do_step.was in cc
          ];
    }

pub returns-clause-numbered : goal.returns-clause-numbered
returns-clause-numbered c = λ n x here exhausted.
    let within = slice_get_within c.args.steps.now n x here in
    c.loop-step.invariant.numbered n x (omega (arith, within, c.loop-step-test.false)) here exhausted
