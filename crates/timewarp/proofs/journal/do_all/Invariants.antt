use Rattle.std.proofs.Common.{◌≡◌, ◌+◌, ◌<◌, ℕ, Some, slice_get, take}
use Rattle.virtual_time.specs.declared.step.Step.{Step}
use Rattle.nodes.specs.Words.{simulation_of}
use Rattle.actor_world.specs.Worlds.{IsExhausted}
use Rattle.seqsim.specs.Committed.{after}
use Rattle.timewarp.specs.Replayed.{IsReplayed}
use Rattle.timewarp.proofs.journal.do_all.Given as goal

abbrev pub invariant-loop-step : goal.invariant-loop-step
invariant-loop-step l =
    record {
      replayed : IsReplayed l.replay (take l.step-index l.steps);
      network : l.replay.world.plan ≡ l.initial.replay.world.plan;
      totals : l.replay.did + l.replay.not_enabled + l.replay.refused ≡ l.step-index;
      numbered : (n : ℕ) (x : Step) → n < l.step-index → slice_get l.steps n ≡ Some x →
          ¬ (IsExhausted (simulation_of l.initial.replay.world.plan) x (after l.initial.replay.world.plan (take n l.steps)));
    }
