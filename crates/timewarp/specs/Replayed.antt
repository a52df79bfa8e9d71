-- The results of a replay after steps of a journal.
use Rattle.std.specs.Prelude.{◌≡◌, ℕ, List, Some, slice_get, take}
use Rattle.virtual_time.specs.declared.step.Step.{Step}
use Rattle.virtual_time.specs.Law.{start}
use Rattle.nodes.specs.Words.{simulation_of}
use Rattle.timewarp.specs.declared.replaying.Replay.{Replay}
use Rattle.timewarp.specs.Networks.{IsAfter}
use Rattle.timewarp.specs.Replaying as count

-- the world is the one after these steps, and each of them was counted
pub record IsReplayed (replay : Replay) (steps : List Step) : Type 0 where
  pub after : IsAfter replay.world steps
  pub did : replay.did ≡ count.did (simulation_of replay.world.plan) steps (start (simulation_of replay.world.plan))
  pub not_enabled : replay.not_enabled ≡ count.not_enabled (simulation_of replay.world.plan) steps (start (simulation_of replay.world.plan))
  pub refused : replay.refused ≡ count.refused (simulation_of replay.world.plan) steps

-- the first n of these steps are done and counted, and the next one is this
pub record StandsBefore (replay : Replay) (steps : List Step) (n : ℕ) (next : Step) : Type 0 where
  pub replayed : IsReplayed replay (take n steps)
  pub there : slice_get steps n ≡ Some next
