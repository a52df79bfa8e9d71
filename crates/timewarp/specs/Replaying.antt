-- What a replay of a journal counts: each of its steps is done, or is not enabled, or names no process.
use Rattle.std.specs.Prelude.{ℕ, ◌+◌, not, ◌&&◌, List, [], ◌∷◌}
use Rattle.virtual_time.specs.declared.step.Step.{Step}
use Rattle.virtual_time.specs.Law.{one_if, Simulation, World, is_enabled, step}
use Rattle.antimessages.specs.Steps.{names_none}

module _ {M S K N : Type 0} (f : Simulation M S K N) where
  -- how many of these steps are done, one after another, from the world w on
  abbrev pub did : List Step → World M S → ℕ
  did [] w = 0
  did (x ∷ xs) w = one_if (is_enabled f x w) + did xs (step f x w)

  -- how many name a process that there is, and are not enabled
  abbrev pub not_enabled : List Step → World M S → ℕ
  not_enabled [] w = 0
  not_enabled (x ∷ xs) w =
      one_if (not (names_none f.processes x) && not (is_enabled f x w)) + not_enabled xs (step f x w)

  -- how many name a process that there is not
  abbrev pub refused : List Step → ℕ
  refused [] = 0
  refused (x ∷ xs) = one_if (names_none f.processes x) + refused xs
