-- What contracts see of the steps of a journal.
use Rattle.std.specs.Prelude.{ℕ, Bool, List, min, Option, Some, None}
use Rattle.virtual_time.specs.declared.step.Step.{Step}

-- the steps, whether they are kept to be read, and for how many more there is room
pub record StepList : Type 0 where
  pub steps : List Step
  pub keeps : Bool
  pub room : ℕ

-- room in proofs, and where steps are kept
abbrev pub room_of : ℕ → Option ℕ → ℕ
room_of told None = told
room_of told (Some kept) = min told kept
