-- What contracts see of the words of a block, and the steps for which they stand.
use Rattle.std.specs.Prelude.{◌≡◌, ℕ, ◌+◌, Bool, true, false, List, [], ◌∷◌, ◌++◌, length, min, Option, Some, None}
use Rattle.virtual_time.specs.Law.{one_if}
use Rattle.virtual_time.specs.declared.step.Step.{Step}
use Rattle.virtual_time.specs.declared.step.Step.TheVariants.{Take, Arrive, Run, Post, Commit}
use Rattle.group_queues.specs.declared.block.Word.{Word}
use Rattle.group_queues.specs.declared.block.Word.TheVariants.{Ran, Home, Taken, Arrived, Committed}

-- the words, whether they are kept to be read, and for how many more there is room
pub record Block : Type 0 where
  pub words : List Word
  pub keeps : Bool
  pub room : ℕ

-- room in proofs, and where words are kept
abbrev pub room_of : ℕ → Option ℕ → ℕ
room_of told None = told
room_of told (Some kept) = min told kept

-- the steps for which a word stands
abbrev pub steps_of_word : Word → List Step
steps_of_word (Ran p) = Run p ∷ Post p ∷ []
steps_of_word (Home p) = Take p 0 ∷ Arrive p ∷ []
steps_of_word (Taken p) = Take p 0 ∷ []
steps_of_word (Arrived p) = Arrive p ∷ Post p ∷ []
steps_of_word (Committed p) = Commit p ∷ []

abbrev pub steps_told : List Word → List Step
steps_told [] = []
steps_told (d ∷ ds) = steps_of_word d ++ steps_told ds

-- whether the word says that a message was handled, or that an event was committed
abbrev pub is_run : Word → Bool
is_run (Ran p) = true
is_run (Home p) = false
is_run (Taken p) = false
is_run (Arrived p) = false
is_run (Committed p) = false

abbrev pub is_commit : Word → Bool
is_commit (Ran p) = false
is_commit (Home p) = false
is_commit (Taken p) = false
is_commit (Arrived p) = false
is_commit (Committed p) = true

-- how many of these words are of messages that were handled, and how many of events that were committed
abbrev pub runs_in : List Word → ℕ
runs_in [] = 0
runs_in (d ∷ ds) = one_if (is_run d) + runs_in ds

abbrev pub commits_in : List Word → ℕ
commits_in [] = 0
commits_in (d ∷ ds) = one_if (is_commit d) + commits_in ds

-- words of letters alone joined the block
pub record AddsLetters (old new : List Word) : Type 0 where
  pub added : List Word
  pub words : new ≡ old ++ added
  pub no_run : runs_in added ≡ 0
  pub no_commit : commits_in added ≡ 0

-- process p handled a message: the word of that joined the block, and behind it words of letters alone
pub record AddsRun (p : ℕ) (old new : List Word) : Type 0 where
  pub added : List Word
  pub words : new ≡ old ++ Ran p ∷ added
  pub no_run : runs_in added ≡ 0
  pub no_commit : commits_in added ≡ 0

-- words of committed events alone joined the block
pub record AddsCommits (old new : List Word) : Type 0 where
  pub added : List Word
  pub words : new ≡ old ++ added
  pub commits : commits_in added ≡ length added
