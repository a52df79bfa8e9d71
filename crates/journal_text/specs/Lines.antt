-- The lines of a text, and which of them is refused.
use Rattle.std.specs.Prelude.{ℕ, ◌≡◌, ◌<◌, ◌≤◌, ◌-◌, ◌==◌, ◌⊎◌, All, length, take, slice_index_or, if◌then◌else◌, List, [], ◌∷◌, Result, MatchResult}
use Rattle.std.specs.Global.{Vec}
use Rattle.std.specs.List.{onto_first}
use Rattle.virtual_time.specs.declared.step.Step.{Step}
use Rattle.journal_text.specs.declared.fault.LinesFault.{LinesFault}
use Rattle.journal_text.specs.declared.fault.LinesFault.TheVariants.{TooMany, BadLine, OutOfMemory}
use Rattle.journal_text.specs.Text.{Fits, step_line}

-- the lines of a text, each with the line feed at its end; the last may have none
abbrev pub lines : List ℕ → List (List ℕ)
lines [] = []
lines (b ∷ bs) = if b == 10 then (10 ∷ []) ∷ lines bs else onto_first b (lines bs)

-- a line is the line of a step
abbrev pub IsStepLine : List ℕ → Type 0
IsStepLine line = (step : Step) × Fits step × (line ≡ step_line step)

-- line n, from 1, is the first that is the line of no step
pub record IsFirstBad (text : List ℕ) (n : ℕ) : Type 0 where
  pub from_one : 1 ≤ n
  pub there : n ≤ length (lines text)
  pub before : All IsStepLine (take (n - 1) (lines text))
  pub bad : ¬ (IsStepLine (slice_index_or (lines text) (n - 1) []))

-- the cause of each refusal, where `most` lines are allowed
abbrev pub HasCause : List ℕ → ℕ → LinesFault → Type 0
HasCause text most TooMany = most < length (lines text)
HasCause text most (BadLine n) = (length (lines text) ≤ most) × IsFirstBad text n
HasCause text most OutOfMemory = length (lines text) ≤ most

-- the result is these steps, unless memory was refused
abbrev pub AreRead : List Step → Result (Vec Step) LinesFault → Type 0
AreRead steps result = MatchResult result (λ read. read.items ≡ steps) (λ fault. fault ≡ OutOfMemory)

-- the result is this refusal, unless memory was refused
abbrev pub IsRefused : LinesFault → Result (Vec Step) LinesFault → Type 0
IsRefused cause result = MatchResult result (λ read. ⊥) (λ fault. (fault ≡ cause) ⊎ (fault ≡ OutOfMemory))
