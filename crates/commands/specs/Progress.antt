-- What error output shows of a run: how far it is, and of a run by workers which groups and workers it has.
use Rattle.std.specs.Prelude.{◌≡◌, ◌⊎◌, ◌≤◌, ◌/◌, ◌++◌, ◌∷◌, ℕ, Bool, true, false, List, [], Option, ⊤, codes, decimal, flat_map}
use Rattle.commands.specs.Ending.{Took}

-- on a terminal a line goes into the place of the one before it: the cursor goes up, and that line is wiped
abbrev pub upwards : List ℕ
upwards = 27 ∷ codes "[1A" ++ 27 ∷ codes "[2K"

-- so many milliseconds of so many, and behind that what a clock and a count of events say
abbrev pub progress_text : ℕ → ℕ → List ℕ → List ℕ
progress_text moment until rest = codes "afdxsim: " ++ decimal moment ++ codes " of " ++ decimal until ++ codes " ms" ++ rest ++ 10 ∷ []

-- a line that tells how far a run is, in whole milliseconds up to its end
pub record IsProgressLine (until : ℕ) (line : List ℕ) : Type 0 where
  pub front : List ℕ
  pub moment : ℕ
  pub rest : List ℕ
  pub place : (front ≡ []) ⊎ (front ≡ upwards)
  pub within : moment ≤ until / 1000000
  pub text : line ≡ front ++ progress_text moment (until / 1000000) rest

-- so many groups of processes, and so many workers
abbrev pub groups_text : ℕ → ℕ → List ℕ
groups_text groups workers = codes "afdxsim: " ++ decimal groups ++ codes " groups, " ++ decimal workers ++ codes " workers" ++ 10 ∷ []

-- lines of one kind
abbrev pub AreLines : (List ℕ → Type 0) → List (List ℕ) → Type 0
AreLines IsLine [] = ⊤
AreLines IsLine (line ∷ lines) = IsLine line × AreLines IsLine lines

-- a stream took lines of this kind and nothing else, unless a write to it failed
pub record HearsLines {E : Type 0} (taken : E → Option (List ℕ)) (failures : E → ℕ) (IsLine : List ℕ → Type 0) (old new : E) : Type 0 where
  pub failed : failures old ≤ failures new
  pub lines : failures new ≡ failures old → (lines : List (List ℕ)) × AreLines IsLine lines × Took taken old new (flat_map (λ line. line) lines)

-- that, where it is asked for; else it took nothing
abbrev pub HearsAsked : {E : Type 0} → (E → Option (List ℕ)) → (E → ℕ) → Bool → (List ℕ → Type 0) → E → E → Type 0
HearsAsked taken failures false IsLine old new = new ≡ old
HearsAsked taken failures true IsLine old new = HearsLines taken failures IsLine old new
