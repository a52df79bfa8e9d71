-- The text of the steps of a run. A text is the list of its bytes.
use Rattle.std.specs.Prelude.{ℕ, ◌<◌, ◌^◌, ⊤, codes, decimal, List, [], ◌∷◌, ◌++◌, flat_map}
use Rattle.virtual_time.specs.declared.step.Step.{Step}
use Rattle.virtual_time.specs.declared.step.Step.TheVariants.{Take, Arrive, Run, Post, Gvt, Commit}

-- the numbers of a step are below 2 ^ 32
abbrev pub Fits : Step → Type 0
Fits (Take process place) = (process < 2 ^ 32) × (place < 2 ^ 32)
Fits (Arrive process) = process < 2 ^ 32
Fits (Run process) = process < 2 ^ 32
Fits (Post process) = process < 2 ^ 32
Fits Gvt = ⊤
Fits (Commit process) = process < 2 ^ 32

-- a number in decimal digits without leading zeros, and the byte behind it: 32 is a blank, 10 a line feed
abbrev pub number_then : ℕ → ℕ → List ℕ
number_then end n = decimal n ++ end ∷ []

-- the line of a step: its letter, and each of its numbers behind one blank
abbrev pub step_line : Step → List ℕ
step_line (Take process place) = codes "T " ++ (number_then 32 process ++ number_then 10 place)
step_line (Arrive process) = codes "A " ++ number_then 10 process
step_line (Run process) = codes "R " ++ number_then 10 process
step_line (Post process) = codes "P " ++ number_then 10 process
step_line Gvt = codes "G\n"
step_line (Commit process) = codes "C " ++ number_then 10 process

abbrev pub steps_text : List Step → List ℕ
steps_text steps = flat_map step_line steps
