-- Which process a step names.
use Rattle.std.specs.Prelude.{ℕ, Bool, false, not, nat_lt, Option, Some, None}
use Rattle.virtual_time.specs.declared.step.Step.{Step}
use Rattle.virtual_time.specs.declared.step.Step.TheVariants.{Take, Arrive, Run, Post, Gvt, Commit}

-- the process that a step names
abbrev pub process_named : Step → Option ℕ
process_named (Take p i) = Some p
process_named (Arrive p) = Some p
process_named (Run p) = Some p
process_named (Post p) = Some p
process_named Gvt = None
process_named (Commit p) = Some p

-- a number is named that none of so many processes has
abbrev pub is_none_of : ℕ → Option ℕ → Bool
is_none_of processes None = false
is_none_of processes (Some p) = not (nat_lt p processes)

-- the step names a process, and of so many processes none has that number
abbrev pub names_none : ℕ → Step → Bool
names_none processes x = is_none_of processes (process_named x)
