-- Integrity checking at a receiver: the number of a frame is one or two steps after the previous one.
use Rattle.std.specs.Prelude.{ℕ, Option, None, Some, Bool, true, ◌==◌, ◌||◌, if◌then◌else◌}
use Rattle.vlink.specs.Numbering.{next_number}
use Rattle.reverse.specs.Plain.{Plain}
use Rattle.integrity.specs.declared.checking.Checked.{Checked}
use Rattle.integrity.specs.declared.checking.Checked.TheVariants.{Passed, Refused}

-- whether a frame numbered n passes: none was received before it, or n is 0, or one or two steps after the previous
abbrev pub passes : Option ℕ → ℕ → Bool
passes None n = true
passes (Some previous) n =
    (n == 0) || ((n == next_number previous) || (n == next_number (next_number previous)))

-- the state is the number of the last frame received, passed or not, or none; the event is the number of a frame
abbrev pub integrity : Plain (Option ℕ) ℕ Checked (Option ℕ)
integrity = record {
  after = λ previous n. Some n;
  out = λ previous n. if passes previous n then Passed else Refused;
  saves = λ previous n. previous;
  before = λ now n previous. previous;
  counter = λ previous. 0;
}
