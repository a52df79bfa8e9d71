-- Units, numbers as 128 bits hold them, and the reason that stands for a number which they do not hold.
use Rattle.std.specs.Prelude.{ℕ, ◌-◌, ◌^◌, nat_lt, if◌then◌else◌, Result, Ok, Err}
use Rattle.network_bounds.specs.declared.reason.Reason.{Reason}
use Rattle.network_bounds.specs.declared.reason.Reason.TheVariants.{Number}
pub use Rattle.bound_numbers.specs.Numbers.{SCALE, UNITS, WHOLE, capped}

-- a number that is below it
abbrev pub within : ℕ → Result ℕ Reason
within n = if nat_lt n (2 ^ 128 - 1) then Ok n else Err Number
