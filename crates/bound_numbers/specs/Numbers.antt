-- Units, and numbers as 128 bits hold them.
use Rattle.std.specs.Prelude.{ℕ, ◌+◌, ◌-◌, ◌*◌, ◌/◌, ◌^◌, min}

-- bursts are in units of which a ns has so many, as each BAG is a part of 128 ms
abbrev pub SCALE : ℕ
SCALE = 128000000

-- of how many parts curves are mixed
abbrev pub WHOLE : ℕ
WHOLE = 1000000

-- what a mixture counts for a ns
abbrev pub UNITS : ℕ
UNITS = 128000000000000

-- the greatest number of 128 bits stands for all that are no less
abbrev pub capped : ℕ → ℕ
capped n = min n (2 ^ 128 - 1)

-- high frames wait for their burst and for one low frame in transmission; the last bit leaves 12 bytes before the line is free
abbrev pub first_ns : ℕ → ℕ → ℕ → ℕ
first_ns byte_ns burst greatest = capped (burst / UNITS + greatest) - 12 * byte_ns
