-- Sequence numbers of frames: one byte, counted 0, 1, .. 255, 1, 2, ..; 0 comes only at the start.
use Rattle.std.specs.Prelude.{ℕ, ◌+◌, ◌-◌, ◌%◌, ◌==◌, if◌then◌else◌}

-- the number of the frame after that of number n
abbrev pub next_number : ℕ → ℕ
next_number n = if n == 255 then 1 else (n + 1)

-- how many steps lead from number l to number s, going round 1 to 255 where l is not 0
abbrev pub steps_between : ℕ → ℕ → ℕ
steps_between l s = if l == 0 then s else ((s + 255 - l) % 255)

-- 2^62: all numbers that a sender gives to its messages are less
abbrev pub greatest_number : ℕ
greatest_number = 4611686018427387904
