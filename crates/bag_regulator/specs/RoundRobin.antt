-- The round robin: which of some numbers is next. It takes a test, so that one definition serves the regulator (a frame waits) and the law
-- of its releases (a frame was offered).
use Rattle.std.specs.Prelude.{ℕ, zero, suc, ◌+◌, ◌-◌, Bool, if◌then◌else◌, Option, Some, None}
use Rattle.std.specs.Option.{option_or}

-- the first of n numbers from q on that passes
abbrev pub first_from : (ℕ → Bool) → ℕ → ℕ → Option ℕ
first_from p q zero = None
first_from p q (suc n) = if p q then Some q else first_from p (q + 1) n

-- the first of the numbers below n that passes, from `pointer` on and then from 0 on
abbrev pub round_robin : (ℕ → Bool) → ℕ → ℕ → Option ℕ
round_robin p pointer n = option_or (first_from p pointer (n - pointer)) (first_from p 0 pointer)
