-- The limits of moments, in ns.
use Rattle.std.specs.Prelude.{ℕ}

-- the latest end of a run: a million seconds
abbrev pub latest_end : ℕ
latest_end = 1000000000000000

-- the greatest moment: the one after the latest end
abbrev pub greatest_moment : ℕ
greatest_moment = 1000000000000001
