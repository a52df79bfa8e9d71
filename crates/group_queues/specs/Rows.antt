-- The rows of committed events.
use Rattle.std.specs.Prelude.{ℕ, List}
use Rattle.vlink.specs.Letters.{Row}

-- all of them, in the order of their events, and how many have left, the oldest ones
pub record Sealed : Type 0 where
  pub all : List Row
  pub left : ℕ
