-- Items in the order in which they came, and the room for more.
use Rattle.std.specs.Prelude.{ℕ, List}

pub record Items (T : Type 0) : Type 0 where
  pub items : List T
  pub room : ℕ
