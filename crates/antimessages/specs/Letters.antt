-- What a letter adds to the count of its message, and where letters are stored.
use Rattle.std.specs.Prelude.{ℕ, ℤ, pos, negsuc, List}
use Rattle.virtual_time.specs.declared.letter.Sign.{Sign}
use Rattle.virtual_time.specs.declared.letter.Sign.TheVariants.{Plus, Minus}
use Rattle.vlink.specs.Letters.{Letter}

-- what a letter of this sign adds to the count of its message: 1 or -1
abbrev pub weight : Sign → ℤ
weight Plus = pos 1
weight Minus = negsuc 0

-- letters in their order, and the room: how many more can be kept before memory must be taken
pub record Store : Type 0 where
  pub letters : List Letter
  pub room : ℕ
