-- Letters: messages with a sign. An antimessage is the letter with the sign minus, and cancels the message. The signed count of a message
-- is the number of its plus letters minus the number of its minus letters; a message whose count is above 0 is present.
use Rattle.std.specs.Prelude.{ℕ, ◌+◌, ◌<◌, ◌==◌, min, Bool, true, false, not, ◌&&◌, nat_lt, List, [], ◌∷◌, map, filter}
use Rattle.virtual_time.specs.declared.letter.Letter.{Letter}
use Rattle.virtual_time.specs.declared.letter.Sign.{Sign}
use Rattle.virtual_time.specs.declared.letter.Sign.TheVariants.{Plus, Minus}
use Rattle.virtual_time.specs.Rules.{Order}
use Rattle.virtual_time.specs.Lists.{one_if, same}

-- the letter brings its message
abbrev pub is_plus : Sign → Bool
is_plus Plus = true
is_plus Minus = false

-- the letter that brings the message
abbrev pub plus_of : {M : Type 0} → M → Letter M
plus_of m = record { message = m; sign = Plus }

-- the antimessage, which takes it back
abbrev pub minus_of : {M : Type 0} → M → Letter M
minus_of m = record { message = m; sign = Minus }

-- the least of these numbers and of d
abbrev pub lowest : ℕ → List ℕ → ℕ
lowest d [] = d
lowest d (x ∷ xs) = min x (lowest d xs)

module _ {M : Type 0} (o : Order M) where
  -- how many plus letters of m are in a list
  abbrev pub pluses : M → List (Letter M) → ℕ
  pluses m [] = 0
  pluses m (l ∷ ls) = one_if (is_plus l.sign && same o m l.message) + pluses m ls

  -- how many minus letters of m are in a list
  abbrev pub minuses : M → List (Letter M) → ℕ
  minuses m [] = 0
  minuses m (l ∷ ls) = one_if (not (is_plus l.sign) && same o m l.message) + minuses m ls

  -- some letter of a list is of m, whatever its sign
  abbrev pub IsNamed : M → List (Letter M) → Type 0
  IsNamed m ls = 0 < pluses m ls + minuses m ls

  -- m is present in a tally: its signed count is above 0
  abbrev pub IsPresent : List (Letter M) → M → Type 0
  IsPresent tally m = minuses m tally < pluses m tally

  -- the test of it
  unfoldable pub is_present : List (Letter M) → M → Bool
  is_present tally m = nat_lt (minuses m tally) (pluses m tally)

  -- the letters for process p, in their order
  abbrev pub received_by : ℕ → List (Letter M) → List (Letter M)
  received_by p ls = filter (λ l. o.receiver l.message == p) ls

  -- the times of letters of either sign
  abbrev pub times_of : List (Letter M) → List ℕ
  times_of ls = map (λ l. o.time l.message) ls
