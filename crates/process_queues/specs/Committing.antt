-- Which done events can be committed, one after another.
use Rattle.std.specs.Prelude.{ℕ, suc, ◌+◌, ◌==◌, Bool, ◌&&◌, if◌then◌else◌, nat_lt, List, [], ◌∷◌}
use Rattle.virtual_time.specs.Law.{Order, pluses, minuses}
use Rattle.virtual_time.specs.declared.letter.Letter.{Letter}

module _ {M : Type 0} (o : Order M) where
  -- the event is earlier than g, and its signed count is just 1
  abbrev pub is_committable : ℕ → List (Letter M) → M → Bool
  is_committable g tally m = nat_lt (o.time m) g && (pluses o m tally == minuses o m tally + 1)

  -- how many of these events, the oldest first, come before the first one that cannot be committed
  abbrev pub committable : ℕ → List (Letter M) → List M → ℕ
  committable g tally [] = 0
  committable g tally (m ∷ ms) = if is_committable g tally m then suc (committable g tally ms) else 0
