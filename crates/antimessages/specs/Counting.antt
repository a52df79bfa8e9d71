-- Signed counts: what a letter does to them, and which present message comes first.
use Rattle.std.specs.Prelude.{◌≡◌, ℤ, pos, ◌-◌, ◌-ℤ◌, Bool, true, false, ◌&&◌, List, ◌∷◌, map, filter, length, slice_get, Option, Some, None}
use Rattle.virtual_time.specs.Law.{Order, least, pluses, minuses, is_present}
use Rattle.virtual_time.specs.declared.letter.Letter.{Letter}
use Rattle.antimessages.specs.declared.tally.Change.{Change}
use Rattle.antimessages.specs.declared.tally.Change.TheVariants.{BecamePresent, BecameAbsent, Same}

-- from present or not to present or not
abbrev pub change_between : Bool → Bool → Change
change_between false true = BecamePresent
change_between true false = BecameAbsent
change_between _ _ = Same

-- it became present or absent
abbrev pub is_toggle : Change → Bool
is_toggle BecamePresent = true
is_toggle BecameAbsent = true
is_toggle Same = false

-- the last of these, if there is one
abbrev pub newest_of : {M : Type 0} → List M → Option M
newest_of done = slice_get done (length done - 1)

module _ {M : Type 0} (o : Order M) where
  -- the signed count of m: its plus letters less its minus letters
  abbrev pub signed_count : M → List (Letter M) → ℤ
  signed_count m tally = pos (pluses o m tally) -ℤ pos (minuses o m tally)

  -- each message has the same signed count in both: as tallies they are the same
  abbrev pub HaveSameCounts : List (Letter M) → List (Letter M) → Type 0
  HaveSameCounts xs ys = (m : M) → signed_count m xs ≡ signed_count m ys

  -- whether the message of a letter becomes present or absent as the letter enters the tally
  abbrev pub change_by : Letter M → List (Letter M) → Change
  change_by l tally = change_between (is_present o tally l.message) (is_present o (l ∷ tally) l.message)

  -- the message comes after another one, if there is one
  abbrev pub is_after : Option M → M → Bool
  is_after None m = true
  is_after (Some newest) m = o.less newest m

  -- the first present message of those that come after another one, if there is one
  abbrev pub present_after : Option M → List (Letter M) → Option M
  present_after newest tally = least o (filter (λ m. is_present o tally m && is_after newest m) (map (λ l. l.message) tally))
