-- How signed counts are stored: the letters of a message that are tallied and not removed have the ordinals 0, 1 and so on, all with one
-- sign.
use Rattle.std.specs.Prelude.{◌≡◌, ℕ, ◌-◌, ℤ, pos, ◌-ℤ◌, ◌≢◌, cond, nat_lt, List, [], ◌∷◌, map, Option, Some, None, ⊤}
use Rattle.std.specs.Ordering.{nat_cmp, ordering_then}
use Rattle.std.specs.declared.cmp.Ordering.{Ordering}
use Rattle.std.specs.declared.ops.Bound.{Bound}
use Rattle.std.specs.declared.ops.Bound.TheVariants.{Excluded, Unbounded}
use Rattle.std.specs.Map.{lookup}
use Rattle.std.specs.BTreeMap.{BTreeMap, is_at, IsOrdered}
use Rattle.vlink.specs.declared.message.Message.{Message}
use Rattle.virtual_time.specs.declared.letter.Sign.{Sign}
use Rattle.virtual_time.specs.declared.letter.Sign.TheVariants.{Plus, Minus}
use Rattle.vlink.specs.Order.{message_cmp, message_order}
use Rattle.vlink.specs.Letters.{Letter}
use Rattle.virtual_time.specs.Law.{pluses, minuses}
use Rattle.antimessages.specs.declared.occurrence.Occurrence.{Occurrence}

abbrev pub occurrence_of : Message → ℕ → Occurrence
occurrence_of m k = record { message = m; ordinal = k }

-- occurrences by an order of messages and then by ordinal
abbrev pub occurrences_by : (Message → Message → Ordering) → Occurrence → Occurrence → Ordering
occurrences_by order a b = ordering_then (order a.message b.message) (nat_cmp a.ordinal b.ordinal)

-- by the order of messages
abbrev pub occurrence_cmp : Occurrence → Occurrence → Ordering
occurrence_cmp = occurrences_by message_cmp

-- the letter that counts
abbrev pub letter_at : Occurrence × Sign → Letter
letter_at e = record { message = e.0.message; sign = e.1 }

abbrev pub letters_of : List (Occurrence × Sign) → List Letter
letters_of es = map letter_at es

-- where the occurrences of messages that come after another one begin: behind all of its own
abbrev pub behind : Option Message → Bound Occurrence
behind None = Unbounded
behind (Some m) = Excluded (occurrence_of m 18446744073709551615)

-- the signed count of a message with k letters of this sign and none of the other
abbrev pub count_with : Sign → ℕ → ℤ
count_with Plus k = pos k
count_with Minus k = pos 0 -ℤ pos k

-- the sign at the ordinal k of a message that has p plus letters and n minus letters
abbrev pub sign_at : ℕ → ℕ → ℕ → Option Sign
sign_at p n k = cond (nat_lt k (p - n)) (Some Plus) (cond (nat_lt k (n - p)) (Some Minus) None)

-- at each ordinal of each message stands the sign that its count tells
pub record AreTallied (es : List (Occurrence × Sign)) : Type 0 where
  pub signs : (m : Message) (k : ℕ) → lookup (is_at (occurrence_cmp (occurrence_of m k))) es
      ≡ sign_at (pluses message_order m (letters_of es)) (minuses message_order m (letters_of es)) k

-- letters as a tally has them: in the order of their messages, and without opposite pairs
abbrev pub IsTally : List Letter → Type 0
IsTally ls = (signs : BTreeMap Occurrence Sign) × (letters_of signs.entries ≡ ls) × IsOrdered occurrence_cmp signs × AreTallied signs.entries

-- the first of these letters, if there is one, is of another message than m
abbrev pub IsNextOther : Message → List (Occurrence × Sign) → Type 0
IsNextOther m [] = ⊤
IsNextOther m (e ∷ es) = e.0.message ≢ m

-- the first of these letters is a plus letter of m, and the second, if there is one, is of another message
abbrev pub BeginsWithOne : Message → List (Occurrence × Sign) → Type 0
BeginsWithOne m [] = ⊥
BeginsWithOne m (e ∷ es) = (e.0.message ≡ m) × (e.1 ≡ Plus) × IsNextOther m es
