-- Lists of messages: how often a list contains a message, which message comes first, and those that pass a test.
use Rattle.std.specs.Prelude.{◌≡◌, ℕ, suc, ◌+◌, ◌<◌, ◌==◌, Bool, true, false, not, ◌&&◌, if◌then◌else◌, nat_lt, List, [], ◌∷◌, filter, Option, Some, None, ⊤}
use Rattle.virtual_time.specs.Rules.{Order}

-- one where the test holds, else none
abbrev pub one_if : Bool → ℕ
one_if true = 1
one_if false = 0

-- the numbers of these messages are n, n + 1 and so on
abbrev pub IsNumbered : {M : Type 0} → (M → ℕ) → ℕ → List M → Type 0
IsNumbered number n [] = ⊤
IsNumbered number n (m ∷ ms) = (number m ≡ n) × IsNumbered number (suc n) ms

module _ {M : Type 0} (o : Order M) where
  -- neither comes before the other: they are one message
  unfoldable pub same : M → M → Bool
  same a b = not (o.less a b) && not (o.less b a)

  -- how many times m is in a list
  abbrev pub times_in : M → List M → ℕ
  times_in m [] = 0
  times_in m (x ∷ xs) = one_if (same m x) + times_in m xs

  -- m is in a list
  abbrev pub IsIn : M → List M → Type 0
  IsIn m xs = 0 < times_in m xs

  -- each comes before those behind it
  abbrev pub IsAscending : List M → Type 0
  IsAscending [] = ⊤
  IsAscending (x ∷ xs) = ((m : M) → IsIn m xs → o.less x m ≡ true) × IsAscending xs

  -- x, or the other one if that comes first
  abbrev pub lesser : M → Option M → Option M
  lesser x None = Some x
  lesser x (Some y) = if o.less y x then Some y else Some x

  -- the message of a list that comes first, if there is one
  abbrev pub least : List M → Option M
  least [] = None
  least (x ∷ xs) = lesser x (least xs)

  -- those earlier than the moment g
  abbrev pub earlier : ℕ → List M → List M
  earlier g ms = filter (λ m. nat_lt (o.time m) g) ms

  -- all but m
  abbrev pub without : M → List M → List M
  without m ms = filter (λ x. not (same m x)) ms

  -- those that come before m
  abbrev pub before : M → List M → List M
  before m ms = filter (λ x. o.less x m) ms

  -- those that do not come before m
  abbrev pub from_on : M → List M → List M
  from_on m ms = filter (λ x. not (o.less x m)) ms

  -- those that process p receives
  abbrev pub events_at : ℕ → List M → List M
  events_at p ms = filter (λ m. o.receiver m == p) ms
