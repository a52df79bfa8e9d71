-- Rows whose moments do not fall: those from one moment on and before another stand one behind another, between two places; and the oldest
-- rows have left, or leave.
use Rattle.std.proofs.Common.{◌≡◌, ℕ, zero, suc, ◌+◌, ◌-◌, ◌<◌, ◌≤◌, max, Bool, true, false, ◌&&◌, nat_le, nat_lt, List, [], ◌∷◌, filter, take, drop, length, refl, sym, ap, ◌∙◌, subst, arith, slice_index_or, All, take-add, ltb-true, ltb-false, get_or-take, get_or-drop, length-take, length-drop, drop-drop}
use Rattle.std.specs.List.{AllWithin}
use Rattle.std.specs.List.Sorted.{IsNonDecreasingBy, IsPartitionPoint}
use Rattle.std.proofs.lemmas.Grind.{common_steps}
use Rattle.std.proofs.lemmas.List.Elements.{All-append, All-weaker}
use Rattle.std.proofs.lemmas.List.Sorted.{IsNonDecreasingBy-drop}
use Rattle.vlink.specs.declared.message.Message.{Message}
use Rattle.vlink.specs.declared.note.Note.{Note}
use Rattle.virtual_time.specs.declared.row.Row.{Row}
use Rattle.virtual_time.specs.Law.{Rules}
use Rattle.row_times.specs.Within.{is_within, rows_within, AreFirstBefore}

module _ {X : Type 0} (p : X → Bool) where
  -- what passes stands in n places, from place b on
  pick : (xs : List X) (b n : ℕ) → ((k : ℕ) (d : X) → k < b → p (slice_index_or xs k d) ≡ false) →
      ((k : ℕ) (d : X) → b ≤ k → k < b + n → p (slice_index_or xs k d) ≡ true) →
      ((k : ℕ) (d : X) → b + n ≤ k → k < length xs → p (slice_index_or xs k d) ≡ false) → filter p xs ≡ take n (drop b xs)
  pick [] b n front middle back = grind (arith, common_steps)
  pick (x ∷ xs) zero zero front middle back =
      rw (back 0 x (omega arith) (omega arith)) (pick xs zero zero (λ k d i. absurd (omega arith)) (λ k d i j. absurd (omega arith)) (λ k d i j. back (suc k) d (omega arith) (omega arith)))
  pick (x ∷ xs) zero (suc n) front middle back =
      rw (middle 0 x (omega arith) (omega arith)) (ap (λ z. x ∷ z)
      (pick xs zero n (λ k d i. absurd (omega arith)) (λ k d i j. middle (suc k) d (omega arith) (omega arith)) (λ k d i j. back (suc k) d (omega arith) (omega arith))))
  pick (x ∷ xs) (suc b) n front middle back =
      rw (front 0 x (omega arith))
      (pick xs b n (λ k d i. front (suc k) d (omega arith)) (λ k d i j. middle (suc k) d (omega arith) (omega arith)) (λ k d i j. back (suc k) d (omega arith) (omega arith)))

module _ {X : Type 0} (time : X → ℕ) (from to : ℕ) where
  abbrev inside : X → Bool
  inside x = nat_le from (time x) && nat_lt (time x) to

  too-early : (x : X) → nat_lt (time x) from ≡ true → inside x ≡ false
  too-early x h = let a = ltb-true _ _ h in grind (arith, common_steps)

  too-late : (x : X) → nat_lt (time x) to ≡ false → inside x ≡ false
  too-late x h = let a = ltb-false _ _ h in grind (arith, common_steps)

  in-time : (x : X) → nat_lt (time x) from ≡ false → nat_lt (time x) to ≡ true → inside x ≡ true
  in-time x h k = let a = ltb-false _ _ h in let b = ltb-true _ _ k in grind (arith, common_steps)

  -- of rows so many are earlier than the one moment, and so many than the other
  pub window : (xs : List X) (b e m : ℕ) →
      IsPartitionPoint (λ x. nat_lt (time x) from ≡ true) (λ x. nat_lt (time x) from ≡ false) xs b →
      IsPartitionPoint (λ x. nat_lt (time x) to ≡ true) (λ x. nat_lt (time x) to ≡ false) xs e →
      e ≤ length xs → m ≡ max e b → filter inside xs ≡ take (m - b) (drop b xs)
  window xs b e m begins ends within is =
      pick inside xs b (m - b) (λ k d i. too-early _ (begins.0 k d (omega arith) i))
      (λ k d i j. in-time _ (begins.1 k d i (omega arith)) (ends.0 k d (omega arith) (omega arith)))
      (λ k d i j. too-late _ (ends.1 k d (omega arith) j))

-- rows behind those that have left
pub rest-in-time : (rows : List (Row Message Note)) (left : ℕ) (all : List (Row Message Note)) → rows ≡ drop left all →
    IsNonDecreasingBy (λ (row : Row Message Note). row.message.time) all → IsNonDecreasingBy (λ (row : Row Message Note). row.message.time) rows
rest-in-time rows left all behind rise =
    subst (IsNonDecreasingBy (λ (row : Row Message Note). row.message.time)) (sym behind) (IsNonDecreasingBy-drop (λ row. row.message.time) left all rise)

-- rows before the first moment can be left out
module _ {M S K N : Type 0} (r : Rules M S K N) (from to : ℕ) where
  outside : (m : M) → r.order.time m < from → is_within r from to m ≡ false
  outside m a = grind (arith, common_steps)

  pub rows-kept : (n : ℕ) (rows : List (Row M N)) → AreFirstBefore r from n rows → rows_within r from to (drop n rows) ≡ rows_within r from to rows
  rows-kept zero rows h = refl
  rows-kept (suc n) [] h = refl
  rows-kept (suc n) (x ∷ xs) h = rw (outside x.message (h 0 x (omega arith))) (rows-kept n xs (λ i d lt. h (suc i) d (omega arith)))

-- what holds of the elements before a place holds of the first ones, and what holds from it on of the rest
module _ {X : Type 0} (P : X → Type 0) (xs : List X) (place : ℕ) where
  all-first : (n : ℕ) → n ≤ place → AllWithin P xs 0 place → All P (take n xs)
  all-first n le h k d lt = let few = length-take n xs in subst P (sym (get_or-take n xs k d (omega arith))) (h k d (omega arith) (omega arith))

  all-rest : AllWithin P xs place (length xs) → All P (drop place xs)
  all-rest h k d lt = let few = length-drop place xs in subst P (sym (get_or-drop place xs k d)) (h (place + k) d (omega arith) (omega arith))

-- the row is of a moment before another, or of another or later
abbrev IsBefore : ℕ → Row Message Note → Type 0
IsBefore t row = row.message.time < t

abbrev IsFrom : ℕ → Row Message Note → Type 0
IsFrom t row = t ≤ row.message.time

-- behind rows that have left, so many rows are earlier than a moment, and the others are not
module _ (moment left count : ℕ) (rows : List (Row Message Note)) (all : List (Row Message Note)) (behind : rows ≡ drop left all)
    (point : IsPartitionPoint (λ row. nat_lt row.message.time moment ≡ true) (λ row. nat_lt row.message.time moment ≡ false) rows count) where
  -- where no more than these leave, those that leave are early
  pub next-early : (limit n : ℕ) → moment ≤ limit → n ≤ count → All (IsBefore limit) (take n (drop left all))
  next-early limit n le few =
      subst (λ (z : List (Row Message Note)). All (IsBefore limit) (take n z)) behind
      (All-weaker (λ row. nat_lt row.message.time moment ≡ true) (IsBefore limit) (λ row e. let a = ltb-true _ _ e in omega arith) (take n rows)
      (all-first (λ row. nat_lt row.message.time moment ≡ true) rows count n few point.0))

  -- and where such as had left are early, so are all that have left
  pub first-early : (limit n : ℕ) → moment ≤ limit → n ≤ count → All (IsBefore limit) (take left all) → All (IsBefore limit) (take (left + n) all)
  first-early limit n le few early =
      subst (All (IsBefore limit)) (sym (take-add left n all))
      (All-append (IsBefore limit) (take left all) (take n (drop left all)) early (next-early limit n le few))

  -- where all these leave, the rest is late
  pub rest-late : All (IsFrom moment) (drop (left + count) all)
  rest-late =
      subst (All (IsFrom moment)) (ap (drop count) behind ∙ drop-drop count left all)
      (All-weaker (λ row. nat_lt row.message.time moment ≡ false) (IsFrom moment) (λ row e. ltb-false _ _ e) (drop count rows)
      (all-rest (λ row. nat_lt row.message.time moment ≡ false) rows count point.1))
