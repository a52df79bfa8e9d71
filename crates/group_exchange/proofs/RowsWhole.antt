-- The rows of a group before a moment that it has seen, and before which no event is done, are those of the one-thread run.
use Rattle.std.proofs.Common.{◌≡◌, ℕ, zero, suc, ◌<◌, ◌≤◌, ◌==◌, Bool, true, false, cond, All, List, [], ◌∷◌, filter, length, drop, take, slice_get, refl, sym, ap, ◌∙◌, arith, eqb-true}
use Rattle.std.specs.List.Sorted.{IsNonDecreasingBy}
use Rattle.std.proofs.lemmas.Bool.{both_ways}
use Rattle.std.proofs.lemmas.Grind.{common_steps}
use Rattle.std.proofs.lemmas.List.Elements.{All-filter, All-head, All-tail, All-weaker, filter_passes}
use Rattle.vlink.specs.declared.message.Message.{Message}
use Rattle.vlink.specs.declared.note.Note.{Note}
use Rattle.vlink.specs.Letters.{Row}
use Rattle.virtual_time.specs.Law.{Rules, Order, IsOrder, Laws, World, IsSafeGroup, earlier, one, rows_at}
use Rattle.virtual_time.proofs.Order.{not_less-time}
use Rattle.reverse.specs.Setting.{Setting, simulation_of}
use Rattle.row_times.specs.Within.{is_within, rows_within}
use Rattle.row_times.proofs.EarlyRows.{early-rows}
use Rattle.group_hand.specs.Hands.{Held, StandsForGroup, is_ours}
use Rattle.group_hand.proofs.Going.{held-is}
use Rattle.group_exchange.specs.Rows.{AreInOrder, rows_of_group}
use Rattle.group_exchange.specs.Views.{is_of}
use Rattle.group_exchange.specs.Keeps.{KeepsRows}
use Rattle.group_exchange.proofs.RowOrder.{ordered-filter, run-at-receivers, run-ordered, same-rows}

-- one test after another, in whatever order
filter-swap : {X : Type 0} (p q : X → Bool) (xs : List X) → filter p (filter q xs) ≡ filter q (filter p xs)
filter-swap p q [] = refl
filter-swap p q (x ∷ xs) = go (p x) (q x) refl refl (filter-swap p q xs)
  where
    go : (a b : Bool) → p x ≡ a → q x ≡ b → filter p (filter q xs) ≡ filter q (filter p xs) →
        filter p (cond b (x ∷ filter q xs) (filter q xs)) ≡ filter q (cond a (x ∷ filter p xs) (filter p xs))
    go true true i j e = rw (i, j) (ap (λ z. x ∷ z) e)
    go true false i j e = rw j e
    go false true i j e = rw i e
    go false false i j e = e

module _ (owners : List ℕ) (g p : ℕ) where
  -- no row is of a process of another group
  pub rows-none : (rows : List Row) → All (λ row. is_of owners g row.place ≡ true) rows → is_of owners g p ≡ false → rows_at p rows ≡ []
  rows-none [] a n = refl
  rows-none (x ∷ xs) a n = go (x.place == p) refl (rows-none xs (All-tail (λ row. is_of owners g row.place ≡ true) x xs a) n)
    where
      go : (b : Bool) → (x.place == p) ≡ b → rows_at p xs ≡ [] → cond b (x ∷ rows_at p xs) (rows_at p xs) ≡ []
      go true e i = absurd (both_ways (is_of owners g p) n (ap (is_of owners g) (sym (eqb-true x.place p e)) ∙ All-head (λ row. is_of owners g row.place ≡ true) x xs a))
      go false e i = i

  -- a process of the group has all of its rows there
  rows-group : (rows : List Row) → is_of owners g p ≡ true → rows_at p (rows_of_group owners g rows) ≡ rows_at p rows
  rows-group [] o = refl
  rows-group (x ∷ xs) o = go (x.place == p) (is_of owners g x.place) refl refl (rows-group xs o)
    where
      go : (b c : Bool) → (x.place == p) ≡ b → is_of owners g x.place ≡ c → rows_at p (rows_of_group owners g xs) ≡ rows_at p xs →
          rows_at p (cond c (x ∷ rows_of_group owners g xs) (rows_of_group owners g xs)) ≡ cond b (x ∷ rows_at p xs) (rows_at p xs)
      go true true i j e = rw i (ap (λ z. x ∷ z) e)
      go true false i j e = absurd (both_ways (is_of owners g x.place) j (ap (is_of owners g) (eqb-true x.place p i) ∙ o))
      go false true i j e = rw i e
      go false false i j e = e

-- the first rows, so many, can be left out where they do not pass
passes-left : {X : Type 0} (q : X → Bool) (n : ℕ) (xs : List X) → All (λ x. q x ≡ false) (take n xs) → filter q (drop n xs) ≡ filter q xs
passes-left q zero xs h = refl
passes-left q (suc n) [] h = refl
passes-left q (suc n) (x ∷ xs) h = rw (h 0 x (omega arith)) (passes-left q n xs (λ i d lt. h (suc i) d (omega arith)))

-- the moments of rows in order do not fall
pub ordered-times : (o : Order Message) (O : IsOrder o) (rows : List Row) → AreInOrder o rows → IsNonDecreasingBy (λ row. o.time row.message) rows
ordered-times o O [] a i j d le lt = absurd (omega arith)
ordered-times o O (x ∷ xs) a zero zero d le lt = omega arith
ordered-times o O (x ∷ xs) a zero (suc j) d le lt = not_less-time o O _ x.message (a.0 j d (omega arith))
ordered-times o O (x ∷ xs) a (suc i) zero d le lt = absurd (omega arith)
ordered-times o O (x ∷ xs) a (suc i) (suc j) d le lt = ordered-times o O xs a.1 i j d (omega arith) (omega arith)

module _ {S K : Type 0} (r : Rules Message S K Note) (V : S → Message → Type 0) (x : Setting S) (L : Laws (simulation_of r x)) (v : World Message S) (h : Held S K) (stands : StandsForGroup r V x v h) (owners : List ℕ) (g : ℕ)
    (mine : (p : ℕ) → is_ours h.members p ≡ is_of owners g p) (within : (p : ℕ) → is_of owners g p ≡ true → p < x.processes) (seen gone : ℕ)
    (safe : IsSafeGroup (simulation_of r x) (is_of owners g) seen v) (k : KeepsRows r owners g seen gone h) (from to : ℕ) where
  pub whole : to ≤ seen → ((p : ℕ) → is_of owners g p ≡ true → earlier r.order to (v.parts p).done ≡ []) → (n : ℕ) → (one (simulation_of r x) n).waiting ≡ [] →
      rows_within r from to h.rows.all ≡ rows_within r from to (rows_of_group owners g (one (simulation_of r x) n).rows)
  whole low none n ended =
      let f = simulation_of r x in
      let run = (one f n).rows in
      let inside : Row → Bool = λ row. is_within r from to row.message in
      let ours : Row → Bool = λ row. is_of owners g row.place in
      let AtReceiver : Row → Type 0 = λ row. row.place ≡ r.order.receiver row.message in
      same-rows r.order L.order (filter inside h.rows.all) (filter inside (rows_of_group owners g run))
      (All-filter inside AtReceiver h.rows.all k.at_receivers)
      (All-filter inside AtReceiver (rows_of_group owners g run) (All-filter ours AtReceiver run (run-at-receivers f L n)))
      (ordered-filter r.order L.order inside h.rows.all k.ordered)
      (ordered-filter r.order L.order inside (rows_of_group owners g run) (ordered-filter r.order L.order ours run (run-ordered f L n)))
      (λ p.
      filter-swap (λ row. row.place == p) inside h.rows.all ∙
      (at p (is_of owners g p) refl n ended ∙ sym (filter-swap (λ row. row.place == p) inside (rows_of_group owners g run))))
    where
      at : (p : ℕ) (b : Bool) → is_of owners g p ≡ b → (n : ℕ) → (one (simulation_of r x) n).waiting ≡ [] →
          filter (λ row. is_within r from to row.message) (rows_at p h.rows.all)
          ≡ filter (λ row. is_within r from to row.message) (rows_at p (rows_of_group owners g (one (simulation_of r x) n).rows))
      at p true o n ended =
          let f = simulation_of r x in
          let m = held-is (slice_get h.members p) (mine p ∙ o) in
          ap (rows_within r from to) (stands.members p m.0 m.1).rows ∙
          (sym (early-rows f L p seen from to (v.parts p) (safe.parts p o) low (none p o) n ended) ∙ ap (rows_within r from to) (sym (rows-group owners g p (one f n).rows o)))
      at p false o n ended =
          ap (rows_within r from to)
          (rows-none owners g p h.rows.all k.home o ∙ sym (rows-none owners g p (rows_of_group owners g (one (simulation_of r x) n).rows) (filter_passes (λ row. is_of owners g row.place) (one (simulation_of r x) n).rows) o))

  -- rows that have left were earlier
  pub rows-left : gone ≤ from → rows_within r from to (drop h.rows.left h.rows.all) ≡ rows_within r from to h.rows.all
  rows-left le =
      passes-left (λ row. is_within r from to row.message) h.rows.left h.rows.all
      (All-weaker (λ row. r.order.time row.message < gone) (λ row. is_within r from to row.message ≡ false)
      (λ row e. let a : r.order.time row.message < from = omega arith in grind (arith, common_steps)) (take h.rows.left h.rows.all) k.gone_early)

-- none has left
pub rows-there : {S K : Type 0} {r : Rules Message S K Note} {owners : List ℕ} {g seen gone : ℕ} {h : Held S K} → KeepsRows r owners g seen gone h → gone ≡ 0 → drop h.rows.left h.rows.all ≡ h.rows.all
rows-there {h = h} k none = go h.rows.left h.rows.all k.left_within (λ i d lt. let a = k.gone_early i d lt in omega arith)
  where
    go : (n : ℕ) (rows : List Row) → n ≤ length rows → All (λ row. ⊥) (take n rows) → drop n rows ≡ rows
    go zero rows le a = refl
    go (suc n) [] le a = refl
    go (suc n) (y ∷ ys) le a = absurd (a 0 y (omega arith))
