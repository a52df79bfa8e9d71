-- Where a message stands among the done events, and whether it is one of them.
use Rattle.std.proofs.Common.{◌≡◌, ℕ, zero, suc, ◌≤◌, ◌<◌, inl, inr, Bool, true, false, not, List, [], ◌∷◌, ◌++◌, length, map, drop, Option, Some, None, slice_get, slice_index_or, refl, sym, ap, ◌∙◌, subst, arith}
use Rattle.std.proofs.lemmas.Bool.{both_ways}
use Rattle.std.proofs.lemmas.List.{drop-map, length-map}
use Rattle.std.proofs.lemmas.List.Filters.{length-filter_both}
use Rattle.vlink.specs.declared.message.Message.{Message}
use Rattle.vlink.specs.declared.note.Note.{Note}
use Rattle.virtual_time.specs.Law.{Rules, IsOrder, one_if, times_in, IsIn, IsAscending, before, from_on}
use Rattle.virtual_time.proofs.Lists.{times-append, times-none, times-filter_out, in-head, in-cons}
use Rattle.virtual_time.proofs.Order.{less-asym}
use Rattle.virtual_time.proofs.Ascending.{ascending-once, ascending-filter}
use Rattle.virtual_time.proofs.Rolling.{roll-split, roll-undone}
use Rattle.process_steps.specs.declared.event.Event.{Event}
use Rattle.process_queues.proofs.Pasts.{back-of}

module _ {M S K N : Type 0} (r : Rules M S K N) (O : IsOrder r.order) (ds : List M) (up : IsAscending r.order ds) (m : M) where
  -- what stands behind those that come before the message, first
  first-from : (rest : List M) → from_on r.order m ds ≡ rest → slice_get ds (length (before r.order m ds)) ≡ slice_get rest 0
  first-from rest e =
      ap (λ xs. slice_get xs (length (before r.order m ds))) (sym (ap (λ ys. before r.order m ds ++ ys) (sym e) ∙ roll-split r O m ds up)) ∙ go (before r.order m ds)
    where
      go : (xs : List M) → slice_get (xs ++ rest) (length xs) ≡ slice_get rest 0
      go [] = refl
      go (x ∷ xs) = go xs

  times-from : (rest : List M) → from_on r.order m ds ≡ rest → times_in r.order m ds ≡ times_in r.order m rest
  times-from rest e =
      let a = ap (times_in r.order m) (roll-split r O m ds up) in
      let b = times-append r.order O m (before r.order m ds) (from_on r.order m ds) in
      let c = times-filter_out r.order O (λ x. r.order.less x m) m ds (O.irreflexive m) in
      let d = ap (times_in r.order m) e in
      omega arith

  -- the message does not come before this one, if there is one
  abbrev pub is_reached : Option M → Bool
  is_reached None = false
  is_reached (Some x) = not (r.order.less m x)

  -- it is done just where it does not come before the first one that does not come before it
  pub done-once : (o : Option M) → slice_get ds (length (before r.order m ds)) ≡ o → times_in r.order m ds ≡ one_if (is_reached o)
  done-once o at = go (from_on r.order m ds) refl ∙ ap (λ o. one_if (is_reached o)) at
    where
      by-first : (x : M) (xs : List M) → from_on r.order m ds ≡ x ∷ xs → (b : Bool) → r.order.less m x ≡ b → times_in r.order m (x ∷ xs) ≡ one_if (not b)
      by-first x xs e true l = times-none r.order O m (x ∷ xs) (λ i. elim (in-cons r.order O m x xs i) [
        | inl j ↦ both_ways _ (O.irreflexive m) (subst (λ z. r.order.less m z ≡ true) (sym j) l)
        | inr j ↦ both_ways _ (less-asym r.order O m x l) ((subst (IsAscending r.order) e (ascending-filter r.order O (λ z. not (r.order.less z m)) ds up)).0 m j)
      ])
      by-first x xs e false l =
          let late = (roll-undone r O m ds x (subst (λ zs. IsIn r.order x zs) (sym e) (in-head r.order O x xs))).0 in
          let same : x ≡ m = O.total x m late l in
          let a = times-from (x ∷ xs) e in
          let b = ascending-once r.order O m ds up in
          let c = subst (λ z. IsIn r.order m (z ∷ xs)) (sym same) (in-head r.order O m xs) in
          omega arith

      go : (rest : List M) → from_on r.order m ds ≡ rest → times_in r.order m ds ≡ one_if (is_reached (slice_get ds (length (before r.order m ds))))
      go [] e = times-from [] e ∙ sym (ap (λ o. one_if (is_reached o)) (first-from [] e))
      go (x ∷ xs) e = times-from (x ∷ xs) e ∙ (by-first x xs e (r.order.less m x) refl ∙ sym (ap (λ o. one_if (is_reached o)) (first-from (x ∷ xs) e)))

-- an event at a place, by its message
pub at-get : {K : Type 0} (es : List (Event K)) (k : ℕ) (e : Event K) → k < length es → e ≡ slice_index_or es k e → slice_get (map (λ (x : Event K). x.message) es) k ≡ Some e.message
at-get [] k e h at = absurd (omega arith)
at-get (x ∷ xs) zero e h at = ap (λ z. Some z.message) (sym at)
at-get (x ∷ xs) (suc k) e h at = at-get xs k e (omega arith) at

pub none-get : {K : Type 0} (es : List (Event K)) (k : ℕ) → (k < length es → ⊥) → slice_get (map (λ (x : Event K). x.message) es) k ≡ None
none-get [] k n = refl
none-get (x ∷ xs) zero n = absurd (n (omega arith))
none-get (x ∷ xs) (suc k) n = none-get xs k (λ h. n (omega arith))

-- the done events are those that stay and those that are undone
pub undone-split : {S K : Type 0} (r : Rules Message S K Note) → IsOrder r.order → (m : Message) (ds : List Message) (done done' : List (Event K)) (n : ℕ) →
    map (λ (e : Event K). e.message) done ≡ ds → IsAscending r.order ds → map (λ (e : Event K). e.message) done' ≡ before r.order m ds →
    n ≡ length (before r.order m (map (λ (e : Event K). e.message) done)) →
    map (λ (e : Event K). e.message) done ≡ map (λ (e : Event K). e.message) done' ++ map (λ (e : Event K). e.message) (drop n done)
undone-split r O m ds done done' n was up now k =
    was ∙ (sym (roll-split r O m ds up) ∙
    (ap (λ xs. xs ++ from_on r.order m ds) (sym now) ∙ ap (λ xs. map (λ (e : Event _). e.message) done' ++ xs) (sym rest)))
  where
    rest : map (λ (e : Event _). e.message) (drop n done) ≡ from_on r.order m ds
    rest = sym (drop-map (λ (e : Event _). e.message) n done) ∙ (ap (drop n) (was ∙ sym (roll-split r O m ds up)) ∙
        back-of (before r.order m ds) (from_on r.order m ds) n (k ∙ ap (λ xs. length (before r.order m xs)) was))

-- no more events come before a message than there are
pub before-within : {S K : Type 0} (r : Rules Message S K Note) (m : Message) (done : List (Event K)) (n : ℕ) →
    n ≡ length (before r.order m (map (λ (e : Event K). e.message) done)) → n ≤ length done
before-within r m done n e =
    let a = length-filter_both (λ x. r.order.less x m) (λ x. not (r.order.less x m)) (λ x. refl) (map (λ (e : Event _). e.message) done) in
    let b = length-map done (λ (e : Event _). e.message) in
    omega arith
