-- A process is safe below a GVT that it has seen, and has no done event earlier than a moment that is not later than this GVT. Then the rows of
-- its committed events before that moment are all rows that the one-thread run has of it before that moment.
use Rattle.std.proofs.Common.{◌≡◌, ℕ, ◌≤◌, Bool, true, false, cond, nat_lt, List, [], ◌∷◌, ◌++◌, filter, drop, length, refl, sym, ap, ◌∙◌, subst, arith, append-nil, length-append, lt-ltb, ltb-true, take-append-drop}
use Rattle.std.proofs.lemmas.Bool.{and_parts, both_ways}
use Rattle.std.proofs.lemmas.List.{append_cancel_left}
use Rattle.std.proofs.lemmas.List.Elements.{filter-append}
use Rattle.std.proofs.lemmas.List.Sums.{length-filter, count_by-le-length}
use Rattle.virtual_time.specs.Law.{Rules, reached, rows_of, rowed, rows_at, IsIn, earlier, Simulation, Laws, one, events, Part, IsSafePart}
use Rattle.virtual_time.specs.declared.row.Row.{Row}
use Rattle.virtual_time.proofs.Handling.{rowed-append}
use Rattle.virtual_time.proofs.Safety.{rows}
use Rattle.row_times.specs.Within.{is_within, rows_within}

-- a test that implies another: what passes both passes the first one
filter-twice : {X : Type 0} (q a : X → Bool) → ((x : X) → q x ≡ true → a x ≡ true) → (xs : List X) → filter q (filter a xs) ≡ filter q xs
filter-twice q a h [] = refl
filter-twice q a h (x ∷ xs) = go (q x) (a x) refl refl (filter-twice q a h xs)
  where
    go : (b c : Bool) → q x ≡ b → a x ≡ c → filter q (filter a xs) ≡ filter q xs →
        filter q (cond c (x ∷ filter a xs) (filter a xs)) ≡ cond b (x ∷ filter q xs) (filter q xs)
    go b true e d i = rw (e, i) refl
    go true false e d i = absurd (both_ways _ d (h x e))
    go false false e d i = i

module _ {M S K N : Type 0} (r : Rules M S K N) (q : M → Bool) where
  -- the rows of messages that pass
  abbrev passing : List (Row M N) → List (Row M N)
  passing rows = filter (λ row. q row.message) rows

  event-fails : (m : M) → q m ≡ false → (ns : List N) → passing (rows_of r.order m ns) ≡ []
  event-fails m e [] = refl
  event-fails m e (n ∷ ns) = rw e (event-fails m e ns)

  -- where no message passes, no row does
  rows-fail : (s : S) (ms : List M) → filter q ms ≡ [] → passing (rowed r s ms) ≡ []
  rows-fail s [] none = refl
  rows-fail s (m ∷ ms) none = go (q m) refl none (rows-fail (r.after s m) ms)
    where
      go : (b : Bool) → q m ≡ b → cond b (m ∷ filter q ms) (filter q ms) ≡ [] → (filter q ms ≡ [] → passing (rowed r (r.after s m) ms) ≡ []) →
          passing (rows_of r.order m (r.notes s m) ++ rowed r (r.after s m) ms) ≡ []
      go true e h i = absurd cc
      go false e h i = filter-append (λ row. q row.message) (rows_of r.order m (r.notes s m)) (rowed r (r.after s m) ms)
          ∙ (ap (λ z. z ++ passing (rowed r (r.after s m) ms)) (event-fails m e (r.notes s m)) ∙ i h)

  -- events and then such that do not pass
  rows-begin : (s : S) (ms more : List M) → filter q (ms ++ more) ≡ filter q ms → passing (rowed r s (ms ++ more)) ≡ passing (rowed r s ms)
  rows-begin s ms more same =
      let none : filter q more ≡ [] = append_cancel_left (filter q ms) (filter q more) [] (sym (filter-append q ms more) ∙ (same ∙ sym (append-nil (filter q ms)))) in
      ap passing (rowed-append r s ms more) ∙ (filter-append (λ row. q row.message) (rowed r s ms) (rowed r (reached r s ms) more) ∙
      (ap (λ z. passing (rowed r s ms) ++ z) (rows-fail (reached r s ms) more none) ∙ append-nil (passing (rowed r s ms))))

module _ {M S K N : Type 0} (f : Simulation M S K N) (L : Laws f) (p g from to : ℕ) (part : Part M S) (safe : IsSafePart f p g part)
    (low : to ≤ g) (none : earlier f.rules.order to part.done ≡ []) where
  abbrev inside : M → Bool
  inside = is_within f.rules from to

  inside-early : (m : M) → inside m ≡ true → nat_lt (f.rules.order.time m) to ≡ true
  inside-early m h = (and_parts _ _ h).1

  inside-below : (m : M) → inside m ≡ true → nat_lt (f.rules.order.time m) g ≡ true
  inside-below m h = lt-ltb _ _ (let a = ltb-true _ _ (inside-early m h) in omega arith)

  done-outside : filter inside (earlier f.rules.order g part.done) ≡ []
  done-outside =
      filter-twice inside (λ m. nat_lt (f.rules.order.time m) g) inside-below part.done
      ∙ (sym (filter-twice inside (λ m. nat_lt (f.rules.order.time m) to) inside-early part.done) ∙ ap (filter inside) none)

  module _ (n : ℕ) (ended : (one f n).waiting ≡ []) where
    below : earlier f.rules.order g (events f n p) ≡ part.committed ++ earlier f.rules.order g part.done
    below = safe.below.each n (λ m j. absurd (let k = subst (λ z. IsIn f.rules.order m z) ended j in omega arith))

    enough : length part.committed ≤ length (events f n p)
    enough =
        let a = ap length below ∙ length-append part.committed (earlier f.rules.order g part.done) in
        let b = length-filter (λ m. nat_lt (f.rules.order.time m) g) (events f n p) in
        let c = count_by-le-length (λ m. nat_lt (f.rules.order.time m) g) (events f n p) in
        omega arith

    begins : part.committed ++ drop (length part.committed) (events f n p) ≡ events f n p
    begins = ap (λ z. z ++ drop (length part.committed) (events f n p)) (sym (safe.first.each n enough)) ∙ take-append-drop (length part.committed) (events f n p)

    same-events : filter inside (events f n p) ≡ filter inside part.committed
    same-events =
        sym (filter-twice inside (λ m. nat_lt (f.rules.order.time m) g) inside-below (events f n p))
        ∙ (ap (filter inside) below ∙ (filter-append inside part.committed (earlier f.rules.order g part.done)
        ∙ (ap (λ z. filter inside part.committed ++ z) done-outside ∙ append-nil (filter inside part.committed))))

    pub early-rows : rows_within f.rules from to (rows_at p (one f n).rows) ≡ rows_within f.rules from to (rowed f.rules (f.opening p) part.committed)
    early-rows =
        let more = drop (length part.committed) (events f n p) in
        ap (rows_within f.rules from to) (rows f L n p ∙ ap (rowed f.rules (f.opening p)) (sym begins))
        ∙ rows-begin f.rules inside (f.opening p) part.committed more (ap (filter inside) begins ∙ same-events)
