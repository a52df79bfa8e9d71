-- Rows in message order: what decides them.
use Rattle.std.proofs.Common.{◌≡◌, ◌∙◌, ℕ, ◌==◌, Bool, true, false, not, cond, List, [], ◌∷◌, refl, sym, ap, subst, eq-eqb, ◌&&◌, OnOk, OnErr, Result, Ok, Err, filter, Ordering, Less, Equal, Greater, is_eq, is_lt}
use Rattle.std.specs.Cmp.{IsTotalOrder}
use Rattle.std.specs.List.{AllByRecursion}
use Rattle.std.specs.List.Sorted.{IsSortedByClosure, IsStableByClosure, ties}
use Rattle.std.specs.Fn.{Called, ComparesAs}
use denote.Param.Members.{Mut}
use denote.Ref.{Bor}
use Rattle.std.specs.Ordering.{ordering_reverse}
use Rattle.std.proofs.lemmas.Fn.{always_returns_same}
use Rattle.std.proofs.lemmas.List.Elements.{recursion_from_All, filter_agree, All-filter, All-same}
use Rattle.std.proofs.lemmas.List.Kept.{IsSortedBy-filter}
use Rattle.std.proofs.lemmas.List.Sorted.{ranks_by}
use Rattle.virtual_time.specs.Law.{rows_at}
use Rattle.vlink.specs.declared.message.Message.{Message}
use Rattle.vlink.specs.declared.note.Note.TheVariants.{Delivered}
use Rattle.vlink.specs.Order.{message_cmp}
use Rattle.vlink.specs.Letters.{Row}
use Rattle.trace_segments.specs.Words.{AreInMessageOrder, rows_of_event, AreAtReceivers}
use Rattle.trace_segments.proofs.GatherLemmas.{AreAt, rows_at-are}
use Rattle.trace_segments.proofs.SortedLemmas.{filters-swap, filter-narrower, one-sorted}

abbrev IsHere : Row → Type 0
IsHere row = row.place ≡ row.message.receiver

-- rows are where their messages were received, if those of each process are
each-here : (rows : List Row) → ((p : ℕ) → AllByRecursion IsHere (rows_at p rows)) → AllByRecursion IsHere rows
each-here [] h = tt
each-here (row ∷ rows) h = (mine, each-here rows (λ p. rest p (row.place == p) (h p)))
  where
    mine : IsHere row
    mine = (subst (λ b. AllByRecursion IsHere (cond b (row ∷ rows_at row.place rows) (rows_at row.place rows))) (eq-eqb row.place row.place refl) (h row.place)).0

    rest : (p : ℕ) (b : Bool) → AllByRecursion IsHere (cond b (row ∷ rows_at p rows) (rows_at p rows)) → AllByRecursion IsHere (rows_at p rows)
    rest p true k = k.1
    rest p false k = k

here-filter : (test : Row → Bool) (rows : List Row) → AllByRecursion IsHere rows → AllByRecursion IsHere (filter test rows)
here-filter test [] h = tt
here-filter test (row ∷ rows) h = go (test row) (here-filter test rows h.1)
  where
    go : (b : Bool) → AllByRecursion IsHere (filter test rows) → AllByRecursion IsHere (cond b (row ∷ filter test rows) (filter test rows))
    go true later = (h.0, later)
    go false later = later

-- what holds in either case of a result
pub by-result : {T E A B G : Type 0} (r : Result T E) → OnOk r A → OnErr r B → (A → G) → (B → G) → G
by-result (Ok x) a b f g = f a
by-result (Err x) a b f g = g b

module _ (O : IsTotalOrder message_cmp) where
  abbrev is_before : Row → Row → Bool
  is_before x y = is_lt (message_cmp x.message y.message)

  -- each call of a closure compares two rows by their messages, and leaves the closure as it is
  abbrev pub Compares : {F : Type 0} → Mut F (Bor Row × (Bor Row × Unit {0})) Ordering → F → Type 0
  Compares {F} g f =
      (a : Bor Row × (Bor Row × Unit {0})) (r : Ordering) (f' : F) → Called g f a r f' → (r ≡ message_cmp a.0.now.message a.1.0.now.message) × (f' ≡ f)

  answers : {F : Type 0} (g : Mut F (Bor Row × (Bor Row × Unit {0})) Ordering) (f : F) → Compares g f → ComparesAs g is_before f
  answers g f says = always_returns_same g (λ a r. is_lt r ≡ is_before a.0.now a.1.0.now) f (λ a r f' k. (ap is_lt (says a r f' k).0, (says a r f' k).1))

  -- what a sort by messages leaves is in message order
  pub sorted-rows : {F : Type 0} {g : Mut F (Bor Row × (Bor Row × Unit {0})) Ordering} {f : F} (rows : List Row) →
      IsSortedByClosure g f rows → Compares g f → AreInMessageOrder rows
  sorted-rows {g = g} {f = f} rows up says = up is_before (ranks_by O (λ (row : Row). row.message)) (answers g f says)

  tie : (m : Message) (row : Row) → not (is_lt (message_cmp m row.message)) && not (is_lt (message_cmp row.message m)) ≡ is_eq (message_cmp m row.message)
  tie m row = go (message_cmp m row.message) (message_cmp row.message m) (O.antisymm m row.message)
    where
      go : (a b : Ordering) → a ≡ ordering_reverse b → not (is_lt a) && not (is_lt b) ≡ is_eq a
      go Less b e = refl
      go Equal Equal e = refl
      go Greater Less e = refl
      go Equal Less e = absurd (cc)
      go Equal Greater e = absurd (cc)
      go Greater Equal e = absurd (cc)
      go Greater Greater e = absurd (cc)

  -- where it is stable, the rows of each event stay in their order
  pub stable-rows : {F : Type 0} {g : Mut F (Bor Row × (Bor Row × Unit {0})) Ordering} {f : F} (old new : List Row) →
      IsStableByClosure g f old new → Compares g f → (m : Message) → rows_of_event m new ≡ rows_of_event m old
  stable-rows {g = g} {f = f} old new stays says m =
      let row : Row = record { message = m; place = 0; note = Delivered (record { 0 = 0 }) 0 } in
      let same = stays is_before (ranks_by O (λ (x : Row). x.message)) (answers g f says) row in
      let alike = filter_agree (ties is_before row) (λ x. is_eq (message_cmp m x.message)) (tie m) in
      sym (alike new) ∙ (same ∙ alike old)

  -- rows of the same process stay in message order
  pub ordered-at : (p : ℕ) (rows : List Row) → AreInMessageOrder rows → AreInMessageOrder (rows_at p rows)
  ordered-at p rows up = IsSortedBy-filter is_before (ranks_by O (λ (row : Row). row.message)) (λ row. row.place == p) rows up

  -- rows in message order that are the same for each event are the same
  pub same-by-event : (xs ys : List Row) → AreInMessageOrder xs → AreInMessageOrder ys → ((m : Message) → rows_of_event m xs ≡ rows_of_event m ys) → xs ≡ ys
  same-by-event xs ys up up' same = one-sorted (λ row. row.message) message_cmp O xs ys up up' same

  -- rows that are the same for each event are the same at each process where they are in message order
  pub same-at : (p : ℕ) (xs ys : List Row) → AreInMessageOrder (rows_at p xs) → AreInMessageOrder (rows_at p ys) →
      ((m : Message) → rows_of_event m xs ≡ rows_of_event m ys) → rows_at p xs ≡ rows_at p ys
  same-at p xs ys up up' same =
      same-by-event (rows_at p xs) (rows_at p ys) up up' (λ m.
      filters-swap (λ row. is_eq (message_cmp m row.message)) (λ row. row.place == p) xs ∙ (ap (rows_at p) (same m)
      ∙ filters-swap (λ row. row.place == p) (λ row. is_eq (message_cmp m row.message)) ys))

  module _ (exact : (a b : Message) → message_cmp a b ≡ Equal → a ≡ b) where
    -- the rows of an event are those of its process
    event-here : (m : Message) (rows : List Row) → AllByRecursion IsHere rows → rows_of_event m rows ≡ rows_of_event m (rows_at m.receiver rows)
    event-here m rows h = filter-narrower (λ row. row.place == m.receiver) (λ row. is_eq (message_cmp m row.message)) rows (each rows h)
      where
        tied : (r : Ordering) → is_eq r ≡ true → r ≡ Equal
        tied Equal e = refl
        tied Less e = absurd (cc)
        tied Greater e = absurd (cc)

        each : (rows : List Row) → AllByRecursion IsHere rows → AllByRecursion (λ row. is_eq (message_cmp m row.message) ≡ true → (row.place == m.receiver) ≡ true) rows
        each [] h = tt
        each (row ∷ rows) h =
            ((λ e. eq-eqb row.place m.receiver (h.0 ∙ ap (λ (x : Message). x.receiver) (sym (exact m row.message (tied (message_cmp m row.message) e))))), each rows h.1)

    -- so they are where each row is at its receiver, and then they are at that process
    pub event-of : (m : Message) (rows : List Row) → AreAtReceivers rows → rows_of_event m rows ≡ rows_of_event m (rows_at m.receiver rows)
    event-of m rows here = event-here m rows (recursion_from_All IsHere rows here)

    pub event-at : (m : Message) (rows : List Row) → AreAtReceivers rows → AreAt m.receiver (rows_of_event m rows)
    event-at m rows here =
        let P : Row → Type 0 = λ row. row.place ≡ m.receiver in
        All-same P (rows_of_event m rows) (rows_of_event m (rows_at m.receiver rows)) (event-of m rows here)
        (All-filter (λ row. is_eq (message_cmp m row.message)) P (rows_at m.receiver rows) (rows_at-are m.receiver rows))

    -- rows that are the same at each process are the same for each event
    pub events-by-place : (xs ys : List Row) → AreAtReceivers xs → ((p : ℕ) → rows_at p xs ≡ rows_at p ys) → (m : Message) → rows_of_event m xs ≡ rows_of_event m ys
    events-by-place xs ys here same m =
        let hx : AllByRecursion IsHere xs = recursion_from_All IsHere xs here in
        let hy : AllByRecursion IsHere ys = each-here ys (λ p. subst (AllByRecursion IsHere) (same p) (here-filter (λ row. row.place == p) xs hx)) in
        event-here m xs hx ∙ (ap (rows_of_event m) (same m.receiver) ∙ sym (event-here m ys hy))

    -- so those in message order are the same
    pub same-by-place : (xs ys : List Row) → AreAtReceivers xs → AreInMessageOrder xs → AreInMessageOrder ys → ((p : ℕ) → rows_at p xs ≡ rows_at p ys) → xs ≡ ys
    same-by-place xs ys here up up' same = same-by-event xs ys up up' (events-by-place xs ys here same)
