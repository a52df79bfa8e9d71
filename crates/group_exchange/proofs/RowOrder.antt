-- Rows in the order of their messages: those of all processes tell the list. The rows of the one-thread run are so.
use Rattle.std.proofs.Common.{◌≡◌, ℕ, zero, suc, ◌==◌, inl, inr, Bool, true, false, cond, All, List, [], ◌∷◌, ◌++◌, filter, Option, Some, None, refl, sym, ap, ◌∙◌, subst, arith, eq-eqb, ne_eqb}
use Rattle.std.proofs.lemmas.Bool.{both_ways, cases_eq}
use Rattle.std.proofs.lemmas.List.Elements.{All-append, All-cons, All-filter, All-head, All-nil, All-tail, All-weaker}
use Rattle.vlink.specs.declared.message.Message.{Message}
use Rattle.vlink.specs.declared.note.Note.{Note}
use Rattle.vlink.specs.Letters.{Row}
use Rattle.virtual_time.specs.Law.{Order, IsOrder, Simulation, Laws, IsIn, OneThread, handle, least, one, rows_at, rows_of}
use Rattle.virtual_time.proofs.Least.{least-some}
use Rattle.virtual_time.proofs.Lists.{in-head, times-append}
use Rattle.virtual_time.proofs.OneThread.{right}
use Rattle.virtual_time.proofs.Order.{less-asym, not_less-cases}
use Rattle.group_exchange.specs.Rows.{AreInOrder}

module _ (o : Order Message) (O : IsOrder o) where
  pub ordered-append : (xs ys : List Row) → AreInOrder o xs → AreInOrder o ys → All (λ x. All (λ y. o.less y.message x.message ≡ false) ys) xs → AreInOrder o (xs ++ ys)
  ordered-append [] ys a b c = b
  ordered-append (x ∷ xs) ys a b c = (
    All-append (λ z. o.less z.message x.message ≡ false) xs ys a.0 (All-head (λ z. All (λ y. o.less y.message z.message ≡ false) ys) x xs c),
    ordered-append xs ys a.1 b (All-tail (λ z. All (λ y. o.less y.message z.message ≡ false) ys) x xs c),
  )

  pub ordered-filter : (q : Row → Bool) (xs : List Row) → AreInOrder o xs → AreInOrder o (filter q xs)
  ordered-filter q [] a = tt
  ordered-filter q (x ∷ xs) a = go (q x) (ordered-filter q xs a.1)
    where
      go : (b : Bool) → AreInOrder o (filter q xs) → AreInOrder o (cond b (x ∷ filter q xs) (filter q xs))
      go true i = (All-filter q (λ z. o.less z.message x.message ≡ false) xs a.0, i)
      go false i = i

  -- the rows of one event
  pub event-rows : (m : Message) (notes : List Note) → All (λ row. (row.message ≡ m) × (row.place ≡ o.receiver m)) (rows_of o m notes)
  event-rows m [] = All-nil (λ (row : Row). (row.message ≡ m) × (row.place ≡ o.receiver m))
  event-rows m (n ∷ ns) = All-cons (λ (row : Row). (row.message ≡ m) × (row.place ≡ o.receiver m)) (record { message = m; place = o.receiver m; note = n }) (rows_of o m ns) (refl, refl) (event-rows m ns)

  pub of-one-event : (m : Message) (rows : List Row) → All (λ row. (row.message ≡ m) × (row.place ≡ o.receiver m)) rows → AreInOrder o rows
  of-one-event m [] a = tt
  of-one-event m (x ∷ xs) a =
      let P : Row → Type 0 = λ row. (row.message ≡ m) × (row.place ≡ o.receiver m) in
      let first = (All-head P x xs a).0 in (
        All-weaker P (λ z. o.less z.message x.message ≡ false) (λ z k. (λ j. o.less (k.0 j) (first j)) ∙ O.irreflexive m) xs (All-tail P x xs a),
        of-one-event m xs (All-tail P x xs a),
      )

  -- a row that some process has, which is not the first
  here : (a : Row) (b : Row) (bs : List Row) (rest : List Row) → (b.place ≡ a.place → ⊥) → rows_at a.place (b ∷ bs) ≡ a ∷ rest → AreInOrder o (b ∷ bs) → o.less a.message b.message ≡ false
  here a b bs rest n e up =
      All-head (λ z. o.less z.message b.message ≡ false) a rest
      (subst (λ zs. All (λ z. o.less z.message b.message ≡ false) zs) (sym (ap (λ c. cond c (b ∷ rows_at a.place bs) (rows_at a.place bs)) (ne_eqb b.place a.place n)) ∙ e)
      (All-filter (λ row. row.place == a.place) (λ z. o.less z.message b.message ≡ false) bs up.0))

  own : (a : Row) (as' : List Row) → rows_at a.place (a ∷ as') ≡ a ∷ rows_at a.place as'
  own a as' = ap (λ c. cond c (a ∷ rows_at a.place as') (rows_at a.place as')) (eq-eqb a.place a.place refl)

  -- both have the same rows of each process
  pub same-rows : (as' bs : List Row) → All (λ row. row.place ≡ o.receiver row.message) as' → All (λ row. row.place ≡ o.receiver row.message) bs →
      AreInOrder o as' → AreInOrder o bs → ((p : ℕ) → rows_at p as' ≡ rows_at p bs) → as' ≡ bs
  same-rows [] [] u v i j e = refl
  same-rows [] (b ∷ bs) u v i j e = absurd (let k : [] ≡ b ∷ rows_at b.place bs = e b.place ∙ own b bs in cc)
  same-rows (a ∷ as') [] u v i j e = absurd (let k : a ∷ rows_at a.place as' ≡ [] = sym (own a as') ∙ e a.place in cc)
  same-rows (a ∷ as') (b ∷ bs) u v i j e =
      elim (cases_eq b.place a.place) [
        | inl s ↦ (
            let P : Row → Type 0 = λ row. row.place ≡ o.receiver row.message in
            let one : a ∷ rows_at a.place as' ≡ b ∷ rows_at b.place bs = sym (own a as') ∙ (e a.place ∙ (ap (λ p. rows_at p (b ∷ bs)) (sym s) ∙ own b bs)) in
            let same : a ≡ b = cc in
            let rest : (p : ℕ) → rows_at p as' ≡ rows_at p bs = λ p. tails p a b as' bs s (e p) in
            λ k. same k ∷ same-rows as' bs (All-tail P a as' u) (All-tail P b bs v) i.1 j.1 rest k)
        | inr n ↦ absurd (
            let P : Row → Type 0 = λ row. row.place ≡ o.receiver row.message in
            let x = here a b bs (rows_at a.place as') n (sym (e a.place) ∙ own a as') j in
            let y = here b a as' (rows_at b.place bs) (λ z. n (sym z)) (e b.place ∙ own b bs) i in
            elim (not_less-cases o O a.message b.message x) [
              | inl same ↦ n (All-head P b bs v ∙ (ap o.receiver same ∙ sym (All-head P a as' u)))
              | inr less ↦ both_ways _ y less
            ])
      ]
    where
      tails : (p : ℕ) (a b : Row) (as' bs : List Row) → b.place ≡ a.place → rows_at p (a ∷ as') ≡ rows_at p (b ∷ bs) → rows_at p as' ≡ rows_at p bs
      tails p a b as' bs s e = go (a.place == p) refl
        where
          go : (c : Bool) → (a.place == p) ≡ c → rows_at p as' ≡ rows_at p bs
          go true h =
              let k : a ∷ rows_at p as' ≡ b ∷ rows_at p bs =
              sym (ap (λ c. cond c (a ∷ rows_at p as') (rows_at p as')) h) ∙ (e ∙ ap (λ c. cond c (b ∷ rows_at p bs) (rows_at p bs)) (ap (λ q. q == p) s ∙ h)) in cc
          go false h = sym (ap (λ c. cond c (a ∷ rows_at p as') (rows_at p as')) h) ∙ (e ∙ ap (λ c. cond c (b ∷ rows_at p bs) (rows_at p bs)) (ap (λ q. q == p) s ∙ h))

module _ {S K : Type 0} (f : Simulation Message S K Note) (L : Laws f) where
  -- the rows of a one-thread run
  record AreOfRun (t : OneThread Message S Note) : Type 0 where
    receivers : All (λ row. row.place ≡ f.rules.order.receiver row.message) t.rows
    ordered : AreInOrder f.rules.order t.rows
    handled : All (λ row. IsIn f.rules.order row.message t.handled) t.rows

  next-of-run : (n : ℕ) → AreOfRun (one f n) → (m : Message) → IsIn f.rules.order m (one f n).waiting → AreOfRun (handle f (one f n) (Some m))
  next-of-run n k m waits =
      let o = f.rules.order in
      let t = one f n in
      let new = rows_of o m (f.rules.notes (t.states (o.receiver m)) m) in
      let these = event-rows o L.order m (f.rules.notes (t.states (o.receiver m)) m) in
      let P : Row → Type 0 = λ row. (row.message ≡ m) × (row.place ≡ o.receiver m) in
      let behind : (x : Message) → IsIn o x t.handled → IsIn o x (t.handled ++ m ∷ []) = λ x i. (let a = times-append o L.order x t.handled (m ∷ []) in omega arith) in
      let last : IsIn o m (t.handled ++ m ∷ []) = (let a = times-append o L.order m t.handled (m ∷ []) in let b = in-head o L.order m [] in omega arith) in
      record {
        receivers = All-append (λ row. row.place ≡ o.receiver row.message) t.rows new k.receivers (All-weaker P (λ row. row.place ≡ o.receiver row.message) (λ row e. e.1 ∙ ap o.receiver (sym e.0)) new these);
        ordered = ordered-append o L.order t.rows new k.ordered (of-one-event o L.order m new these)
            (All-weaker (λ row. IsIn o row.message t.handled) (λ x. All (λ y. o.less y.message x.message ≡ false) new)
            (λ x i. All-weaker P (λ y. o.less y.message x.message ≡ false) (λ y e. ap (λ z. o.less z x.message) e.0 ∙ less-asym o L.order x.message m ((right f L n).above x.message m i waits)) new these) t.rows k.handled);
        handled = All-append (λ row. IsIn o row.message (t.handled ++ m ∷ [])) t.rows new
            (All-weaker (λ row. IsIn o row.message t.handled) (λ row. IsIn o row.message (t.handled ++ m ∷ [])) (λ row i. behind row.message i) t.rows k.handled)
            (All-weaker P (λ row. IsIn o row.message (t.handled ++ m ∷ [])) (λ row e. subst (λ z. IsIn o z (t.handled ++ m ∷ [])) (sym e.0) last) new these);
      }

  of-run : (n : ℕ) → AreOfRun (one f n)
  unfolding one
  of-run zero = record {
    receivers = All-nil (λ (row : Row). row.place ≡ f.rules.order.receiver row.message);
    ordered = tt;
    handled = All-nil (λ (row : Row). IsIn f.rules.order row.message []);
  }
  of-run (suc n) = go (least f.rules.order (one f n).waiting) refl (of-run n)
    where
      go : (m : Option Message) → least f.rules.order (one f n).waiting ≡ m → AreOfRun (one f n) → AreOfRun (handle f (one f n) m)
      go None e k = k
      go (Some m) e k = next-of-run n k m (least-some f.rules.order L.order (one f n).waiting m e).inside

  pub run-at-receivers : (n : ℕ) → All (λ row. row.place ≡ f.rules.order.receiver row.message) (one f n).rows
  run-at-receivers n = (of-run n).receivers

  pub run-ordered : (n : ℕ) → AreInOrder f.rules.order (one f n).rows
  run-ordered n = (of-run n).ordered
