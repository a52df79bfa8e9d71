-- Entries in the order of their keys: one that is put in, and lists of entries with the same look-ups.
use Rattle.std.proofs.Common.{◌≡◌, Bool, true, false, cond, List, [], ◌∷◌, Option, Some, None, refl, ap, sym, ◌∙◌, is_eq, Ordering, Less, Equal, Greater}
use Rattle.std.specs.Cmp.{IsTotalOrder}
use Rattle.std.specs.List.{AllByRecursion}
use Rattle.std.specs.List.Sorted.{IsStrictlySortedBy}
use Rattle.std.specs.Ordering.{ordering_reverse, match_ordering}
use Rattle.std.specs.BTreeMap.{insert_entry, is_at}
use Rattle.std.specs.Map.{lookup, keys_of}
use Rattle.std.proofs.lemmas.Cmp.{alike_right, tied_itself, eq_by_cmp_equiv}
use Rattle.std.proofs.lemmas.List.Elements.{All-from_recursion, recursion_from_All}
use Rattle.std.proofs.lemmas.Map.Views.{All-keys-insert_entry}
use Rattle.std.proofs.lemmas.Map.{lookup-none}
use Rattle.std.proofs.lemmas.Map.Entries.{lookup_head, none_past_head, none_below_head}
use Rattle.std.proofs.lemmas.Map.Keys.{sorted_tail, IsDistinct-from_sorted}
use Rattle.std.proofs.lemmas.Map.Lookups.{CmpEqualImpliesEq}

-- what is equal to one of two keys that differ is not equal to the other
apart : {K : Type 0} {R : K → K → Ordering} → IsTotalOrder R → (q a b : K) → is_eq (R q a) ≡ true → is_eq (R a b) ≡ false → is_eq (R q b) ≡ false
apart {R} o q a b e d = go (R q a) refl e
  where
    go : (r : Ordering) → R q a ≡ r → is_eq r ≡ true → is_eq (R q b) ≡ false
    go Less s t = absurd (cc)
    go Equal s t = ap is_eq (o.congr q a b s) ∙ d
    go Greater s t = absurd (cc)

-- a look-up after an entry was put in
pub lookup-insert_entry : {K X : Type 0} {R : K → K → Ordering} → IsTotalOrder R → (k : K) (v : X) (q : K) (es : List (K × X))
    → lookup (is_at (R q)) (insert_entry R es k v) ≡ cond (is_eq (R q k)) (Some v) (lookup (is_at (R q)) es)
lookup-insert_entry o k v q [] = refl
lookup-insert_entry {K} {X} {R} o k v q (e ∷ es) = go (R k e.0) refl (lookup-insert_entry o k v q es)
  where
    replaced : (here there : Bool) → there ≡ here → (later : Option X) → cond here (Some v) later ≡ cond there (Some v) (cond here (Some e.1) later)
    replaced true true same later = refl
    replaced true false same later = absurd (cc)
    replaced false true same later = absurd (cc)
    replaced false false same later = refl

    passed : (here there : Bool) → is_eq (R q e.0) ≡ here → is_eq (R q k) ≡ there → is_eq (R k e.0) ≡ false → (later : Option X)
        → cond here (Some e.1) (cond there (Some v) later) ≡ cond there (Some v) (cond here (Some e.1) later)
    passed true true h t differ later = let not_here : is_eq (R q e.0) ≡ false = apart o q k e.0 t differ in absurd (cc)
    passed true false h t differ later = refl
    passed false there h t differ later = refl

    go : (r : Ordering) → R k e.0 ≡ r → lookup (is_at (R q)) (insert_entry R es k v) ≡ cond (is_eq (R q k)) (Some v) (lookup (is_at (R q)) es)
        → lookup (is_at (R q)) (match_ordering r ((k, v) ∷ e ∷ es) ((e.0, v) ∷ es) (e ∷ insert_entry R es k v)) ≡ cond (is_eq (R q k)) (Some v) (cond (is_eq (R q e.0)) (Some e.1) (lookup (is_at (R q)) es))
    go Less s next = refl
    go Equal s next = replaced (is_eq (R q e.0)) (is_eq (R q k)) (ap is_eq (alike_right o k e.0 q s)) (lookup (is_at (R q)) es)
    go Greater s next = ap (cond (is_eq (R q e.0)) (Some e.1)) next ∙ passed (is_eq (R q e.0)) (is_eq (R q k)) refl refl (ap is_eq s) (lookup (is_at (R q)) es)

-- what is below a key is below all that are above it
below-all : {K : Type 0} {R : K → K → Ordering} → IsTotalOrder R → (a b : K) (ks : List K) → R a b ≡ Less → AllByRecursion (λ y. R b y ≡ Less) ks → AllByRecursion (λ y. R a y ≡ Less) ks
below-all o a b [] lt h = tt
below-all o a b (k ∷ ks) lt h = (o.trans a b k lt h.0, below-all o a b ks lt h.1)

-- the keys still ascend
pub sorted-insert_entry : {K X : Type 0} {R : K → K → Ordering} → IsTotalOrder R → (k : K) (v : X) (es : List (K × X))
    → IsStrictlySortedBy R (keys_of es) → IsStrictlySortedBy R (keys_of (insert_entry R es k v))
unfolding IsStrictlySortedBy
sorted-insert_entry o k v [] h = (tt, tt)
sorted-insert_entry {K} {X} {R} o k v (e ∷ es) h = go (R k e.0) refl (sorted-insert_entry o k v es h.1)
  where
    go : (r : Ordering) → R k e.0 ≡ r → IsStrictlySortedBy R (keys_of (insert_entry R es k v))
        → IsStrictlySortedBy R (keys_of (match_ordering r ((k, v) ∷ e ∷ es) ((e.0, v) ∷ es) (e ∷ insert_entry R es k v)))
    go Less s next = ((s, below-all o k e.0 (keys_of es) s h.0), h)
    go Equal s next = h
    go Greater s next =
        let above : R e.0 k ≡ Less = o.antisymm e.0 k ∙ ap ordering_reverse s in (
          recursion_from_All (λ y. R e.0 y ≡ Less) (keys_of (insert_entry R es k v))
              (All-keys-insert_entry R k v (λ y. R e.0 y ≡ Less) es (All-from_recursion (λ y. R e.0 y ≡ Less) (keys_of es) h.0) above),
          next,
        )

-- the first entry is found at its key
at-head : {K X : Type 0} {R : K → K → Ordering} → IsTotalOrder R → (e : K × X) (es : List (K × X)) → lookup (is_at (R e.0)) (e ∷ es) ≡ Some e.1
at-head {R} o e es = lookup_head (is_at (R e.0)) e es (ap is_eq (tied_itself o e.0))

-- no entry is found below the first
below-head : {K X : Type 0} {R : K → K → Ordering} → IsTotalOrder R → (q : K) (e : K × X) (es : List (K × X)) → IsStrictlySortedBy R (keys_of (e ∷ es)) → R q e.0 ≡ Less
    → lookup (is_at (R q)) (e ∷ es) ≡ None
below-head {R} o q e es s lt = lookup-none (is_at (R q)) (e ∷ es) (none_below_head o q e es s lt)

-- behind the first entry nothing is found at its key, and what the list has at any other key
behind-head : {K X : Type 0} {R : K → K → Ordering} → IsTotalOrder R → (q : K) (e : K × X) (es : List (K × X)) → IsStrictlySortedBy R (keys_of (e ∷ es))
    → lookup (is_at (R q)) es ≡ cond (is_eq (R q e.0)) None (lookup (is_at (R q)) (e ∷ es))
behind-head {K} {X} {R} o q e es s = go (is_eq (R q e.0)) refl
  where
    go : (b : Bool) → is_eq (R q e.0) ≡ b → lookup (is_at (R q)) es ≡ cond b None (cond b (Some e.1) (lookup (is_at (R q)) es))
    go true t = lookup-none (is_at (R q)) es (none_past_head (eq_by_cmp_equiv o) q e es (IsDistinct-from_sorted R (keys_of (e ∷ es)) s) t)
    go false t = refl

-- entries whose keys ascend are the same where each look-up in them is
pub same-entries : {K X : Type 0} {R : K → K → Ordering} → IsTotalOrder R → CmpEqualImpliesEq R → (es fs : List (K × X))
    → IsStrictlySortedBy R (keys_of es) → IsStrictlySortedBy R (keys_of fs) → ((q : K) → lookup (is_at (R q)) es ≡ lookup (is_at (R q)) fs) → es ≡ fs
same-entries o exact [] [] s t same = refl
same-entries o exact [] (f ∷ fs) s t same = let here = at-head o f fs in let none = same f.0 in absurd (cc)
same-entries o exact (e ∷ es) [] s t same = let here = at-head o e es in let none = same e.0 in absurd (cc)
same-entries {K} {X} {R} o exact (e ∷ es) (f ∷ fs) s t same =
    go (R e.0 f.0) refl (λ h. same-entries o exact es fs (sorted_tail R e.0 (keys_of es) s) (sorted_tail R f.0 (keys_of fs) t) h)
  where
    go : (r : Ordering) → R e.0 f.0 ≡ r → (((q : K) → lookup (is_at (R q)) es ≡ lookup (is_at (R q)) fs) → es ≡ fs) → e ∷ es ≡ f ∷ fs
    go Less c rest =
        let here = at-head o e es in
        let none = below-head o e.0 f fs t c in
        let both = same e.0 in
        absurd (cc)
    go Greater c rest =
        let here = at-head o f fs in
        let none = below-head o f.0 e es s (o.antisymm f.0 e.0 ∙ ap ordering_reverse c) in
        let both = same f.0 in
        absurd (cc)
    go Equal c rest =
        let here = at-head o e es in
        let there = lookup_head (is_at (R e.0)) f fs (ap is_eq c) in
        let both = same e.0 in
        let key : e.0 ≡ f.0 = exact e.0 f.0 c in
        let value : e.1 ≡ f.1 = cc in
        let first : e ≡ f = ap (λ (k : K). (k, e.1)) key ∙ ap (λ (v : X). (f.0, v)) value in
        ap (λ x. x ∷ es) first
        ∙ ap (λ xs. f ∷ xs) (rest (λ q.
        behind-head o q e es s
        ∙ ap (cond (is_eq (R q e.0)) None) (same q)
        ∙ ap (λ k. cond (is_eq (R q k)) None (lookup (is_at (R q)) (f ∷ fs))) key
        ∙ sym (behind-head o q f fs t)))
