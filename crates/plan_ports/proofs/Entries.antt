-- What is found by its number among entries that are made of those virtual links of a network which pass a test.
use Rattle.std.proofs.Common.{◌≡◌, ℕ, suc, ◌+◌, ◌==◌, Bool, true, false, cond, List, [], ◌∷◌, map, filter, Option, Some, None, inl, inr, refl, ap, sym, ◌∙◌, subst, arith, add-one, slice_get, option_map, option_and_then, eqb-true, eq-eqb, nat_cmp, Less}
use Rattle.std.specs.List.{AllByRecursion}
use Rattle.std.specs.List.Sorted.{IsStrictlySortedBy}
use Rattle.std.proofs.lemmas.Bool.Decides.{nat_tests}
use Rattle.std.proofs.lemmas.Option.{none-some, same_Some}
use Rattle.std.proofs.lemmas.Map.Keys.{sorted_head, sorted_tail}
use Rattle.network_faults.proofs.MemberLemmas.{Has}
use Rattle.nodes.specs.rules.Finding.{Found, find, found_at, place_of}

-- the first entry with a number
abbrev pub entry_of : {Y : Type 0} → (Y → ℕ) → List Y → ℕ → Option Y
entry_of number ys v = option_map (λ found. found.entry) (find number ys v)

entry-cons : {Y : Type 0} (number : Y → ℕ) (y : Y) (ys : List Y) (v : ℕ) → entry_of number (y ∷ ys) v ≡ cond (number y == v) (Some y) (entry_of number ys v)
entry-cons {Y} number y ys v = go (number y == v) (place_of (map number ys) v)
  where
    same : (i j : ℕ) (o : Option Y) → option_map (λ (found : Found Y). found.entry) (option_map (λ x. record { place = i; entry = x }) o) ≡ option_map (λ (found : Found Y). found.entry) (option_map (λ x. record { place = j; entry = x }) o)
    same i j None = refl
    same i j (Some x) = refl

    go : (b : Bool) (o : Option ℕ) → option_map (λ (found : Found Y). found.entry) (option_and_then (found_at (y ∷ ys)) (cond b (Some 0) (option_map (λ k. k + 1) o)))
        ≡ cond b (Some y) (option_map (λ (found : Found Y). found.entry) (option_and_then (found_at ys) o))
    go true o = refl
    go false None = refl
    go false (Some k) = rw (add-one k) (same (suc k) k (slice_get ys k))

module _ {X Y : Type 0} (id : X → ℕ) (number : Y → ℕ) (f : X → Y) (test : X → Bool) (own : (x : X) → number (f x) ≡ id x) where
  -- what is found is made of one that passes
  pub entry-made : (xs : List X) (v : ℕ) (y : Y) → entry_of number (map f (filter test xs)) v ≡ Some y → (x : X) × Has xs x × (test x ≡ true) × (id x ≡ v) × (f x ≡ y)
  entry-made [] v y e = absurd (none-some y e)
  entry-made (x ∷ xs) v y e = go (test x) refl e (entry-made xs v y)
    where
      behind : (z : X) × Has xs z × (test z ≡ true) × (id z ≡ v) × (f z ≡ y) → (z : X) × Has (x ∷ xs) z × (test z ≡ true) × (id z ≡ v) × (f z ≡ y)
      behind h = (h.0, inr h.1, h.2, h.3, h.4)

      at : test x ≡ true → (b : Bool) → (number (f x) == v) ≡ b → cond b (Some (f x)) (entry_of number (map f (filter test xs)) v) ≡ Some y
          → (entry_of number (map f (filter test xs)) v ≡ Some y → (z : X) × Has xs z × (test z ≡ true) × (id z ≡ v) × (f z ≡ y)) → (z : X) × Has (x ∷ xs) z × (test z ≡ true) × (id z ≡ v) × (f z ≡ y)
      at passes true same e later = (x, inl refl, passes, sym (own x) ∙ eqb-true (number (f x)) v same, same_Some (f x) y e)
      at passes false other e later = behind (later e)

      go : (b : Bool) → test x ≡ b → entry_of number (map f (cond b (x ∷ filter test xs) (filter test xs))) v ≡ Some y
          → (entry_of number (map f (filter test xs)) v ≡ Some y → (z : X) × Has xs z × (test z ≡ true) × (id z ≡ v) × (f z ≡ y)) → (z : X) × Has (x ∷ xs) z × (test z ≡ true) × (id z ≡ v) × (f z ≡ y)
      go true passes e later = at passes (number (f x) == v) refl (sym (entry-cons number (f x) (map f (filter test xs)) v) ∙ e) later
      go false fails e later = behind (later e)

-- where numbers rise, those behind the first one have other numbers
below : {X : Type 0} (id : X → ℕ) (n : ℕ) (xs : List X) (x : X) → AllByRecursion (λ m. nat_cmp n m ≡ Less) (map id xs) → Has xs x → nat_cmp n (id x) ≡ Less
below id n [] x all there = absurd there
below id n (y ∷ ys) x all (inl same) = subst (λ z. nat_cmp n (id z) ≡ Less) same all.0
below id n (y ∷ ys) x all (inr there) = below id n ys x all.1 there

other-number : (n m : ℕ) → nat_cmp n m ≡ Less → (n == m) ≡ false
other-number n m less = grind (arith, nat_tests)

-- each that passes is found
pub made-entry : {X Y : Type 0} (id : X → ℕ) (number : Y → ℕ) (f : X → Y) (test : X → Bool) → ((x : X) → number (f x) ≡ id x) → (xs : List X) (x : X) → IsStrictlySortedBy nat_cmp (map id xs) → Has xs x → test x ≡ true
    → entry_of number (map f (filter test xs)) (id x) ≡ Some (f x)
made-entry id number f test own [] x rising there passes = absurd there
made-entry id number f test own (first ∷ xs) x rising (inl same) passes =
    let here : test first ≡ true = ap test same ∙ passes in
    let is : (number (f first) == id x) ≡ true = eq-eqb _ _ (own first ∙ ap id same) in
    rw here (entry-cons number (f first) (map f (filter test xs)) (id x) ∙ rw is (ap (λ z. Some (f z)) same))
made-entry {X} id number f test own (first ∷ xs) x rising (inr there) passes =
    let later = made-entry id number f test own xs x (sorted_tail nat_cmp (id first) (map id xs) rising) there passes in
    let other = ap (λ n. n == id x) (own first) ∙ other-number (id first) (id x) (below id (id first) xs x (sorted_head nat_cmp (id first) (map id xs) rising) there) in
    go (test first) other later
  where
    go : (b : Bool) → (number (f first) == id x) ≡ false → entry_of number (map f (filter test xs)) (id x) ≡ Some (f x) → entry_of number (map f (cond b (first ∷ filter test xs) (filter test xs))) (id x) ≡ Some (f x)
    go true other later = entry-cons number (f first) (map f (filter test xs)) (id x) ∙ rw other later
    go false other later = later

-- and each of all
pub all-entry : {X : Type 0} (id : X → ℕ) (xs : List X) (x : X) → IsStrictlySortedBy nat_cmp (map id xs) → Has xs x → entry_of id xs (id x) ≡ Some x
all-entry id [] x rising there = absurd there
all-entry id (first ∷ xs) x rising (inl same) = entry-cons id first xs (id x) ∙ rw (eq-eqb (id first) (id x) (ap id same)) (ap Some same)
all-entry id (first ∷ xs) x rising (inr there) =
    let other = other-number (id first) (id x) (below id (id first) xs x (sorted_head nat_cmp (id first) (map id xs) rising) there) in
    entry-cons id first xs (id x) ∙ rw other (all-entry id xs x (sorted_tail nat_cmp (id first) (map id xs) rising) there)
