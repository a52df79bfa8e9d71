-- What a list has: of lists made of others, and of numbers put in order.
use Rattle.std.proofs.Common.{◌≡◌, ℕ, zero, suc, List, [], ◌∷◌, ◌++◌, Option, Some, None, inl, inr, refl, ap, sym, ◌∙◌, subst, arith, ◌⊎◌, Contains, flat_map, option_to_list, nat_cmp, Less, Equal, Greater}
use Rattle.std.specs.Ordering.{match_ordering}
use Rattle.std.specs.BTreeSet.{insert_key}
use Rattle.std.specs.Cmp.{nat_cmp_is}
use Rattle.std.proofs.lemmas.Bool.{cases_order}
use Rattle.network.specs.Words.{rising_from, rising}

-- the list has the element
abbrev pub Has : {X : Type 0} → List X → X → Type 0
Has [] x = ⊥
Has (y ∷ ys) x = (y ≡ x) ⊎ Has ys x

module _ {X : Type 0} where
  pub has-from_contains : (xs : List X) (x : X) → Contains xs x → Has xs x
  has-from_contains [] x there = absurd (omega (arith, there.1))
  has-from_contains (y ∷ ys) x (zero, lt, same) = inl same
  has-from_contains (y ∷ ys) x (suc k, lt, same) = inr (has-from_contains ys x (k, omega (arith, lt), same))

  pub contains-from_has : (xs : List X) (x : X) → Has xs x → Contains xs x
  contains-from_has [] x there = absurd there
  contains-from_has (y ∷ ys) x (inl same) = (0, omega arith, same)
  contains-from_has (y ∷ ys) x (inr there) = let behind = contains-from_has ys x there in (suc behind.0, omega (arith, behind.1), behind.2)

  pub has-left : (xs ys : List X) (x : X) → Has xs x → Has (xs ++ ys) x
  has-left [] ys x there = absurd there
  has-left (z ∷ zs) ys x (inl same) = inl same
  has-left (z ∷ zs) ys x (inr there) = inr (has-left zs ys x there)

  pub has-right : (xs ys : List X) (x : X) → Has ys x → Has (xs ++ ys) x
  has-right [] ys x there = there
  has-right (z ∷ zs) ys x there = inr (has-right zs ys x there)

  pub has-either : (xs ys : List X) (x : X) → Has (xs ++ ys) x → Has xs x ⊎ Has ys x
  has-either [] ys x there = inr there
  has-either (z ∷ zs) ys x (inl same) = inl (inl same)
  has-either (z ∷ zs) ys x (inr there) = elim (has-either zs ys x there) [ inl left ↦ inl (inr left) | inr right ↦ inr right ]

  pub has-option : (o : Option X) (x : X) → o ≡ Some x → Has (option_to_list o) x
  has-option None x same = absurd (cc)
  has-option (Some y) x same = inl (cc)

  pub option-has : (o : Option X) (x : X) → Has (option_to_list o) x → o ≡ Some x
  option-has None x there = absurd there
  option-has (Some y) x (inl same) = ap Some same
  option-has (Some y) x (inr there) = absurd there

module _ {X Y : Type 0} (f : X → List Y) where
  pub has-flat_map : (xs : List X) (x : X) (y : Y) → Has xs x → Has (f x) y → Has (flat_map f xs) y
  has-flat_map [] x y there made = absurd there
  has-flat_map (z ∷ zs) x y (inl same) made = has-left (f z) (flat_map f zs) y (subst (λ (w : X). Has (f w) y) (sym same) made)
  has-flat_map (z ∷ zs) x y (inr there) made = has-right (f z) (flat_map f zs) y (has-flat_map zs x y there made)

  pub flat_map-has : (xs : List X) (y : Y) → Has (flat_map f xs) y → (x : X) × Has xs x × Has (f x) y
  flat_map-has [] y there = absurd there
  flat_map-has (z ∷ zs) y there = elim (has-either (f z) (flat_map f zs) y there) [
    | inl here ↦ (z, inl refl, here)
    | inr behind ↦ (let found = flat_map-has zs y behind in (found.0, inr found.1, found.2))
  ]

-- ---- numbers in order

has-key : (xs : List ℕ) (n k : ℕ) → Has xs k ⊎ (n ≡ k) → Has (insert_key nat_cmp xs n) k
has-key [] n k (inl there) = absurd there
has-key [] n k (inr same) = inl same
has-key (x ∷ xs) n k h = elim (cases_order n x) [
  | inl same ↦ subst (λ (ys : List ℕ). Has ys k) (ap (λ o. match_ordering o (n ∷ x ∷ xs) (x ∷ xs) (x ∷ insert_key nat_cmp xs n)) (nat_cmp_is n x Equal same))
      (elim h [ inl there ↦ there | inr is ↦ inl (sym same ∙ is) ])
  | inr (inl lt) ↦ subst (λ (ys : List ℕ). Has ys k) (ap (λ o. match_ordering o (n ∷ x ∷ xs) (x ∷ xs) (x ∷ insert_key nat_cmp xs n)) (nat_cmp_is n x Less lt))
      (elim h [ inl there ↦ inr there | inr is ↦ inl is ])
  | inr (inr gt) ↦ subst (λ (ys : List ℕ). Has ys k) (ap (λ o. match_ordering o (n ∷ x ∷ xs) (x ∷ xs) (x ∷ insert_key nat_cmp xs n)) (nat_cmp_is n x Greater gt))
      (elim h [ inl (inl is) ↦ inl is | inl (inr there) ↦ inr (has-key xs n k (inl there)) | inr is ↦ inr (has-key xs n k (inr is)) ])
]

key-has : (xs : List ℕ) (n k : ℕ) → Has (insert_key nat_cmp xs n) k → Has xs k ⊎ (n ≡ k)
key-has [] n k (inl same) = inr same
key-has [] n k (inr there) = absurd there
key-has (x ∷ xs) n k h = elim (cases_order n x) [
  | inl same ↦ inl (subst (λ (ys : List ℕ). Has ys k) (ap (λ o. match_ordering o (n ∷ x ∷ xs) (x ∷ xs) (x ∷ insert_key nat_cmp xs n)) (sym (nat_cmp_is n x Equal same))) h)
  | inr (inl lt) ↦ elim (subst (λ (ys : List ℕ). Has ys k) (ap (λ o. match_ordering o (n ∷ x ∷ xs) (x ∷ xs) (x ∷ insert_key nat_cmp xs n)) (sym (nat_cmp_is n x Less lt))) h) [
    | inl is ↦ inr is
    | inr there ↦ inl there
  ]
  | inr (inr gt) ↦ elim (subst (λ (ys : List ℕ). Has ys k) (ap (λ o. match_ordering o (n ∷ x ∷ xs) (x ∷ xs) (x ∷ insert_key nat_cmp xs n)) (sym (nat_cmp_is n x Greater gt))) h) [
    | inl is ↦ inl (inl is)
    | inr there ↦ elim (key-has xs n k there) [ inl behind ↦ inl (inr behind) | inr is ↦ inr is ]
  ]
]

has-rising_from : (found xs : List ℕ) (k : ℕ) → Has found k ⊎ Has xs k → Has (rising_from found xs) k
has-rising_from found [] k (inl there) = there
has-rising_from found [] k (inr there) = absurd there
has-rising_from found (x ∷ xs) k (inl there) = has-rising_from (insert_key nat_cmp found x) xs k (inl (has-key found x k (inl there)))
has-rising_from found (x ∷ xs) k (inr (inl same)) = has-rising_from (insert_key nat_cmp found x) xs k (inl (has-key found x k (inr same)))
has-rising_from found (x ∷ xs) k (inr (inr there)) = has-rising_from (insert_key nat_cmp found x) xs k (inr there)

rising_from-has : (found xs : List ℕ) (k : ℕ) → Has (rising_from found xs) k → Has found k ⊎ Has xs k
rising_from-has found [] k there = inl there
rising_from-has found (x ∷ xs) k there = elim (rising_from-has (insert_key nat_cmp found x) xs k there) [
  | inl early ↦ elim (key-has found x k early) [ inl before ↦ inl before | inr same ↦ inr (inl same) ]
  | inr behind ↦ inr (inr behind)
]

pub has-rising : (xs : List ℕ) (k : ℕ) → Has xs k → Has (rising xs) k
has-rising xs k there = has-rising_from [] xs k (inr there)

pub rising-has : (xs : List ℕ) (k : ℕ) → Has (rising xs) k → Has xs k
rising-has xs k there = elim (rising_from-has [] xs k there) [ inl none ↦ absurd none | inr is ↦ is ]
