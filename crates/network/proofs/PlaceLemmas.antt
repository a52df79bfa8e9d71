-- The first place that passes a test.
use Rattle.std.proofs.Common.{◌≡◌, ℕ, zero, suc, ◌+◌, ◌<◌, Bool, true, false, cond, ◌||◌, ◌&&◌, is_none, List, [], ◌∷◌, ◌++◌, length, take, get_or, Option, Some, None, is_some, unwrap_or, ◌≤◌, inl, inr, refl, ap, sym, ◌∙◌, arith, add-one, option_map, take_all, le_refl}
use Rattle.std.specs.List.{list_any}
use Rattle.std.proofs.lemmas.Bool.{cases_Bool, false≢true}
use Rattle.network.specs.Words.{place_by}

-- the first of two that is there
abbrev pub or_else : {X : Type 0} → Option X → Option X → Option X
or_else None o = o
or_else (Some x) o = Some x

pub or_else-none : {X : Type 0} (p : Option X) → or_else p None ≡ p
or_else-none None = refl
or_else-none (Some x) = refl

pub option_map-or_else : {X Y : Type 0} (f : X → Y) (p o : Option X) → option_map f (or_else p o) ≡ or_else (option_map f p) (option_map f o)
option_map-or_else f None o = refl
option_map-or_else f (Some x) o = refl

pub option_map-cond : {X Y : Type 0} (f : X → Y) (b : Bool) (x : X) (y : Y) → f x ≡ y → option_map f (cond b (Some x) None) ≡ cond b (Some y) None
option_map-cond f true x y h = ap Some h
option_map-cond f false x y h = refl

-- one more at the end
pub place_by-push : {X : Type 0} (test : X → Bool) (xs : List X) (x : X) → place_by test (xs ++ x ∷ []) ≡ or_else (place_by test xs) (cond (test x) (Some (length xs)) None)
place_by-push test [] x = refl
place_by-push test (first ∷ xs) x =
    let later : option_map (λ n. n + 1) (place_by test (xs ++ x ∷ [])) ≡ or_else (option_map (λ n. n + 1) (place_by test xs)) (cond (test x) (Some (length (first ∷ xs))) None) =
    ap (option_map (λ n. n + 1)) (place_by-push test xs x)
    ∙ option_map-or_else (λ n. n + 1) (place_by test xs) _
    ∙ ap (or_else (option_map (λ n. n + 1) (place_by test xs))) (option_map-cond (λ n. n + 1) (test x) (length xs) (length (first ∷ xs)) (add-one (length xs))) in
    elim (test first) as (λ b. cond b (Some 0) (option_map (λ n. n + 1) (place_by test (xs ++ x ∷ []))) ≡ or_else (cond b (Some 0) (option_map (λ n. n + 1) (place_by test xs))) (cond (test x) (Some (length (first ∷ xs))) None))
    [ true ↦ refl | false ↦ later ]

is_some-option_map : (o : Option ℕ) → is_some (option_map (λ n. n + 1) o) ≡ is_some o
is_some-option_map None = refl
is_some-option_map (Some n) = refl

-- there is a place where some one passes
pub is_some-place_by : {X : Type 0} (test : X → Bool) (xs : List X) → is_some (place_by test xs) ≡ list_any test xs
is_some-place_by test [] = refl
is_some-place_by test (x ∷ xs) =
    elim (test x) as (λ b. is_some (cond b (Some 0) (option_map (λ n. n + 1) (place_by test xs))) ≡ (b || list_any test xs))
    [ true ↦ refl | false ↦ is_some-option_map (place_by test xs) ∙ is_some-place_by test xs ]

-- tests that agree pass at the same place
pub place_by-same : {X : Type 0} (p q : X → Bool) (xs : List X) → ((x : X) → p x ≡ q x) → place_by p xs ≡ place_by q xs
place_by-same p q [] h = refl
place_by-same p q (x ∷ xs) h = ap (λ b. cond b (Some 0) (option_map (λ n. n + 1) (place_by p xs))) (h x) ∙ ap (λ o. cond (q x) (Some 0) (option_map (λ n. n + 1) o)) (place_by-same p q xs h)

pub none_of : {X : Type 0} (o : Option X) → is_some o ≡ false → o ≡ None
none_of None e = refl
none_of (Some x) e = absurd (false≢true (sym e))

-- one that passes stands before i
pub place_by-early : {X : Type 0} (test : X → Bool) (xs : List X) (i : ℕ) → list_any test (take i xs) ≡ true → (j : ℕ) × (place_by test xs ≡ Some j) × (j < i)
place_by-early test xs zero h = absurd (false≢true h)
place_by-early test [] (suc i) h = absurd (false≢true h)
place_by-early test (x ∷ xs) (suc i) h = go (test x) refl h (place_by-early test xs i)
  where
    go : (b : Bool) → test x ≡ b → (b || list_any test (take i xs)) ≡ true → (list_any test (take i xs) ≡ true → (j : ℕ) × (place_by test xs ≡ Some j) × (j < i)) → (j : ℕ) × (place_by test (x ∷ xs) ≡ Some j) × (j < suc i)
    go true e k later = (0, rw e refl, omega arith)
    go false e k later = let found = later k in let lt : found.0 < i = found.2 in (found.0 + 1, rw (e, found.1) refl, omega arith)

-- a place is one of the list
pub placed : {X : Type 0} (test : X → Bool) (xs : List X) (k : ℕ) → place_by test xs ≡ Some k → k < length xs
placed test xs k e =
    let there : list_any test xs ≡ true = sym (is_some-place_by test xs) ∙ ap is_some e in
    let all : take (length xs) xs ≡ xs = take_all (length xs) xs (le_refl (length xs)) in
    let found = place_by-early test xs (length xs) (ap (list_any test) all ∙ there) in
    let same : found.0 ≡ k = cc in
    grind arith

-- the one at i passes, and none before it
pub place_by-at : {X : Type 0} (test : X → Bool) (xs : List X) (i : ℕ) (d : X) → i < length xs → test (get_or xs i d) ≡ true → list_any test (take i xs) ≡ false → place_by test xs ≡ Some i
place_by-at test [] i d h here before = absurd (omega arith)
place_by-at test (x ∷ xs) zero d h here before = rw here refl
place_by-at test (x ∷ xs) (suc i) d h here before = go (test x) refl before (place_by-at test xs i d (omega arith) here)
  where
    go : (b : Bool) → test x ≡ b → (b || list_any test (take i xs)) ≡ false → (list_any test (take i xs) ≡ false → place_by test xs ≡ Some i) → place_by test (x ∷ xs) ≡ Some (suc i)
    go true e k later = absurd (false≢true (sym k))
    go false e k later = rw (e, later k) (ap Some (add-one i))

-- where the one at i passes, one that passes stands before it just where the first place is less
pub place_by-before : {X : Type 0} (test : X → Bool) (xs : List X) (i : ℕ) (d : X) (o : Option ℕ) → i < length xs → test (get_or xs i d) ≡ true → o ≡ place_by test xs
    → (unwrap_or o i < i → list_any test (take i xs) ≡ true) × (i ≤ unwrap_or o i → list_any test (take i xs) ≡ false)
place_by-before test xs i d o h here place = (early, late)
  where
    early : unwrap_or o i < i → list_any test (take i xs) ≡ true
    early lt = elim (cases_Bool (list_any test (take i xs))) [
      | inl t ↦ t
      | inr f ↦ (let same : unwrap_or o i ≡ i = ap (λ p. unwrap_or p i) (place ∙ place_by-at test xs i d h here f) in absurd (omega arith))
    ]

    late : i ≤ unwrap_or o i → list_any test (take i xs) ≡ false
    late le = elim (cases_Bool (list_any test (take i xs))) [
      | inl t ↦ (let found = place_by-early test xs i t in
          let same : unwrap_or o i ≡ found.0 = ap (λ p. unwrap_or p i) (place ∙ found.1) in
          let lt : found.0 < i = found.2 in absurd (omega arith))
      | inr f ↦ f
    ]

-- a place that is stored only where there is none yet
pub or_else-stored : {X : Type 0} (p : Option X) (b : Bool) (x : X) → cond (b && is_none p) (Some x) p ≡ or_else p (cond b (Some x) None)
or_else-stored None true x = refl
or_else-stored None false x = refl
or_else-stored (Some y) true x = refl
or_else-stored (Some y) false x = refl
