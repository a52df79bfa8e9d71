-- Lists made row by row, and the first fault of them.
use Rattle.std.proofs.Common.{◌≡◌, ℕ, ◌+◌, ◌<◌, Bool, true, false, ◌||◌, cond, add-zero, List, [], ◌∷◌, ◌++◌, length, take, drop, get_or, Some, inl, inr, refl, ap, sym, subst, map, ◌∙◌, arith, append_assoc, Contains, slice_get, append-nil, take-append-drop, length-take-le, count_by}
use Rattle.std.proofs.lemmas.List.{take_more, drop_more, map-append, length-map, get_or-map}
use Rattle.std.specs.List.{list_any}
use Rattle.std.proofs.lemmas.Bool.{cases_Bool}
use Rattle.std.proofs.lemmas.List.Sums.{count_by_more_yes, count_by_more_no}
use Rattle.std.proofs.lemmas.List.Elements.{Contains-get_or}
use Rattle.std.proofs.lemmas.List.Folds.{list_any-append, list_any-from_Any}
use Rattle.network_rows.specs.declared.fault.DescFault.{DescFault}
use Rattle.network.specs.Words.{each, each_after, when, Tells}

pub each_after-append : {X Y : Type 0} (f : List X → X → List Y) (earlier xs ys : List X) → each_after f earlier (xs ++ ys) ≡ each_after f earlier xs ++ each_after f (earlier ++ xs) ys
each_after-append f earlier [] ys = ap (λ e. each_after f e ys) (sym (append-nil earlier))
each_after-append f earlier (x ∷ xs) ys =
    ap (λ r. f earlier x ++ r) (each_after-append f (earlier ++ x ∷ []) xs ys ∙ ap (λ e. each_after f (earlier ++ x ∷ []) xs ++ each_after f e ys) (append_assoc earlier (x ∷ []) xs))
    ∙ sym (append_assoc (f earlier x) (each_after f (earlier ++ x ∷ []) xs) _)

-- one row more
pub each-more : {X Y : Type 0} (f : List X → X → List Y) (xs : List X) (i : ℕ) (d : X) → i < length xs → each f (take (i + 1) xs) ≡ each f (take i xs) ++ f (take i xs) (get_or xs i d)
each-more f xs i d h =
    ap (each f) (take_more xs i d h) ∙ each_after-append f [] (take i xs) (get_or xs i d ∷ [])
    ∙ ap (λ r. each f (take i xs) ++ r) (append-nil (f (take i xs) (get_or xs i d)))

-- the rows before one, that one, and those behind it
pub each-at : {X Y : Type 0} (f : List X → X → List Y) (xs : List X) (i : ℕ) (d : X) → i < length xs
    → each f xs ≡ each f (take i xs) ++ (f (take i xs) (get_or xs i d) ++ each_after f (take i xs ++ get_or xs i d ∷ []) (drop (i + 1) xs))
each-at f xs i d h =
    ap (each f) (sym (take-append-drop i xs) ∙ ap (λ r. take i xs ++ r) (drop_more xs i d h))
    ∙ each_after-append f [] (take i xs) (get_or xs i d ∷ drop (i + 1) xs)

-- the first of two lists
pub first-append : {X : Type 0} (xs ys : List X) (x : X) → slice_get xs 0 ≡ Some x → slice_get (xs ++ ys) 0 ≡ Some x
first-append [] ys x h = cc
first-append (y ∷ xs) ys x h = h

pub Tells-front : (fault : DescFault) (xs ys : List DescFault) → Tells fault xs → Tells fault (xs ++ ys)
Tells-front fault xs ys (inl h) = inl h
Tells-front fault xs ys (inr h) = inr (first-append xs ys fault h)

pub Tells-behind : (fault : DescFault) (xs ys : List DescFault) → xs ≡ [] → Tells fault ys → Tells fault (xs ++ ys)
Tells-behind fault xs ys none h = rw none h

-- what is told of one item that fails a test is told of them all
pub Tells-any : {X : Type 0} (p : X → Bool) (xs : List X) (i : ℕ) (d : X) (fault at : DescFault) → i < length xs → Tells fault (when (p (get_or xs i d)) at) → Tells fault (when (list_any p xs) at)
Tells-any p xs i d fault at lt told = elim (cases_Bool (p (get_or xs i d))) [
  | inl fails ↦ (let there = Contains-get_or xs i d lt in rw (list_any-from_Any p xs (there.0, get_or xs i d, there.1, there.2, fails)) (rw fails at told))
  | inr passes ↦ no-fault (rw passes at told)
]
  where
    no-fault : Tells fault [] → Tells fault (when (list_any p xs) at)
    no-fault (inl memory) = inl memory
    no-fault (inr none) = cc

-- no row up to one has a fault
pub each-none : {X : Type 0} (f : List X → X → List DescFault) (xs : List X) (i : ℕ) (d : X) → i < length xs → each f (take i xs) ≡ [] → f (take i xs) (get_or xs i d) ≡ [] → each f (take (i + 1) xs) ≡ []
each-none f xs i d h before here = each-more f xs i d h ∙ rw (before, here) refl

-- the first fault of the first row that has one
pub Tells-each : {X : Type 0} (f : List X → X → List DescFault) (xs : List X) (i : ℕ) (d : X) (fault : DescFault) → i < length xs → each f (take i xs) ≡ [] → Tells fault (f (take i xs) (get_or xs i d)) → Tells fault (each f xs)
Tells-each f xs i d fault h before here =
    rw (each-at f xs i d h) (Tells-behind fault _ _ before (Tells-front fault _ _ here))

-- the same at an item that was read
pub none-read : {X : Type 0} (f : List X → X → List DescFault) (xs : List X) (i : ℕ) (x : X) → i < length xs → x ≡ get_or xs i x → each f (take i xs) ≡ [] → f (take i xs) x ≡ [] → each f (take (i + 1) xs) ≡ []
none-read f xs i x h read before here = each-none f xs i x h before (ap (f (take i xs)) (sym read) ∙ here)

pub Tells-read : {X : Type 0} (f : List X → X → List DescFault) (xs : List X) (i : ℕ) (x : X) (fault : DescFault) → i < length xs → x ≡ get_or xs i x → each f (take i xs) ≡ [] → Tells fault (f (take i xs) x) → Tells fault (each f xs)
Tells-read {X} f xs i x fault h read before here =
    Tells-each f xs i x fault h before (subst (λ (y : X). Tells fault (f (take i xs) y)) read here)

pub length-before : {X : Type 0} (xs : List X) (i : ℕ) → i < length xs → length (take i xs) ≡ i
length-before xs i h = length-take-le i xs (omega arith)

-- a row more of a list that is made of rows
pub map-push : {X Y : Type 0} (f : X → Y) (xs : List X) (x : X) (old new : List Y) (y : Y) → old ≡ map f xs → new ≡ old ++ y ∷ [] → y ≡ f x → new ≡ map f (xs ++ x ∷ [])
map-push f xs x old new y before pushed made = pushed ∙ ap (λ ys. ys ++ y ∷ []) before ∙ ap (λ z. map f xs ++ z ∷ []) made ∙ sym (map-append f xs (x ∷ []))

-- the same over a list that is made of another
pub read-map : {X Y : Type 0} (g : X → Y) (rows : List X) (i : ℕ) (x : X) → i < length rows → x ≡ get_or rows i x → g x ≡ get_or (map g rows) i (g x)
read-map g rows i x h read = ap g read ∙ sym (get_or-map g rows i x (g x) h)

pub none-mapped : {X Y : Type 0} (f : List Y → Y → List DescFault) (g : X → Y) (rows : List X) (i : ℕ) (x : X) → i < length rows → x ≡ get_or rows i x → each f (take i (map g rows)) ≡ [] → f (take i (map g rows)) (g x) ≡ [] → each f (take (i + 1) (map g rows)) ≡ []
none-mapped f g rows i x h read before here = none-read f (map g rows) i (g x) (omega (arith, length-map rows g)) (read-map g rows i x h read) before here

pub Tells-mapped : {X Y : Type 0} (f : List Y → Y → List DescFault) (g : X → Y) (rows : List X) (i : ℕ) (x : X) (fault : DescFault) → i < length rows → x ≡ get_or rows i x → each f (take i (map g rows)) ≡ [] → Tells fault (f (take i (map g rows)) (g x)) → Tells fault (each f (map g rows))
Tells-mapped f g rows i x fault h read before here = Tells-read f (map g rows) i (g x) fault (omega (arith, length-map rows g)) (read-map g rows i x h read) before here

pub length-before-mapped : {X Y : Type 0} (g : X → Y) (rows : List X) (i : ℕ) → i < length rows → length (take i (map g rows)) ≡ i
length-before-mapped g rows i h = length-before (map g rows) i (omega (arith, length-map rows g))

-- a test that one element passes
pub list_any-contains : {X : Type 0} (p : X → Bool) (xs : List X) (x : X) → Contains xs x → p x ≡ true → list_any p xs ≡ true
list_any-contains p xs x there h = list_any-from_Any p xs (there.0, x, there.1, there.2, h)

-- a test of one more
pub list_any-push : {X : Type 0} (p : X → Bool) (xs : List X) (x : X) → list_any p (xs ++ x ∷ []) ≡ (list_any p xs || p x)
list_any-push p xs x = list_any-append p xs (x ∷ []) ∙ ap (λ b. list_any p xs || b) (or-false (p x))
  where
    or-false : (b : Bool) → (b || false) ≡ b
    or-false true = refl
    or-false false = refl

pub take-read : {X : Type 0} (xs : List X) (i : ℕ) (x : X) → i < length xs → x ≡ get_or xs i x → take (i + 1) xs ≡ take i xs ++ x ∷ []
take-read xs i x h read = take_more xs i x h ∙ ap (λ y. take i xs ++ y ∷ []) (sym read)

-- a count of one more
pub count_by-more : {X : Type 0} (p : X → Bool) (xs : List X) (i : ℕ) (d : X) → i < length xs → count_by p (take (i + 1) xs) ≡ count_by p (take i xs) + cond (p (get_or xs i d)) 1 0
count_by-more p xs i d h = elim (cases_Bool (p (get_or xs i d))) [
  | inl passed ↦ count_by_more_yes p xs i d h passed ∙ rw passed refl
  | inr failed ↦ count_by_more_no p xs i d h failed ∙ rw failed (sym (add-zero (count_by p (take i xs))))
]
