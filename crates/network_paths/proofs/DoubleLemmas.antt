-- Numbers that are there twice.
use Rattle.std.proofs.Common.{◌≡◌, ℕ, ◌+◌, ◌<◌, Bool, true, false, cond, ◌==◌, ◌||◌, List, [], ◌∷◌, ◌++◌, length, take, drop, get_or, refl, ap, sym, ◌∙◌, arith, take-append-drop}
use Rattle.std.specs.List.{list_any}
use Rattle.std.specs.HashSet as hash
use Rattle.std.proofs.lemmas.Bool.Decides.{nat_tests}
use Rattle.std.proofs.lemmas.List.{take_more}
use Rattle.std.proofs.lemmas.List.Folds.{list_any-append}
use Rattle.network.specs.Words.{has_double}

-- equal numbers, tested from either side
==-flip : (a b : ℕ) → (a == b) ≡ (b == a)
==-flip a b = grind (arith, nat_tests)

regroup : (a e h b f : Bool) → e ≡ f → ((a || (e || false)) || (h || b)) ≡ ((a || h) || (f || b))
regroup true e h b f same = refl
regroup false true true b f same = refl
regroup false true false b f same = ap (λ x. x || b) same
regroup false false true b f same = refl
regroup false false false b f same = ap (λ x. x || b) same

-- one more at the end
pub has_double-push : (xs : List ℕ) (x : ℕ) → has_double (xs ++ x ∷ []) ≡ (has_double xs || list_any (λ y. y == x) xs)
has_double-push [] x = refl
has_double-push (y ∷ ys) x =
    ap (λ r. list_any (λ z. z == y) (ys ++ x ∷ []) || r) (has_double-push ys x)
    ∙ ap (λ r. r || (has_double ys || list_any (λ z. z == x) ys)) (list_any-append (λ z. z == y) ys (x ∷ []))
    ∙ regroup (list_any (λ z. z == y) ys) (x == y) (has_double ys) (list_any (λ z. z == x) ys) (y == x) (==-flip x y)

pub has_double-more : (xs : List ℕ) (i d : ℕ) → i < length xs → has_double (take (i + 1) xs) ≡ (has_double (take i xs) || list_any (λ y. y == get_or xs i d) (take i xs))
has_double-more xs i d h = ap has_double (take_more xs i d h) ∙ has_double-push (take i xs) (get_or xs i d)

or-front : (a b c : Bool) → (a || b) ≡ true → ((a || c) || b) ≡ true
or-front true b c h = refl
or-front false b true h = refl
or-front false b false h = h

or-behind : (a b c : Bool) → (a ≡ true → b ≡ true) → (c || a) ≡ true → (c || b) ≡ true
or-behind a b true h e = refl
or-behind a b false h e = h e

-- a double of the front is one of the whole
pub has_double-front : (xs ys : List ℕ) → has_double xs ≡ true → has_double (xs ++ ys) ≡ true
has_double-front [] ys h = cc
has_double-front (x ∷ xs) ys h =
    ap (λ r. r || has_double (xs ++ ys)) (list_any-append (λ y. y == x) xs ys)
    ∙ or-front (list_any (λ y. y == x) xs) (has_double (xs ++ ys)) (list_any (λ y. y == x) ys)
    (or-behind (has_double xs) (has_double (xs ++ ys)) (list_any (λ y. y == x) xs) (has_double-front xs ys) h)

pub has_double-taken : (xs : List ℕ) (i : ℕ) → has_double (take i xs) ≡ true → has_double xs ≡ true
has_double-taken xs i h = ap has_double (sym (take-append-drop i xs)) ∙ has_double-front (take i xs) (drop i xs) h

pub or-of : (b c : Bool) → cond b true c ≡ (c || b)
or-of true true = refl
or-of true false = refl
or-of false true = refl
or-of false false = refl

-- a set with one number more
pub hash_contains-put : {S : Type 0} (old new : hash.HashSet ℕ S) (n : ℕ) → hash.Updates (λ x y. x == y) old new n true
    → (m : ℕ) → hash.contains (λ x y. x == y) new m ≡ (hash.contains (λ x y. x == y) old m || (n == m))
hash_contains-put old new n put m = put.0 m ∙ or-of (n == m) (hash.contains (λ x y. x == y) old m)
