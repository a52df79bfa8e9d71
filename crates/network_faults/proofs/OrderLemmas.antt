-- How many numbers there are, once each is there once.
use Rattle.std.proofs.Common.{ℕ, ◌+◌, ◌≤◌, List, [], ◌∷◌, ◌++◌, length, arith, Option, None, Some, nat_cmp, Ordering, Less, Equal, Greater, length-append, option_to_list}
use Rattle.std.specs.Ordering.{match_ordering}
use Rattle.std.specs.BTreeSet.{insert_key}
use Rattle.network.specs.Words.{VlPlan, last_of, end_of, ends_of, rising_from, destinations_of}

-- a number more is at most one number more
one-of : (o : Ordering) (n x : ℕ) (xs more : List ℕ) → length more ≤ length xs + 1 → length (match_ordering o (n ∷ x ∷ xs) (x ∷ xs) (x ∷ more)) ≤ length (x ∷ xs) + 1
one-of Less n x xs more h = omega arith
one-of Equal n x xs more h = omega arith
one-of Greater n x xs more h = omega arith

length-insert_key : (xs : List ℕ) (n : ℕ) → length (insert_key nat_cmp xs n) ≤ length xs + 1
length-insert_key [] n = omega arith
length-insert_key (x ∷ xs) n = one-of (nat_cmp n x) n x xs (insert_key nat_cmp xs n) (length-insert_key xs n)

length-rising_from : (found xs : List ℕ) → length (rising_from found xs) ≤ length found + length xs
length-rising_from found [] = omega arith
length-rising_from found (x ∷ xs) = let more = length-insert_key found x in let rest = length-rising_from (insert_key nat_cmp found x) xs in omega arith

length-end_of : (path : List ℕ) → length (end_of path) ≤ 1
length-end_of path = go (last_of path)
  where
    go : (end : Option ℕ) → length (option_to_list end) ≤ 1
    go None = omega arith
    go (Some n) = omega arith

length-ends_of : (paths : List (List ℕ)) → length (ends_of paths) ≤ length paths
length-ends_of [] = omega arith
length-ends_of (path ∷ paths) =
    let first = length-end_of path in let rest = length-ends_of paths in let whole = length-append (end_of path) (ends_of paths) in omega arith

-- no more destinations than paths
pub few-destinations : (vl : VlPlan) → length (destinations_of vl) ≤ length vl.a + length vl.b
few-destinations vl =
    let a = length-ends_of vl.a in let b = length-ends_of vl.b in let both = length-append (ends_of vl.a) (ends_of vl.b) in
    let all = length-rising_from [] (ends_of vl.a ++ ends_of vl.b) in omega arith
