-- The items of an array, read one by one.
use Rattle.std.proofs.Common.{◌≡◌, ℕ, suc, ◌<◌, get_or, inl, inr, Bool, true, false, ◌&&◌, cond, List, [], ◌∷◌, length, map, All, Option, Some, None, option_map, option_and_then, is_some, refl, ap, sym, subst, ◌∙◌}
use Rattle.std.proofs.lemmas.Bool.{cases_Bool, false≢true}
use Rattle.std.proofs.lemmas.List.Folds.{list_all_at}
use Rattle.std.proofs.lemmas.List.{length-map, get_or-map}
use Rattle.std.proofs.lemmas.List.Elements.{All-from_recursion}
use Rattle.std.specs.List.{list_all, AllByRecursion, AllZip}
use Rattle.toml.specs.Data.{Data, array}
use Rattle.toml.specs.View.{view, items_view}
use Rattle.toml.specs.declared.value.Value.{Value}
use Rattle.network_rows.specs.Values.{passes, all_as, as_list, list_of}

and_false : (b : Bool) → false ≡ (b && false)
and_false true = refl
and_false false = refl

module _ {X : Type 0} where
  -- the first item, and those behind it
  both : Option X → Option (List X) → Option (List X)
  both o rest = option_and_then (λ x. option_map (λ xs. x ∷ xs) rest) o

  length-both : (o : Option X) (rest : Option (List X)) (b : Bool) (n : ℕ) → option_map length rest ≡ cond b (Some n) None
      → option_map length (both o rest) ≡ cond (is_some o && b) (Some (suc n)) None
  unfolding both
  length-both None rest b n e = refl
  length-both (Some x) None true n e = cc
  length-both (Some x) None false n e = refl
  length-both (Some x) (Some xs) true n e = cc
  length-both (Some x) (Some xs) false n e = cc

  is_some-both : (o : Option X) (rest : Option (List X)) → is_some (both o rest) ≡ (is_some o && is_some rest)
  unfolding both
  is_some-both None rest = refl
  is_some-both (Some x) None = refl
  is_some-both (Some x) (Some xs) = refl

  passes-both : (test : X → Bool) (o : Option X) (rest : Option (List X)) → passes (list_all test) (both o rest) ≡ (passes test o && passes (list_all test) rest)
  unfolding both
  passes-both test None rest = refl
  passes-both test (Some x) None = and_false (test x)
  passes-both test (Some x) (Some xs) = refl

  module _ (read : Data → Option X) where
    -- how many there are, if each is such a thing
    pub length-all_as : (vs : List Value) → option_map length (all_as read (items_view vs)) ≡ cond (list_all (λ v. is_some (read (view v))) vs) (Some (length vs)) None
    unfolding both
    length-all_as [] = refl
    length-all_as (v ∷ vs) = length-both (read (view v)) _ _ (length vs) (length-all_as vs)

    -- whether each is such a thing
    pub is_some-all_as : (vs : List Value) → is_some (all_as read (items_view vs)) ≡ list_all (λ v. is_some (read (view v))) vs
    unfolding both
    is_some-all_as [] = refl
    is_some-all_as (v ∷ vs) = is_some-both (read (view v)) (all_as read (items_view vs)) ∙ ap (λ b. is_some (read (view v)) && b) (is_some-all_as vs)

    -- whether each is such a thing and passes the test
    pub passes-all_as : (test : X → Bool) (vs : List Value) → passes (list_all test) (all_as read (items_view vs)) ≡ list_all (λ v. passes test (read (view v))) vs
    unfolding both
    passes-all_as test [] = refl
    passes-all_as test (v ∷ vs) = passes-both test (read (view v)) (all_as read (items_view vs)) ∙ ap (λ b. passes test (read (view v)) && b) (passes-all_as test vs)

-- a test that each passes is passed at each place
passes_at : {X : Type 0} (test : X → Bool) (xs : List X) (i : ℕ) (d : X) → i < length xs → list_all test xs ≡ true → test (get_or xs i d) ≡ true
passes_at test xs i d lt all = elim (cases_Bool (test (get_or xs i d))) [
  | inl passed ↦ passed
  | inr failed ↦ absurd (false≢true (sym (list_all_at test xs i d lt failed) ∙ all))
]

module _ {X : Type 0} (read : Data → Option X) where
  -- each of the values is such a thing, if all are
  pub All-some : (vs : List Value) → is_some (as_list read (array (items_view vs))) ≡ true → All (λ v. is_some (read (view v)) ≡ true) vs
  All-some vs some = λ k v lt. passes_at (λ v. is_some (read (view v))) vs k v lt (sym (is_some-all_as read vs) ∙ some)

  -- what they all are, where it is known what each of them is
  pub all_as-zip : (vs : List Value) (xs : List X) → AllZip (λ v x. read (view v) ≡ Some x) vs xs → all_as read (items_view vs) ≡ Some xs
  unfolding both
  all_as-zip [] [] each = refl
  all_as-zip [] (x ∷ xs) each = absurd each
  all_as-zip (v ∷ vs) [] each = absurd each
  all_as-zip (v ∷ vs) (x ∷ xs) each = rw (each.0, all_as-zip vs xs each.1) refl

-- the items as a list again
pub list_of-items_view : (vs : List Value) → list_of (items_view vs) ≡ map view vs
list_of-items_view [] = refl
list_of-items_view (v ∷ vs) = ap (λ ds. view v ∷ ds) (list_of-items_view vs)

-- what holds of the values, seen as data, holds of the items
pub AllZip-list_of : {R : Type 0} (Q : Data → R → Type 0) (vs : List Value) (rows : List R) → AllZip (λ v row. Q (view v) row) vs rows → AllZip Q (list_of (items_view vs)) rows
AllZip-list_of Q [] [] each = tt
AllZip-list_of Q [] (row ∷ rows) each = absurd each
AllZip-list_of Q (v ∷ vs) [] each = absurd each
AllZip-list_of Q (v ∷ vs) (row ∷ rows) each = (each.0, AllZip-list_of Q vs rows each.1)

pub All-list_of : (P : Data → Type 0) (vs : List Value) → AllByRecursion P (list_of (items_view vs)) → All (λ v. P (view v)) vs
All-list_of P vs each = λ k d lt. subst P (get_or-map view vs k d (view d) lt) (All-from_recursion P (map view vs) (rw (list_of-items_view vs) at each) k (view d) (rw (length-map vs view) lt))
