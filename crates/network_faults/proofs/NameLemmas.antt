-- A map from names to numbers, one name after another.
use Rattle.std.proofs.Common.{◌≡◌, ℕ, zero, suc, ◌+◌, ◌<◌, Bool, true, false, cond, List, [], ◌∷◌, ◌++◌, length, take, get_or, map, Option, Some, None, is_some, IfSome, unwrap_or, refl, ap, sym, ◌∙◌, arith, inl, inr, bytes_eq, HashMap, Decides, length-take-le}
use Rattle.std.specs.HashMap.{get_by, UpdatesBy}
use denote.Ref.{Bor}
use Rattle.std.proofs.lemmas.Bool.{cases_Bool, false≢true}
use Rattle.std.specs.Bool.{one_answer}
use Rattle.std.proofs.lemmas.Slice.Eq.{bytes_eq-Decides}
use Rattle.std.proofs.lemmas.List.{take_more, map-append, length-map}
use Rattle.std.proofs.lemmas.Map.Text.{hash_map_updates_str}
use Rattle.row_types.specs.declared.rows.NodeRow.{NodeRow}
use Rattle.network.specs.Words.{node_plan, names_of, place_among, number_of}
use Rattle.network_faults.specs.Lookups.{AreNumbers}
use Rattle.network.proofs.PlaceLemmas.{or_else, or_else-none, place_by-push}

-- equal texts, tested from either side
pub bytes_eq-flip : (x y : List ℕ) → bytes_eq x y ≡ bytes_eq y x
bytes_eq-flip x y = one_answer (bytes_eq x y) (bytes_eq y x) (bytes_eq-Decides x y) (flipped (bytes_eq-Decides y x))
  where
    flipped : {b : Bool} → Decides b (y ≡ x) → Decides b (x ≡ y)
    flipped d = (λ t. sym (d.0 t), λ e. d.1 (sym e))

-- a name that is there already leaves the map as it is
pub AreNumbers-kept : {S : Type 0} (numbers : HashMap (Bor (List ℕ)) ℕ S) (names : List (List ℕ)) (x : List ℕ) → AreNumbers numbers names
    → is_some (get_by (λ k. bytes_eq x k.now) numbers) ≡ true → AreNumbers numbers (names ++ x ∷ [])
AreNumbers-kept numbers names x are there = λ q. are q ∙ kept q (place_among names q) refl ∙ sym (place_by-push (bytes_eq q) names x)
  where
    kept : (q : List ℕ) (p : Option ℕ) → place_among names q ≡ p → p ≡ or_else p (cond (bytes_eq q x) (Some (length names)) None)
    kept q None e = elim (cases_Bool (bytes_eq q x)) [
      | inl t ↦ (let same : q ≡ x = (bytes_eq-Decides q x).0 t in
          let none : place_among names x ≡ None = ap (place_among names) (sym same) ∙ e in
          absurd (false≢true (ap is_some (sym none) ∙ ap is_some (sym (are x)) ∙ there)))
      | inr f ↦ rw f refl
    ]
    kept q (Some n) e = refl

-- a new name is put in at its place
pub AreNumbers-put : {S : Type 0} (old new : HashMap (Bor (List ℕ)) ℕ S) (names : List (List ℕ)) (x : List ℕ) (n : ℕ) → AreNumbers old names
    → is_some (get_by (λ k. bytes_eq x k.now) old) ≡ false
    → UpdatesBy (λ x y. bytes_eq x.now y.now) (λ k. bytes_eq x k.now) old new (Some n) → n ≡ length names → AreNumbers new (names ++ x ∷ [])
AreNumbers-put old new names x n are absent put at_end = λ q.
    hash_map_updates_str x old new (Some n) put q ∙ found q ∙ sym (place_by-push (bytes_eq q) names x)
  where
    absent_of : (p : Option ℕ) → is_some p ≡ false → p ≡ None
    absent_of None e = refl
    absent_of (Some m) e = absurd (false≢true (sym e))

    found : (q : List ℕ) → cond (bytes_eq x q) (Some n) (get_by (λ k. bytes_eq q k.now) old) ≡ or_else (place_among names q) (cond (bytes_eq q x) (Some (length names)) None)
    found q = elim (cases_Bool (bytes_eq x q)) [
      | inl t ↦ (let same : x ≡ q = (bytes_eq-Decides x q).0 t in
          let none : place_among names q ≡ None = ap (place_among names) (sym same) ∙ absent_of (place_among names x) (ap is_some (sym (are x)) ∙ absent) in
          let other : bytes_eq q x ≡ true = sym (bytes_eq-flip x q) ∙ t in
          rw (t, none, other) (ap Some at_end))
      | inr f ↦ (let other : bytes_eq q x ≡ false = sym (bytes_eq-flip x q) ∙ f in
          rw (f, other) (are q ∙ sym (or_else-none _)))
    ]

-- the names of one node more
pub names_of-more : (nodes : List NodeRow) (i : ℕ) (d : NodeRow) → i < length nodes → names_of (take (i + 1) nodes) ≡ names_of (take i nodes) ++ (get_or nodes i d).name ∷ []
names_of-more nodes i d h = ap names_of (take_more nodes i d h) ∙ map-append (λ node. node.name) (take i nodes) _

pub length-names_of : (nodes : List NodeRow) (i : ℕ) → i < length nodes → length (names_of (take i nodes)) ≡ i
length-names_of nodes i h = length-map (take i nodes) (λ node. node.name) ∙ length-take-le i nodes (omega arith)

pub number_of-place : (names : List (List ℕ)) (q : List ℕ) (o : Option ℕ) → o ≡ place_among names q → IfSome o (λ n. n ≡ number_of names q)
number_of-place names q None h = tt
number_of-place names q (Some n) h = ap (λ p. unwrap_or p (length names)) h

-- the names of the rows before one
pub names_of-before : (nodes : List NodeRow) (i : ℕ) → map (λ other. other.name) (take i (map node_plan nodes)) ≡ take i (names_of nodes)
names_of-before nodes zero = refl
names_of-before [] (suc i) = refl
names_of-before (node ∷ nodes) (suc i) = ap (λ r. node.name ∷ r) (names_of-before nodes i)
