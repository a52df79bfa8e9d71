-- A map from two nodes to the link that joins them, one link after another.
use Rattle.std.proofs.Common.{◌≡◌, ℕ, Bool, true, false, cond, ◌==◌, ◌&&◌, ◌||◌, List, [], ◌∷◌, ◌++◌, length, Option, Some, None, is_some, refl, ap, sym, ◌∙◌, arith, HashMap}
use Rattle.std.specs.HashMap.{get, UpdatesBy}
use Rattle.std.proofs.lemmas.Bool.{false≢true}
use Rattle.std.proofs.lemmas.Bool.Decides.{nat_tests}
use Rattle.network.specs.declared.wiring.Link.{Link}
use Rattle.network.specs.Words.{goes, joins, link_between}
use Rattle.network_faults.specs.Lookups.{is_same_pair, AreJoined}
use Rattle.network.proofs.PlaceLemmas.{or_else, or_else-none, place_by-push, place_by-same, none_of}

pub &&-flip : (a b : Bool) → (a && b) ≡ (b && a)
&&-flip true true = refl
&&-flip true false = refl
&&-flip false true = refl
&&-flip false false = refl

pub goes-true : (x y : ℕ) (l : Link) → goes x y l ≡ true → (l.a ≡ x) × (l.b ≡ y)
goes-true x y l h = (grind (arith, nat_tests), grind (arith, nat_tests))

pub ||-flip : (a b : Bool) → (a || b) ≡ (b || a)
||-flip true true = refl
||-flip true false = refl
||-flip false true = refl
||-flip false false = refl

-- the link of two nodes is found from either end
pub link_between-flip : (links : List Link) (x y : ℕ) → link_between links x y ≡ link_between links y x
link_between-flip links x y = place_by-same (joins x y) (joins y x) links (λ l. ||-flip (goes x y l) (goes y x l))

-- a link more, which joins nodes that none joins so far
pub AreJoined-put : {S : Type 0} (old mid new : HashMap (ℕ × ℕ) ℕ S) (links : List Link) (l : Link) (i : ℕ) → AreJoined old links
    → is_some (get is_same_pair old (l.a, l.b)) ≡ false
    → UpdatesBy is_same_pair (is_same_pair (l.b, l.a)) old mid (Some i) → UpdatesBy is_same_pair (is_same_pair (l.a, l.b)) mid new (Some i)
    → i ≡ length links → AreJoined new (links ++ l ∷ [])
AreJoined-put old mid new links l i are absent back there at_end = λ x y.
    there.0 (x, y)
    ∙ ap (λ o. cond (goes x y l) (Some i) o) (back.0 (x, y) ∙ ap (λ b. cond b (Some i) (get is_same_pair old (x, y))) (&&-flip (l.b == x) (l.a == y)) ∙ ap (λ o. cond (goes y x l) (Some i) o) (are x y))
    ∙ found x y (goes x y l) (goes y x l) refl refl
    ∙ sym (place_by-push (joins x y) links l)
  where
    fresh : link_between links l.a l.b ≡ None
    fresh = sym (are l.a l.b) ∙ none_of (get is_same_pair old (l.a, l.b)) absent

    found : (x y : ℕ) (one two : Bool) → goes x y l ≡ one → goes y x l ≡ two
        → cond one (Some i) (cond two (Some i) (link_between links x y)) ≡ or_else (link_between links x y) (cond (one || two) (Some (length links)) None)
    found x y true two e f =
        let same = goes-true x y l e in
        let none : link_between links x y ≡ None = ap (λ n. link_between links n y) (sym same.0) ∙ ap (λ n. link_between links l.a n) (sym same.1) ∙ fresh in
        rw none (ap Some at_end)
    found x y false true e f =
        let same = goes-true y x l f in
        let none : link_between links x y ≡ None = link_between-flip links x y ∙ ap (λ n. link_between links n x) (sym same.0) ∙ ap (λ n. link_between links l.a n) (sym same.1) ∙ fresh in
        rw none (ap Some at_end)
    found x y false false e f = sym (or_else-none (link_between links x y))

-- a link between nodes that one joins already leaves the map as it is
pub AreJoined-kept : {S : Type 0} (places : HashMap (ℕ × ℕ) ℕ S) (links : List Link) (l : Link) → AreJoined places links → is_some (get is_same_pair places (l.a, l.b)) ≡ true → AreJoined places (links ++ l ∷ [])
AreJoined-kept places links l are there = λ x y. are x y ∙ kept x y (goes x y l) (goes y x l) refl refl (link_between links x y) refl ∙ sym (place_by-push (joins x y) links l)
  where
    gone : (o : Option ℕ) → o ≡ None → is_some o ≡ true → ⊥
    gone o e h = absurd (false≢true (ap is_some (sym e) ∙ h))

    kept : (x y : ℕ) (one two : Bool) → goes x y l ≡ one → goes y x l ≡ two → (o : Option ℕ) → link_between links x y ≡ o → o ≡ or_else o (cond (one || two) (Some (length links)) None)
    kept x y one two e f (Some n) found = refl
    kept x y true two e f None found =
        let same = goes-true x y l e in
        absurd (gone (get is_same_pair places (l.a, l.b)) (are l.a l.b ∙ ap (λ n. link_between links n l.b) same.0 ∙ ap (λ n. link_between links x n) same.1 ∙ found) there)
    kept x y false true e f None found =
        let same = goes-true y x l f in
        absurd (gone (get is_same_pair places (l.a, l.b)) (are l.a l.b ∙ ap (λ n. link_between links n l.b) same.0 ∙ ap (λ n. link_between links y n) same.1 ∙ link_between-flip links y x ∙ found) there)
    kept x y false false e f None found = refl

-- a link joins its own nodes
pub joins-own : (l : Link) → joins l.a l.b l ≡ true
joins-own l = let a : (l.a == l.a) ≡ true = grind (arith, nat_tests) in let b : (l.b == l.b) ≡ true = grind (arith, nat_tests) in rw (a, b) refl

-- what is read where there is no link
abbrev pub no_link : Link
no_link = record { a = 0; b = 0; byte_ns = 0; propagation_ns = 0 }
