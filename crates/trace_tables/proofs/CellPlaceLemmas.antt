-- At which place the cell of a destination stands.
use Rattle.std.proofs.Common.{◌≡◌, ℕ, zero, suc, ◌+◌, ◌<◌, ◌≤◌, ◌==◌, ◌&&◌, Bool, true, false, cond, List, [], ◌∷◌, ◌++◌, length, map, take, get_or, Option, Some, None, refl, ap, sym, ◌∙◌, arith, ne_eqb, eq-eqb, subst, length-append, slice_get, option_map}
use Rattle.std.specs.BTreeMap.{is_at}
use Rattle.std.proofs.lemmas.Bool.{eqb-true}
use Rattle.std.proofs.lemmas.List.{length-map, map-append}
use Rattle.std.proofs.lemmas.Option.{none-some, same_Some}
use Rattle.vlink.specs.declared.frame.VlId.{VlId}
use Rattle.vlink.specs.Letters.{Row}
use Rattle.row_types.specs.declared.rows.VirtualLink.{VirtualLink}
use Rattle.network.specs.Words.{VlPlan, destinations_of, ids_of, place_by, place_of_vl}
use Rattle.network.proofs.PlaceLemmas.{or_else}
use Rattle.trace_tables.specs.declared.cells.Cell.{Cell}
use Rattle.trace_tables.specs.declared.destination.Destination.{Destination}
use Rattle.trace_tables.specs.Cells.{cell_of, cell_place, starts_from, AreCellsFrom}
use Rattle.trace_tables.specs.Destinations.{destination, destination_cmp, destinations_at, destinations_in}
use Rattle.trace_tables.proofs.DestinationLemmas.{destinations-more, is_eq-destinations}
use Rattle.trace_tables.proofs.ListLemmas.{AllAbove, Rises}

-- the cells of a virtual link begin behind those of all before it
pub start-is : (n : ℕ) (vls : List VlPlan) (k : ℕ) → k < length vls → get_or (starts_from n vls) k 0 ≡ n + length (destinations_in (take k vls))
start-is n [] k h = absurd (omega arith)
start-is n (vl ∷ vls) zero h = omega arith
start-is n (vl ∷ vls) (suc k) h =
    let later : get_or (starts_from (n + length (destinations_of vl)) vls) k 0 ≡ (n + length (destinations_of vl)) + length (destinations_in (take k vls)) = start-is (n + length (destinations_of vl)) vls k (omega arith) in
    let both : length (destinations_at vl ++ destinations_in (take k vls)) ≡ length (destinations_at vl) + length (destinations_in (take k vls)) = length-append (destinations_at vl) (destinations_in (take k vls)) in
    let same : length (destinations_at vl) ≡ length (destinations_of vl) = length-map (destinations_of vl) (destination vl.link.id) in
    omega arith

pub starts-more : (n : ℕ) (vls : List VlPlan) (i : ℕ) → i < length vls → starts_from n (take (suc i) vls) ≡ starts_from n (take i vls) ++ (n + length (destinations_in (take i vls))) ∷ []
starts-more n [] i h = absurd (omega arith)
starts-more n (vl ∷ vls) zero h = let same : n ≡ n + 0 = omega arith in ap (λ (m : ℕ). m ∷ []) same
starts-more n (vl ∷ vls) (suc i) h =
    let both : length (destinations_at vl ++ destinations_in (take i vls)) ≡ length (destinations_at vl) + length (destinations_in (take i vls)) = length-append (destinations_at vl) (destinations_in (take i vls)) in
    let same : length (destinations_at vl) ≡ length (destinations_of vl) = length-map (destinations_of vl) (destination vl.link.id) in
    let all : (n + length (destinations_of vl)) + length (destinations_in (take i vls)) ≡ n + length (destinations_at vl ++ destinations_in (take i vls)) = omega arith in
    ap (λ (ns : List ℕ). n ∷ ns) (starts-more (n + length (destinations_of vl)) vls i (omega arith))
    ∙ ap (λ (m : ℕ). n ∷ (starts_from (n + length (destinations_of vl)) (take i vls) ++ m ∷ [])) all

-- the first of two lists in which one passes, the second behind the first
place_by-append : {X : Type 0} (test : X → Bool) (xs ys : List X) → place_by test (xs ++ ys) ≡ or_else (place_by test xs) (option_map (λ n. length xs + n) (place_by test ys))
place_by-append test [] ys = same (place_by test ys)
  where
    same : (o : Option ℕ) → o ≡ option_map (λ n. 0 + n) o
    same None = refl
    same (Some n) = let e : n ≡ 0 + n = omega arith in ap Some e
place_by-append {X} test (x ∷ xs) ys = go (test x) (place_by-append test xs ys)
  where
    moved : (p o : Option ℕ) → option_map (λ n. n + 1) (or_else p (option_map (λ n. length xs + n) o)) ≡ or_else (option_map (λ n. n + 1) p) (option_map (λ n. length (x ∷ xs) + n) o)
    moved None None = refl
    moved None (Some n) = let same : (length xs + n) + 1 ≡ suc (length xs) + n = omega arith in ap Some same
    moved (Some m) o = refl

    go : (b : Bool) → place_by test (xs ++ ys) ≡ or_else (place_by test xs) (option_map (λ n. length xs + n) (place_by test ys))
        → cond b (Some 0) (option_map (λ n. n + 1) (place_by test (xs ++ ys))) ≡ or_else (cond b (Some 0) (option_map (λ n. n + 1) (place_by test xs))) (option_map (λ n. length (x ∷ xs) + n) (place_by test ys))
    go true later = refl
    go false later = ap (option_map (λ n. n + 1)) later ∙ moved (place_by test xs) (place_by test ys)

-- among the destinations of one virtual link
place-at : (id vl : VlId) (place : ℕ) (places : List ℕ)
    → place_by (is_at (destination_cmp (destination id place))) (map (destination vl) places) ≡ cond (id.0 == vl.0) (place_by (λ p. place == p) places) None
place-at id vl place [] = none (id.0 == vl.0)
  where
    none : (b : Bool) → ◌≡◌ {A = Option ℕ} None (cond b None None)
    none true = refl
    none false = refl
place-at id vl place (p ∷ places) =
    ap (λ (b : Bool). cond b (Some 0) (option_map (λ n. n + 1) (place_by (is_at (destination_cmp (destination id place))) (map (destination vl) places)))) (is_eq-destinations (destination id place) (destination vl p))
    ∙ ap (λ (o : Option ℕ). cond ((id.0 == vl.0) && (place == p)) (Some 0) (option_map (λ n. n + 1) o)) (place-at id vl place places)
    ∙ both (id.0 == vl.0) (place == p) (place_by (λ q. place == q) places)
  where
    both : (b h : Bool) (o : Option ℕ) → cond (b && h) (Some 0) (option_map (λ n. n + 1) (cond b o None)) ≡ cond b (cond h (Some 0) (option_map (λ n. n + 1) o)) None
    both true true o = refl
    both true false o = refl
    both false h o = refl

-- no later virtual link has the number of the first
place-above : (id : VlId) (place : ℕ) (vls : List VlPlan) → AllAbove id.0 (ids_of vls) → cell_place vls (destination id place) ≡ None
place-above id place [] above = refl
place-above id place (vl ∷ vls) above =
    let lt : id.0 < vl.link.id.0 = above.0 in
    let differ : (id.0 == vl.link.id.0) ≡ false = ne_eqb id.0 vl.link.id.0 (λ e. omega arith) in
    place_by-append (is_at (destination_cmp (destination id place))) (destinations_at vl) (destinations_in vls)
    ∙ ap (λ (o : Option ℕ). or_else o (option_map (λ n. length (destinations_at vl) + n) (cell_place vls (destination id place)))) (place-at id vl.link.id place (destinations_of vl) ∙ ap (λ (b : Bool). cond b (place_by (λ p. place == p) (destinations_of vl)) None) differ)
    ∙ ap (option_map (λ n. length (destinations_at vl) + n)) (place-above id place vls above.1)

-- a virtual link that the network lacks has no destination
pub place-nowhere : (id : VlId) (place : ℕ) (vls : List VlPlan) → None ≡ place_of_vl vls id.0 → None ≡ cell_place vls (destination id place)
place-nowhere id place [] none = refl
place-nowhere id place (vl ∷ vls) none = go (vl.link.id.0 == id.0) refl (place_of_vl vls id.0) none (place-nowhere id place vls)
  where
    go : (b : Bool) → (vl.link.id.0 == id.0) ≡ b → (o : Option ℕ) → None ≡ cond b (Some 0) (option_map (λ n. n + 1) o) → (None ≡ o → None ≡ cell_place vls (destination id place)) → None ≡ cell_place (vl ∷ vls) (destination id place)
    go true t o e later = absurd (cc)
    go false t (Some n) e later = absurd (cc)
    go false t None e later =
        let differ : (id.0 == vl.link.id.0) ≡ false = ne_eqb id.0 vl.link.id.0 (λ e. let same : (vl.link.id.0 == id.0) ≡ true = eq-eqb vl.link.id.0 id.0 (sym e) in absurd (cc)) in
        sym (place_by-append (is_at (destination_cmp (destination id place))) (destinations_at vl) (destinations_in vls)
        ∙ ap (λ (o : Option ℕ). or_else o (option_map (λ n. length (destinations_at vl) + n) (cell_place vls (destination id place)))) (place-at id vl.link.id place (destinations_of vl) ∙ ap (λ (b : Bool). cond b (place_by (λ p. place == p) (destinations_of vl)) None) differ)
        ∙ ap (option_map (λ n. length (destinations_at vl) + n)) (sym (later refl)))

-- what is first among the destinations of a virtual link is behind those of all before it
pub place-found : (id : VlId) (place : ℕ) (vls : List VlPlan) (k : ℕ) (places : List ℕ) → Rises (ids_of vls) → Some k ≡ place_of_vl vls id.0
    → option_map destinations_of (slice_get vls k) ≡ Some places
    → cell_place vls (destination id place) ≡ option_map (λ i. length (destinations_in (take k vls)) + i) (place_by (λ p. place == p) places)
place-found id place [] k places rises at is = absurd (cc)
place-found id place (vl ∷ vls) k places rises at is = go (vl.link.id.0 == id.0) refl (place_of_vl vls id.0) refl at (λ j g d. place-found id place vls j places rises.1 g d)
  where
    Later : Type 0
    Later =
        (j : ℕ) → Some j ≡ place_of_vl vls id.0 → option_map destinations_of (slice_get vls j) ≡ Some places
        → cell_place vls (destination id place) ≡ option_map (λ i. length (destinations_in (take j vls)) + i) (place_by (λ p. place == p) places)

    test : Destination → Bool
    test = is_at (destination_cmp (destination id place))

    here : (b : Bool) → (id.0 == vl.link.id.0) ≡ b → cell_place (vl ∷ vls) (destination id place)
        ≡ or_else (cond b (place_by (λ p. place == p) (destinations_of vl)) None) (option_map (λ n. length (destinations_at vl) + n) (cell_place vls (destination id place)))
    here b t =
        place_by-append test (destinations_at vl) (destinations_in vls)
        ∙ ap (λ (o : Option ℕ). or_else o (option_map (λ n. length (destinations_at vl) + n) (cell_place vls (destination id place)))) (place-at id vl.link.id place (destinations_of vl) ∙ ap (λ (b : Bool). cond b (place_by (λ p. place == p) (destinations_of vl)) None) t)

    alone : (o : Option ℕ) → or_else o None ≡ option_map (λ i. 0 + i) o
    alone None = refl
    alone (Some i) = let e : i ≡ 0 + i = omega arith in ap Some e

    moved : (m n : ℕ) (o : Option ℕ) → option_map (λ i. m + i) (option_map (λ i. n + i) o) ≡ option_map (λ i. (m + n) + i) o
    moved m n None = refl
    moved m n (Some i) = let same : m + (n + i) ≡ (m + n) + i = omega arith in ap Some same

    first : (k : ℕ) → k ≡ 0 → option_map destinations_of (slice_get (vl ∷ vls) k) ≡ Some places → (id.0 == vl.link.id.0) ≡ true
        → cell_place (vl ∷ vls) (destination id place) ≡ option_map (λ i. length (destinations_in (take k (vl ∷ vls))) + i) (place_by (λ p. place == p) places)
    first zero e f t =
        let its : destinations_of vl ≡ places = cc in
        let same : id.0 ≡ vl.link.id.0 = eqb-true id.0 vl.link.id.0 t in
        let above : AllAbove id.0 (ids_of vls) = subst (λ (n : ℕ). AllAbove n (ids_of vls)) (sym same) rises.0 in
        here true t
        ∙ ap (λ (o : Option ℕ). or_else (place_by (λ p. place == p) (destinations_of vl)) (option_map (λ n. length (destinations_at vl) + n) o)) (place-above id place vls above)
        ∙ alone (place_by (λ p. place == p) (destinations_of vl))
        ∙ ap (λ (ps : List ℕ). option_map (λ i. 0 + i) (place_by (λ p. place == p) ps)) its
    first (suc j) e f t = absurd (omega arith)

    next : (k j : ℕ) → k ≡ j + 1 → option_map destinations_of (slice_get (vl ∷ vls) k) ≡ Some places → (id.0 == vl.link.id.0) ≡ false → Some j ≡ place_of_vl vls id.0 → Later
        → cell_place (vl ∷ vls) (destination id place) ≡ option_map (λ i. length (destinations_in (take k (vl ∷ vls))) + i) (place_by (λ p. place == p) places)
    next zero j e f t g more = absurd (omega arith)
    next (suc k) j e f t g more =
        let same : j ≡ k = omega arith in
        here false t
        ∙ ap (option_map (λ n. length (destinations_at vl) + n)) (more k (ap Some (sym same) ∙ g) f)
        ∙ moved (length (destinations_at vl)) (length (destinations_in (take k vls))) (place_by (λ p. place == p) places)
        ∙ ap (λ (n : ℕ). option_map (λ i. n + i) (place_by (λ p. place == p) places)) (sym (length-append (destinations_at vl) (destinations_in (take k vls))))

    go : (b : Bool) → (vl.link.id.0 == id.0) ≡ b → (o : Option ℕ) → place_of_vl vls id.0 ≡ o → Some k ≡ cond b (Some 0) (option_map (λ n. n + 1) o) → Later
        → cell_place (vl ∷ vls) (destination id place) ≡ option_map (λ i. length (destinations_in (take k (vl ∷ vls))) + i) (place_by (λ p. place == p) places)
    go true t o g e more =
        let zeroth : k ≡ 0 = same_Some k 0 e in
        let same : vl.link.id.0 ≡ id.0 = eqb-true vl.link.id.0 id.0 t in
        first k zeroth is (eq-eqb id.0 vl.link.id.0 (sym same))
    go false t None g e more = absurd (none-some k (sym e))
    go false t (Some j) g e more =
        let later : k ≡ j + 1 = same_Some k (j + 1) e in
        next k j later is (ne_eqb id.0 vl.link.id.0 (λ e. let same : (vl.link.id.0 == id.0) ≡ true = eq-eqb vl.link.id.0 id.0 (sym e) in absurd (cc))) (sym g) more

slice_get-front : {X : Type 0} (xs ys : List X) (i : ℕ) (x : X) → slice_get xs i ≡ Some x → slice_get (xs ++ ys) i ≡ Some x
slice_get-front [] ys i x is = absurd (cc)
slice_get-front (y ∷ xs) ys zero x is = is
slice_get-front (y ∷ xs) ys (suc i) x is = slice_get-front xs ys i x is

slice_get-behind : {X : Type 0} (xs ys : List X) (i : ℕ) → slice_get (xs ++ ys) (length xs + i) ≡ slice_get ys i
slice_get-behind [] ys i = let e : 0 + i ≡ i = omega arith in ap (slice_get ys) e
slice_get-behind (x ∷ xs) ys i = let e : length (x ∷ xs) + i ≡ suc (length xs + i) = omega arith in ap (slice_get (x ∷ xs ++ ys)) e ∙ slice_get-behind xs ys i

-- each destination has its cell there
pub there-is : (vls : List VlPlan) (k : ℕ) (link : VirtualLink) (places : List ℕ) → option_map (λ vl. vl.link) (slice_get vls k) ≡ Some link
    → option_map destinations_of (slice_get vls k) ≡ Some places → (i : ℕ) (at : Destination) → slice_get (map (destination link.id) places) i ≡ Some at
    → slice_get (destinations_in vls) (length (destinations_in (take k vls)) + i) ≡ Some at
there-is [] k link places e d i at is = absurd (cc)
there-is (vl ∷ vls) zero link places e d i at is =
    let its_link : vl.link ≡ link = cc in
    let its_places : destinations_of vl ≡ places = cc in
    let none : 0 + i ≡ i = omega arith in
    ap (slice_get (destinations_at vl ++ destinations_in vls)) none
    ∙ slice_get-front (destinations_at vl) (destinations_in vls) i at (ap (λ (l : VirtualLink). slice_get (map (destination l.id) (destinations_of vl)) i) its_link ∙ ap (λ (ps : List ℕ). slice_get (map (destination link.id) ps) i) its_places ∙ is)
there-is (vl ∷ vls) (suc k) link places e d i at is =
    let both : length (destinations_at vl ++ destinations_in (take k vls)) ≡ length (destinations_at vl) + length (destinations_in (take k vls)) = length-append (destinations_at vl) (destinations_in (take k vls)) in
    let same : length (destinations_at vl ++ destinations_in (take k vls)) + i ≡ length (destinations_at vl) + (length (destinations_in (take k vls)) + i) = omega arith in
    ap (slice_get (destinations_at vl ++ destinations_in vls)) same
    ∙ slice_get-behind (destinations_at vl) (destinations_in vls) (length (destinations_in (take k vls)) + i)
    ∙ there-is vls k link places e d i at is

-- as many cells as destinations of a virtual link stand from there
pub there-within : (vls : List VlPlan) (k : ℕ) (places : List ℕ) → option_map destinations_of (slice_get vls k) ≡ Some places
    → length (destinations_in (take k vls)) + length places ≤ length (destinations_in vls)
there-within [] k places d = absurd (cc)
there-within (vl ∷ vls) zero places d =
    let its : destinations_of vl ≡ places = cc in
    let many : length (destinations_of vl) ≡ length places = ap length its in
    let both : length (destinations_at vl ++ destinations_in vls) ≡ length (destinations_at vl) + length (destinations_in vls) = length-append (destinations_at vl) (destinations_in vls) in
    let same : length (destinations_at vl) ≡ length (destinations_of vl) = length-map (destinations_of vl) (destination vl.link.id) in
    omega arith
there-within (vl ∷ vls) (suc k) places d =
    let later : length (destinations_in (take k vls)) + length places ≤ length (destinations_in vls) = there-within vls k places d in
    let both : length (destinations_at vl ++ destinations_in vls) ≡ length (destinations_at vl) + length (destinations_in vls) = length-append (destinations_at vl) (destinations_in vls) in
    let before : length (destinations_at vl ++ destinations_in (take k vls)) ≡ length (destinations_at vl) + length (destinations_in (take k vls)) = length-append (destinations_at vl) (destinations_in (take k vls)) in
    omega arith

pub slice_get-map : {X Y : Type 0} (f : X → Y) (xs : List X) (i : ℕ) (x : X) → slice_get xs i ≡ Some x → slice_get (map f xs) i ≡ Some (f x)
slice_get-map f [] i x is = absurd (cc)
slice_get-map f (y ∷ xs) zero x is = ap (option_map f) is
slice_get-map f (y ∷ xs) (suc i) x is = slice_get-map f xs i x is

-- the cells of a virtual link
pub cells-there : (vls : List VlPlan) (rows : List Row) (k : ℕ) (link : VirtualLink) (places : List ℕ) (start : ℕ) (cells : List Cell)
    → option_map (λ vl. vl.link) (slice_get vls k) ≡ Some link → option_map destinations_of (slice_get vls k) ≡ Some places
    → start ≡ get_or (starts_from 0 vls) k 0 → k < length vls → cells ≡ map (cell_of rows) (destinations_in vls)
    → AreCellsFrom rows start (map (destination link.id) places) cells
cells-there vls rows k link places start cells e d begins h are = λ i at is.
    let begin : start ≡ length (destinations_in (take k vls)) = let there : get_or (starts_from 0 vls) k 0 ≡ 0 + length (destinations_in (take k vls)) = start-is 0 vls k h in omega (arith, begins, there) in
    ap (λ (cs : List Cell). slice_get cs (start + i)) are
    ∙ ap (λ (n : ℕ). slice_get (map (cell_of rows) (destinations_in vls)) (n + i)) begin
    ∙ slice_get-map (cell_of rows) (destinations_in vls) (length (destinations_in (take k vls)) + i) at (there-is vls k link places e d i at is)

-- a virtual link that has destinations is one
link-there : (o : Option VlPlan) (places : List ℕ) → option_map destinations_of o ≡ Some places → (link : VirtualLink) × (option_map (λ vl. vl.link) o ≡ Some link)
link-there None places d = absurd (cc)
link-there (Some vl) places d = (vl.link, refl)

-- the cells of one virtual link more
pub cells-more : (vls : List VlPlan) (rows : List Row) (i : ℕ) (places : List ℕ) (old new : List Cell) → option_map destinations_of (slice_get vls i) ≡ Some places
    → ((vl : VlId) → new ≡ old ++ map (cell_of rows) (map (destination vl) places)) → old ≡ map (cell_of rows) (destinations_in (take i vls))
    → new ≡ map (cell_of rows) (destinations_in (take (suc i) vls))
cells-more vls rows i places old new d more is =
    let there = link-there (slice_get vls i) places d in
    let its = map (destination there.0.id) places in
    more there.0.id
    ∙ ap (λ (cs : List Cell). cs ++ map (cell_of rows) its) is
    ∙ sym (map-append (cell_of rows) (destinations_in (take i vls)) its)
    ∙ ap (map (cell_of rows)) (sym (destinations-more vls i there.0 places there.1 d))
