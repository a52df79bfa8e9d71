-- What rows without a fault give for the tables of their network.
use Rattle.std.proofs.Common.{◌≡◌, ℕ, suc, ◌+◌, ◌*◌, ◌<◌, ◌≤◌, Bool, true, false, not, cond, nat_lt, take, List, [], ◌∷◌, ◌++◌, length, map, get_or, Option, Some, None, All, unwrap_or, refl, ap, sym, ◌∙◌, subst, arith, option_map, bytes_eq, slice_get, take_all}
use Rattle.network_rows.specs.declared.fault.DescFault.TheVariants.{TooMany}
use Rattle.std.proofs.lemmas.Bool.{false≢true}
use Rattle.std.proofs.lemmas.Bool.Decides.{nat_tests}
use Rattle.std.proofs.lemmas.List.{length-map, get_or-map}
use Rattle.std.proofs.lemmas.List.Elements.{All-from_recursion, recursion_from_All}
use Rattle.std.proofs.lemmas.Option.{slice_get-map, slice_get_read, slice_get_within, get_or_from_slice_get}
use Rattle.network.proofs.PlaceLemmas.{place_by-early}
use Rattle.std.specs.List.{AllByRecursion, list_any}
use Rattle.std.specs.List.Sorted.{IsNonDecreasing, IsNonDecreasingBy}
use Rattle.network_rows.specs.declared.fault.DescFault.{DescFault}
use Rattle.network_rows.specs.declared.rows.LinkRow.{LinkRow}
use Rattle.network_rows.specs.declared.rows.Rows.{Rows}
use Rattle.network.specs.Words.{greatest_processes, greatest_streams, each, each_after, when, top, place_by, names_of, is_among, number_of, Plan, NodePlan, node_plan, link_plan, plan_of, directions, lines_of, faults_of, unknown_names, double_names, not_links, not_trees, too_many, unknown_at_link, process_count, IsAccepted}
use Rattle.network.specs.declared.wiring.Link.{Link}
use Rattle.network.specs.declared.wiring.LinePlan.{LinePlan}

-- a link ends at nodes up to this number; so does a line
abbrev pub EndsWithin : ℕ → Link → Type 0
EndsWithin n link = (link.a ≤ n) × (link.b ≤ n)

abbrev pub LeadsWithin : ℕ → LinePlan → Type 0
LeadsWithin n line = (line.from ≤ n) × (line.to ≤ n)

lines-within : (nodes : List NodePlan) (n : ℕ) (earlier links : List Link) → AllByRecursion (EndsWithin n) links → AllByRecursion (LeadsWithin n) (each_after (directions nodes) earlier links)
lines-within nodes n earlier [] h = h
lines-within nodes n earlier (link ∷ links) h = (h.0, ((h.0.1, h.0.0), lines-within nodes n (earlier ++ link ∷ []) links h.1))

pub All-lines : (nodes : List NodePlan) (n : ℕ) (links : List Link) → All (EndsWithin n) links → All (LeadsWithin n) (each (directions nodes) links)
All-lines nodes n links h = All-from_recursion (LeadsWithin n) (each (directions nodes) links) (lines-within nodes n [] links (recursion_from_All (EndsWithin n) links h))

-- a name stands for no number above the count of names
pub number_of-within : (names : List (List ℕ)) (name : List ℕ) → number_of names name ≤ length names
number_of-within names name = go (bytes_eq name) names
  where
    below : (o : Option ℕ) (n : ℕ) → unwrap_or o n ≤ n → unwrap_or (option_map (λ k. k + 1) o) (suc n) ≤ suc n
    below None n h = omega arith
    below (Some k) n h = omega arith

    step : (b : Bool) (o : Option ℕ) (n : ℕ) → unwrap_or o n ≤ n → unwrap_or (cond b (Some 0) (option_map (λ k. k + 1) o)) (suc n) ≤ suc n
    step true o n h = omega arith
    step false o n h = below o n h

    go : (test : List ℕ → Bool) (xs : List (List ℕ)) → unwrap_or (place_by test xs) (length xs) ≤ length xs
    go test [] = omega arith
    go test (x ∷ xs) = step (test x) (place_by test xs) (length xs) (go test xs)

-- the links of rows end at nodes up to their number
pub links-within : (names : List (List ℕ)) (rows : List LinkRow) → All (EndsWithin (length names)) (map (link_plan names) rows)
links-within names rows = All-from_recursion (EndsWithin (length names)) (map (link_plan names) rows) (go rows)
  where
    go : (rows : List LinkRow) → AllByRecursion (EndsWithin (length names)) (map (link_plan names) rows)
    go [] = tt
    go (row ∷ rows) = ((number_of-within names row.a, number_of-within names row.b), go rows)

-- the parts of an empty list
pub front-none : {X : Type 0} (xs ys : List X) → xs ++ ys ≡ [] → xs ≡ []
front-none [] ys h = refl
front-none (x ∷ xs) ys h = cc

pub behind-none : {X : Type 0} (xs ys : List X) → xs ++ ys ≡ [] → ys ≡ []
behind-none [] ys h = h
behind-none (x ∷ xs) ys h = cc

pub when-none : (test : Bool) (fault : DescFault) → when test fault ≡ [] → test ≡ false
when-none true fault h = cc
when-none false fault h = refl

-- rows without a fault have few processes
pub few-processes : (rows : Rows) → faults_of rows ≡ [] → process_count (plan_of rows) ≤ greatest_processes
few-processes rows none =
    let plan = plan_of rows in
    let many : too_many plan ≡ [] = behind-none (unknown_names rows ++ double_names plan ++ not_links plan ++ not_trees plan) (too_many plan) none in
    let first : when (nat_lt greatest_processes (process_count plan)) (TooMany top) ≡ [] = front-none _ _ (front-none _ _ (front-none _ _ (front-none _ _ many))) in
    let test : nat_lt greatest_processes (process_count plan) ≡ false = when-none _ _ first in
    grind (arith, nat_tests)

-- and few rows of streams
pub few-streams : (plan : Plan) → IsAccepted plan → length plan.streams ≤ greatest_streams
few-streams plan accepted =
    let rows = accepted.rows in
    let made = plan_of rows in
    let many : too_many made ≡ [] = behind-none (unknown_names rows ++ double_names made ++ not_links made ++ not_trees made) (too_many made) accepted.stands.none in
    let test : nat_lt greatest_streams (length made.streams) ≡ false = when-none _ _ (behind-none _ _ many) in
    let same = ap length accepted.stands.streams in
    grind (arith, nat_tests)

pub few-accepted : (plan : Plan) → IsAccepted plan → process_count plan ≤ greatest_processes
few-accepted plan accepted =
    omega (arith, few-processes accepted.rows accepted.stands.none, ap length accepted.stands.nodes, ap length accepted.stands.links)

-- a list sorted by a number has rising numbers
pub rising-map : {X : Type 0} (n : X → ℕ) (xs : List X) → IsNonDecreasingBy n xs → IsNonDecreasing (map n xs)
rising-map n [] h = λ i j d ij lt. absurd (omega arith)
rising-map n (x ∷ xs) h = λ i j d ij lt.
    let short : j < length (x ∷ xs) = omega (arith, length-map (x ∷ xs) n) in
    let first = get_or-map n (x ∷ xs) i x d (omega arith) in
    let second = get_or-map n (x ∷ xs) j x d short in
    omega (arith, first, second, h i j x ij short)

pub map-both : {X Y Z : Type 0} (f : Y → Z) (g : X → Y) (xs : List X) → map f (map g xs) ≡ map (λ x. f (g x)) xs
map-both f g [] = refl
map-both f g (x ∷ xs) = ap (λ r. f (g x) ∷ r) (map-both f g xs)

-- two lines for each link
pub length-lines : (nodes : List NodePlan) (earlier links : List Link) → length (each_after (directions nodes) earlier links) ≡ 2 * length links
length-lines nodes earlier [] = refl
length-lines nodes earlier (link ∷ links) = let later = length-lines nodes (earlier ++ link ∷ []) links in omega (arith, later)

-- what is read at a place of one list is what is made of the item at that place of another
pub read-made : {X Y Z : Type 0} (f : X → Z) (v : Y → Z) (xs : List X) (ys : List Y) (n k : ℕ) (y : Y) → map v ys ≡ map f xs → n ≡ length ys → k < n → y ≡ get_or ys k y → option_map f (slice_get xs k) ≡ Some (v y)
read-made f v xs ys n k y same len lt read =
    sym (slice_get-map f xs k) ∙ ap (λ zs. slice_get zs k) (sym same) ∙ slice_get-map v ys k ∙ ap (option_map v) (slice_get_read ys n k y len lt read)

-- what holds of both ends of each link holds of both ends of each line
abbrev pub BothEnds : (ℕ → Type 0) → Link → Type 0
BothEnds P link = P link.a × P link.b

abbrev pub BothNodes : (ℕ → Type 0) → LinePlan → Type 0
BothNodes P line = P line.from × P line.to

lines-from-links : (P : ℕ → Type 0) (nodes : List NodePlan) (earlier links : List Link) → AllByRecursion (BothEnds P) links → AllByRecursion (BothNodes P) (each_after (directions nodes) earlier links)
lines-from-links P nodes earlier [] h = h
lines-from-links P nodes earlier (link ∷ links) h = (h.0, ((h.0.1, h.0.0), lines-from-links P nodes (earlier ++ link ∷ []) links h.1))

pub not-false : (b : Bool) → not b ≡ false → b ≡ true
not-false true h = refl
not-false false h = absurd (false≢true (sym h))

-- a known name stands for a number below the count of names
number_of-below : (names : List (List ℕ)) (name : List ℕ) → not (is_among names name) ≡ false → number_of names name < length names
number_of-below names name known =
    let whole : list_any (bytes_eq name) (take (length names) names) ≡ true = ap (list_any (bytes_eq name)) (take_all (length names) names (omega arith)) ∙ not-false (is_among names name) known in
    let found = place_by-early (bytes_eq name) names (length names) whole in
    let same : number_of names name ≡ found.0 = ap (λ o. unwrap_or o (length names)) found.1 in
    let lt : found.0 < length names = found.2 in omega (arith, same)

-- the links of rows with known names end at nodes
links-below : (names : List (List ℕ)) (earlier rows : List LinkRow) → each_after (unknown_at_link names) earlier rows ≡ [] → AllByRecursion (BothEnds (λ n. n < length names)) (map (link_plan names) rows)
links-below names earlier [] none = tt
links-below names earlier (row ∷ rows) none =
    let here : unknown_at_link names earlier row ≡ [] = front-none (unknown_at_link names earlier row) _ none in
    let later : each_after (unknown_at_link names) (earlier ++ row ∷ []) rows ≡ [] = behind-none (unknown_at_link names earlier row) _ none in
    ((number_of-below names row.a (when-none _ _ (behind-none _ _ (front-none _ _ here))), number_of-below names row.b (when-none _ _ (behind-none _ _ here))), links-below names (earlier ++ row ∷ []) rows later)

-- the links of a network end at nodes
pub ends-below : (plan : Plan) → IsAccepted plan → AllByRecursion (BothEnds (λ n. n < length plan.nodes)) plan.links
ends-below plan accepted =
    let rows = accepted.rows in
    let stands = accepted.stands in
    let names = names_of rows.nodes in
    let unknown : unknown_names rows ≡ [] = front-none _ _ (front-none _ _ (front-none _ _ (front-none _ _ stands.none))) in
    let known : each (unknown_at_link names) rows.links ≡ [] = behind-none _ _ (front-none _ _ (front-none _ _ (front-none _ _ unknown))) in
    let count : length names ≡ length plan.nodes = length-map rows.nodes (λ node. node.name) ∙ sym (length-map rows.nodes node_plan) ∙ ap length (sym stands.nodes) in
    subst (AllByRecursion (BothEnds (λ n. n < length plan.nodes))) (sym stands.links)
    (subst (λ m. AllByRecursion (BothEnds (λ n. n < m)) (map (link_plan names) rows.links)) count (links-below names [] rows.links known))

-- the lines of a network lead from nodes to nodes
pub lines-below : (plan : Plan) → IsAccepted plan → All (BothNodes (λ n. n < length plan.nodes)) (lines_of plan)
lines-below plan accepted =
    All-from_recursion (BothNodes (λ n. n < length plan.nodes)) (lines_of plan) (lines-from-links (λ n. n < length plan.nodes) plan.nodes [] plan.links (ends-below plan accepted))

-- what holds of all items holds of the one that is read
pub read-item : {X : Type 0} (P : X → Type 0) (xs : List X) (i : ℕ) (x : X) → All P xs → slice_get xs i ≡ Some x → P x
read-item P xs i x all read = subst P (get_or_from_slice_get xs i x x read) (all i x (slice_get_within xs i x read))

-- the line that is read leads from a node to a node
pub line-read : (plan : Plan) (k : ℕ) (line : LinePlan) → IsAccepted plan → slice_get (lines_of plan) k ≡ Some line → BothNodes (λ n. n < length plan.nodes) line
line-read plan k line accepted read = read-item (BothNodes (λ n. n < length plan.nodes)) (lines_of plan) k line (lines-below plan accepted) read
