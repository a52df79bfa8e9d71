-- The lines of a network without a fault: their times and their ports are within limits.
use Rattle.std.proofs.Common.{◌≡◌, ℕ, ◌<◌, ◌≤◌, Bool, true, false, not, cond, nat_lt, ◌==◌, ◌&&◌, ◌||◌, List, [], ◌∷◌, ◌++◌, length, map, take, get_or, count_by, Some, All, refl, sym, ◌∙◌, subst, arith, append_assoc, slice_get}
use Rattle.std.specs.List.{AllByRecursion}
use Rattle.std.proofs.lemmas.Bool.Decides.{nat_tests}
use Rattle.std.proofs.lemmas.List.Elements.{All-from_recursion, recursion_from_All}
use Rattle.std.proofs.lemmas.List.Sums.{sum_by-append}
use Rattle.vlink.specs.declared.frame.Net.TheVariants.{A}
use Rattle.network_rows.specs.declared.table.TheConstants.{SECOND_NS}
use Rattle.network_rows.specs.declared.rows.LinkRow.{LinkRow}
use Rattle.row_types.specs.declared.rows.NodeKind.TheVariants.{EndSystem}
use Rattle.row_types.specs.declared.rows.Rate.{Rate}
use Rattle.row_types.specs.declared.rows.Rate.TheVariants.{Mbit10, Mbit100, Mbit1000}
use Rattle.network_rows.specs.Within.{IsLinkWithin}
use Rattle.network.specs.Words.{greatest_ports, each, each_after, names_of, Plan, NodePlan, link_plan, byte_ns_of, plan_of, is_end_system, is_switch_of, port_at, directions, lines_of, unknown_names, double_names, not_links, not_trees, too_many, too_many_at_node, touches, IsAccepted}
use Rattle.network.specs.declared.wiring.Link.{Link}
use Rattle.network.specs.declared.wiring.LinePlan.{LinePlan}
use Rattle.network.proofs.BuildLemmas.{BothEnds, front-none, behind-none, when-none, ends-below, read-item}
use Rattle.network.proofs.EachLemmas.{each-at, length-before}
use Rattle.network.proofs.LimitLemmas.{bounds}

-- how long a byte takes, and how long a frame is on the way
pub record AreTimesWithin (byte_ns propagation_ns : ℕ) : Type 0 where
  pub byte : 1 ≤ byte_ns
  pub greatest_byte : byte_ns ≤ 800
  pub propagation : 1 ≤ propagation_ns
  pub greatest_propagation : propagation_ns ≤ SECOND_NS

abbrev pub IsLinkTimely : Link → Type 0
IsLinkTimely link = AreTimesWithin link.byte_ns link.propagation_ns

pub record IsLineWithin (line : LinePlan) : Type 0 where
  pub times : AreTimesWithin line.byte_ns line.propagation_ns
  pub from_port : line.from_port < greatest_ports
  pub to_port : line.to_port < greatest_ports

-- ---- times

byte-bounds : (rate : Rate) → (1 ≤ byte_ns_of rate) × (byte_ns_of rate ≤ 800)
byte-bounds Mbit10 = (omega arith, omega arith)
byte-bounds Mbit100 = (omega arith, omega arith)
byte-bounds Mbit1000 = (omega arith, omega arith)

links-timely : (names : List (List ℕ)) (rows : List LinkRow) → AllByRecursion IsLinkWithin rows → AllByRecursion IsLinkTimely (map (link_plan names) rows)
links-timely names [] within = tt
links-timely names (row ∷ rows) within =
    let byte = byte-bounds row.mbit in
    let propagation = bounds 1 SECOND_NS row.propagation_ns within.0.propagation_ns in
    (record { byte = byte.0; greatest_byte = byte.1; propagation = propagation.0; greatest_propagation = propagation.1 }, links-timely names rows within.1)

-- ---- ports

-- what is read where there is no node
abbrev no_node : NodePlan
no_node = record { name = []; kind = EndSystem; port_bytes = 0 }

-- no switch has too many links
abbrev pub HasFewLinks : List NodePlan → List Link → ℕ → Type 0
HasFewLinks nodes links n = n < length nodes → is_end_system nodes n ≡ false → count_by (touches n) links ≤ greatest_ports

few-links : (nodes : List NodePlan) (links : List Link) (n : ℕ) → each (too_many_at_node nodes links) nodes ≡ [] → HasFewLinks nodes links n
few-links nodes links n none below is_switch =
    let check = too_many_at_node nodes links in
    let none_at : check (take n nodes) (get_or nodes n no_node) ≡ [] = front-none _ _ (behind-none (each check (take n nodes)) _ (sym (each-at check nodes n no_node below) ∙ none)) in
    let test : (not (is_end_system nodes n) && nat_lt greatest_ports (count_by (touches n) links)) ≡ false =
    subst (λ k. (not (is_end_system nodes k) && nat_lt greatest_ports (count_by (touches k) links)) ≡ false) (length-before nodes n below) (when-none _ _ none_at) in
    let few : nat_lt greatest_ports (count_by (touches n) links) ≡ false = rw is_switch at test in
    grind (arith, nat_tests)

-- the earlier links that pass, where one behind them does too
count-earlier : (p : Link → Bool) (earlier links : List Link) (link : Link) → p link ≡ true → count_by p earlier < count_by p (earlier ++ link ∷ links)
count-earlier p earlier links link passed =
    let one : count_by p (link ∷ []) ≡ 1 = rw passed refl in
    omega (arith, one, sum_by-append (λ x. cond (p x) 1 0) earlier (link ∷ links), sum_by-append (λ x. cond (p x) 1 0) (link ∷ []) links)

-- the port of a node for one of its links
port-below : (nodes : List NodePlan) (earlier links : List Link) (link : Link) (node other : ℕ) → HasFewLinks nodes (earlier ++ link ∷ links) node → node < length nodes → touches node link ≡ true
    → port_at nodes earlier node other < greatest_ports
port-below nodes earlier links link node other few below touched = go (is_end_system nodes node) refl (is_switch_of nodes A other)
  where
    go : (is_end : Bool) → is_end_system nodes node ≡ is_end → (on_a : Bool) → cond is_end (cond on_a 0 1) (count_by (touches node) earlier) < greatest_ports
    go true e true = omega arith
    go true e false = omega arith
    go false e on_a = let at_most : count_by (touches node) (earlier ++ link ∷ links) ≤ greatest_ports = few below e in
        omega (arith, count-earlier (touches node) earlier links link touched)

touches-a : (link : Link) → touches link.a link ≡ true
touches-a link = let same : (link.a == link.a) ≡ true = grind (arith, nat_tests) in rw same refl

touches-b : (link : Link) → touches link.b link ≡ true
touches-b link = go (link.a == link.b)
  where
    same : (link.b == link.b) ≡ true
    same = grind (arith, nat_tests)

    go : (b : Bool) → (b || (link.b == link.b)) ≡ true
    go true = refl
    go false = same

-- ---- lines

lines-within : (nodes : List NodePlan) (earlier links : List Link) → ((n : ℕ) → HasFewLinks nodes (earlier ++ links) n) → AllByRecursion (BothEnds (λ n. n < length nodes)) links → AllByRecursion IsLinkTimely links
    → AllByRecursion IsLineWithin (each_after (directions nodes) earlier links)
lines-within nodes earlier [] few ends times = tt
lines-within nodes earlier (link ∷ links) few ends times =
    let a_port = port-below nodes earlier links link link.a link.b (few link.a) ends.0.0 (touches-a link) in
    let b_port = port-below nodes earlier links link link.b link.a (few link.b) ends.0.1 (touches-b link) in
    let later : (n : ℕ) → HasFewLinks nodes ((earlier ++ link ∷ []) ++ links) n = λ n. subst (λ (all : List Link). HasFewLinks nodes all n) (sym (append_assoc earlier (link ∷ []) links)) (few n) in (
      record { times = times.0; from_port = a_port; to_port = b_port },
      (
        record { times = times.0; from_port = b_port; to_port = a_port },
        lines-within nodes (earlier ++ link ∷ []) links later ends.1 times.1,
      ),
    )

-- the line that is read in an accepted network
pub line-within : (plan : Plan) (k : ℕ) (line : LinePlan) → IsAccepted plan → slice_get (lines_of plan) k ≡ Some line → IsLineWithin line
line-within plan k line accepted read =
    let rows = accepted.rows in
    let stands = accepted.stands in
    let many : too_many (plan_of rows) ≡ [] = behind-none (unknown_names rows ++ double_names (plan_of rows) ++ not_links (plan_of rows) ++ not_trees (plan_of rows)) (too_many (plan_of rows)) stands.none in
    let none : each (too_many_at_node (plan_of rows).nodes (plan_of rows).links) (plan_of rows).nodes ≡ [] = behind-none _ _ (front-none _ _ (front-none _ _ (front-none _ _ many))) in
    let none_here : each (too_many_at_node plan.nodes plan.links) plan.nodes ≡ [] = rw (stands.nodes, stands.links) none in
    let times : AllByRecursion IsLinkTimely plan.links = subst (AllByRecursion IsLinkTimely) (sym stands.links) (links-timely (names_of rows.nodes) rows.links (recursion_from_All IsLinkWithin rows.links accepted.within.links)) in
    let all : All IsLineWithin (lines_of plan) = All-from_recursion IsLineWithin (lines_of plan) (lines-within plan.nodes [] plan.links (λ n. few-links plan.nodes plan.links n none_here) (ends-below plan accepted) times) in
    read-item IsLineWithin (lines_of plan) k line all read
