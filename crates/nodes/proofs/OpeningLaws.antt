-- Each process of an accepted network begins as the law of virtual time asks: its delays are at least 1 ns, and it sends to processes.
use Rattle.std.proofs.Common.{◌≡◌, ℕ, zero, suc, ◌+◌, ◌-◌, ◌<◌, ◌≤◌, Bool, true, false, cond, List, [], ◌∷◌, map, length, Option, Some, None, All, refl, ap, sym, ◌∙◌, subst, arith, slice_get, IfSome, filter, not, option_map}
use Rattle.nodes.specs.declared.source.Source.{Source}
use Rattle.network.specs.declared.wiring.Way.{Way}
use Rattle.network.specs.Words.{is_none, Plan, NodePlan, VlPlan, IsAccepted, lines_of, process_count}
use Rattle.nodes.specs.declared.opening.meeting.Side.TheVariants.{Out}
use Rattle.nodes.specs.Words.{ways_at, with_ways, leaves_by, line_ahead_among, lines_ahead_of, outlet_of, ports_of, source_of, node_opening, equipment_opening, line_opening, opening, AllAhead, IsPlacedEquipment, IsPlaced, IsWiredEquipment, IsWired}
use Rattle.std.specs.List.{AllByRecursion, range_with_len}
use Rattle.std.proofs.lemmas.List.Elements.{All-from_recursion}
use Rattle.std.proofs.lemmas.Option.{slice_get_within, none-some}
use Rattle.row_types.specs.declared.rows.NodeKind.{NodeKind}
use Rattle.row_types.specs.declared.rows.NodeKind.TheVariants as kind
use Rattle.network.specs.declared.wiring.LinePlan.{LinePlan}
use Rattle.network.specs.declared.limits.TheConstants.{GREATEST_PORTS}
use Rattle.network.proofs.BuildLemmas.{line-read, length-lines}
use Rattle.network.proofs.PortLemmas.{line-within}
use Rattle.network.proofs.LimitLemmas.{kind-read, link-read}
use Rattle.nodes.specs.declared.ports.LineAhead.{LineAhead}
use Rattle.nodes.specs.declared.equipment.Equipment.TheVariants as equipment

-- what holds of each line, as that of a process behind these, holds of the one that a port leads into
ahead-holds : (P : LineAhead → Type 0) (n q process : ℕ) (lines : List LinePlan) →
    ((k : ℕ) (line : LinePlan) → slice_get lines k ≡ Some line → P (record { line = process + k; byte_ns = line.byte_ns })) → IfSome (line_ahead_among n q process lines) P
ahead-holds P n q process [] h = tt
ahead-holds P n q process (line ∷ lines) h =
    go (leaves_by n q line) (ahead-holds P n q (process + 1) lines (λ k other there. subst (λ j. P (record { line = j; byte_ns = other.byte_ns })) (omega arith) (h (suc k) other there)))
  where
    go : (b : Bool) → IfSome (line_ahead_among n q (process + 1) lines) P → IfSome (cond b (Some (record { line = process; byte_ns = line.byte_ns })) (line_ahead_among n q (process + 1) lines)) P
    go true later = subst (λ j. P (record { line = j; byte_ns = line.byte_ns })) (omega arith) (h 0 line refl)
    go false later = later

all-mapped : {X Y : Type 0} (P : Y → Type 0) (f : X → Y) (xs : List X) → ((x : X) → P (f x)) → AllByRecursion P (map f xs)
all-mapped P f [] h = tt
all-mapped P f (x ∷ xs) h = (h x, all-mapped P f xs h)

-- what holds of each of these lines holds of those that the ports lead into which are made for them
outlets-hold : (P : LineAhead → Type 0) (bytes : ℕ) (lines_ahead : List (Option LineAhead)) → AllByRecursion (λ ahead. IfSome ahead P) lines_ahead →
    AllByRecursion (λ slot. IfSome slot (λ outlet. P outlet.ahead)) (map (option_map (outlet_of bytes)) lines_ahead)
outlets-hold P bytes [] h = tt
outlets-hold P bytes (Some ahead ∷ lines_ahead) h = (h.0, outlets-hold P bytes lines_ahead h.1)
outlets-hold P bytes (None ∷ lines_ahead) h = (tt, outlets-hold P bytes lines_ahead h.1)

all-read : {X : Type 0} (P : X → Type 0) (xs : List X) → ((k : ℕ) (x : X) → slice_get xs k ≡ Some x → P x) → AllByRecursion P xs
all-read P [] h = tt
all-read P (x ∷ xs) h = (h 0 x refl, all-read P xs (λ k y there. h (suc k) y there))

-- what holds of all holds of what those that pass a test give
all-passed : {X Y : Type 0} (P : X → Type 0) (Q : Y → Type 0) (f : X → Y) (test : X → Bool) → ((x : X) → P x → Q (f x)) → (xs : List X) → AllByRecursion P xs → AllByRecursion Q (map f (filter test xs))
all-passed P Q f test gives [] all = tt
all-passed P Q f test gives (x ∷ xs) all = go (test x) (all-passed P Q f test gives xs all.1)
  where
    go : (b : Bool) → AllByRecursion Q (map f (filter test xs)) → AllByRecursion Q (map f (cond b (x ∷ filter test xs) (filter test xs)))
    go true later = (gives x all.0, later)
    go false later = later

-- where a list has nothing, it has ended
none-beyond : {X : Type 0} (xs : List X) (k : ℕ) → slice_get xs k ≡ None → length xs ≤ k
none-beyond [] k e = omega arith
none-beyond (x ∷ xs) zero e = absurd (none-some x (sym e))
none-beyond (x ∷ xs) (suc k) e = let rest = none-beyond xs k e in omega arith

module _ (plan : Plan) (accepted : IsAccepted plan) where
  lines_ahead-hold : (P : LineAhead → Type 0) → ((k : ℕ) (line : LinePlan) → slice_get (lines_of plan) k ≡ Some line → P (record { line = length plan.nodes + k; byte_ns = line.byte_ns })) →
      (n count bytes : ℕ) → AllAhead P (ports_of plan n count bytes)
  unfolding lines_ahead_of
  lines_ahead-hold P h n count bytes =
      All-from_recursion (λ slot. IfSome slot (λ outlet. P outlet.ahead)) _ (outlets-hold P bytes (lines_ahead_of plan n count)
      (all-mapped (λ ahead. IfSome ahead P) (λ q. line_ahead_among n q (length plan.nodes) (lines_of plan)) (range_with_len 0 count)
      (λ q. ahead-holds P n q (length plan.nodes) (lines_of plan) h)))

  slow-lines_ahead : (n count bytes : ℕ) → AllAhead (λ ahead. 1 ≤ ahead.byte_ns) (ports_of plan n count bytes)
  slow-lines_ahead = lines_ahead-hold (λ ahead. 1 ≤ ahead.byte_ns) (λ k line there. (line-within plan k line accepted there).times.byte)

  line-process : (k : ℕ) (line : LinePlan) → slice_get (lines_of plan) k ≡ Some line → length plan.nodes + k < process_count plan
  line-process k line there = omega (arith, slice_get_within (lines_of plan) k line there, length-lines plan.nodes [] plan.links)

  near-lines_ahead : (n count bytes : ℕ) → AllAhead (λ ahead. ahead.line < process_count plan) (ports_of plan n count bytes)
  near-lines_ahead = lines_ahead-hold (λ ahead. ahead.line < process_count plan) line-process

  has-bag : VlPlan → Type 0
  has-bag vl = 1 ≤ vl.link.bag_ms

  spaced : (ways : VlPlan → List Way) → All (λ (source : Source). 1 ≤ source.regulator.bag) (map (source_of ways) (with_ways ways plan.vls))
  unfolding has-bag
  spaced ways =
      All-from_recursion (λ (source : Source). 1 ≤ source.regulator.bag) _ (all-passed has-bag (λ source. 1 ≤ source.regulator.bag) (source_of ways) (λ vl. not (is_none (ways vl))) (λ vl h. omega (arith, h)) plan.vls
      (all-read has-bag plan.vls (λ k vl there. (link-read plan k vl.link accepted (ap (option_map (λ vl. vl.link)) there)).least_bag)))

  node-placed : (n : ℕ) (node : NodePlan) → slice_get plan.nodes n ≡ Some node → (k : NodeKind) → node.kind ≡ k → IsPlacedEquipment (node_opening plan n node.port_bytes k)
  node-placed n node there kind.EndSystem e = (slow-lines_ahead n 2 node.port_bytes, spaced (ways_at plan n Out))
  node-placed n node there (kind.Switch net latency_ns) e =
      (slow-lines_ahead n GREATEST_PORTS node.port_bytes, (kind-read plan n (kind.Switch net latency_ns) accepted (ap (option_map (λ node. node.kind)) there ∙ ap Some e)).0)

  node-wired : (n : ℕ) (node : NodePlan) (k : NodeKind) → IsWiredEquipment (process_count plan) (node_opening plan n node.port_bytes k)
  node-wired n node kind.EndSystem = near-lines_ahead n 2 node.port_bytes
  node-wired n node (kind.Switch net latency_ns) = near-lines_ahead n GREATEST_PORTS node.port_bytes

  -- process p behind the nodes is a line
  behind : (p : ℕ) → p < process_count plan → slice_get plan.nodes p ≡ None → p - length plan.nodes < length (lines_of plan)
  behind p lt none = omega (arith, none-beyond plan.nodes p none, length-lines plan.nodes [] plan.links)

  line-there : (k : ℕ) → k < length (lines_of plan) → (o : Option LinePlan) → slice_get (lines_of plan) k ≡ o →
      IsPlacedEquipment (equipment.Line (line_opening plan k o)) × IsWiredEquipment (process_count plan) (equipment.Line (line_opening plan k o))
  line-there k lt (Some line) there =
      ((line-within plan k line accepted there).times.propagation, omega (arith, (line-read plan k line accepted there).1))
  line-there k lt None there = absurd (omega (arith, none-beyond (lines_of plan) k there))

  equipment-opens : (p : ℕ) → p < process_count plan → (o : Option NodePlan) → slice_get plan.nodes p ≡ o →
      IsPlacedEquipment (equipment_opening plan p o) × IsWiredEquipment (process_count plan) (equipment_opening plan p o)
  equipment-opens p lt (Some node) there = (node-placed p node there node.kind refl, node-wired p node node.kind)
  equipment-opens p lt None there = let k = p - length plan.nodes in line-there k (behind p lt there) (slice_get (lines_of plan) k) refl

  pub opening-placed : (p : ℕ) → p < process_count plan → IsPlaced (opening plan p)
  opening-placed p lt = (equipment-opens p lt (slice_get plan.nodes p) refl).0

  pub opening-wired : (p : ℕ) → p < process_count plan → IsWired (process_count plan) (opening plan p)
  opening-wired p lt = (lt, (equipment-opens p lt (slice_get plan.nodes p) refl).1)
