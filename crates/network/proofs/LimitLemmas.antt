-- Rows within the limits of their keys give networks whose numbers are within them.
use Rattle.std.proofs.Common.{◌≡◌, ℕ, ◌≤◌, Bool, true, false, ◌&&◌, ◌||◌, ◌==◌, List, [], ◌∷◌, map, Option, Some, None, All, refl, sym, subst, slice_get, option_map, leb-true, eqb-true}
use Rattle.std.specs.List.{AllByRecursion, list_any, list_all}
use Rattle.std.proofs.lemmas.Bool.{false≢true}
use Rattle.std.proofs.lemmas.List.Elements.{All-from_recursion, recursion_from_All}
use Rattle.std.proofs.lemmas.List.Sorted.{All-permutation}
use Rattle.vlink.specs.declared.time.TheConstants.{LATEST_NS}
use Rattle.network_rows.specs.declared.table.TheConstants.{SECOND_NS}
use Rattle.row_types.specs.declared.rows.NodeKind.{NodeKind}
use Rattle.row_types.specs.declared.rows.NodeKind.TheVariants.{EndSystem, Switch}
use Rattle.row_types.specs.declared.rows.NodeRow.{NodeRow}
use Rattle.network_rows.specs.declared.rows.VlRow.{VlRow}
use Rattle.network_rows.specs.ValueTypes.{is_within}
use Rattle.network_rows.specs.Within.{IsNodeWithin, IsNodeKindWithin, IsStreamWithin, IsStreamRowWithin, IsVirtualLinkWithin, IsVlWithin}
use Rattle.row_types.specs.declared.rows.Stream.{Stream}
use Rattle.row_types.specs.declared.rows.StreamRow.{StreamRow}
use Rattle.row_types.specs.declared.rows.VirtualLink.{VirtualLink}
use Rattle.network.specs.declared.plan.VlStream.{VlStream}
use Rattle.network.specs.Words.{names_of, Plan, NodePlan, VlPlan, node_plan, stream_plan, vl_plan, IsAccepted, IsLinkInLimits, IsKindInLimits, IsStreamInLimits}
use Rattle.network.proofs.BuildLemmas.{read-item}

both-true : (a b : Bool) → (a && b) ≡ true → (a ≡ true) × (b ≡ true)
both-true true b e = (refl, e)
both-true false b e = absurd (false≢true e)

-- a number within limits is not below the least, and not above the greatest
pub bounds : (least greatest n : ℕ) → is_within least greatest n ≡ true → (least ≤ n) × (n ≤ greatest)
bounds least greatest n within = let (low, high) = both-true _ _ within in (leb-true least n low, leb-true n greatest high)

-- a number that is one of several, all of them within limits
one-of-bounds : (least greatest n : ℕ) (ms : List ℕ) → list_all (is_within least greatest) ms ≡ true → list_any (λ m. m == n) ms ≡ true → (least ≤ n) × (n ≤ greatest)
one-of-bounds least greatest n [] all any = absurd (false≢true any)
one-of-bounds least greatest n (m ∷ ms) all any =
    let (here, others) = both-true (is_within least greatest m) (list_all (is_within least greatest) ms) all in
    go (m == n) refl here any (one-of-bounds least greatest n ms others)
  where
    go : (b : Bool) → (m == n) ≡ b → is_within least greatest m ≡ true → (b || list_any (λ k. k == n) ms) ≡ true → (list_any (λ k. k == n) ms ≡ true → (least ≤ n) × (n ≤ greatest)) → (least ≤ n) × (n ≤ greatest)
    go true same here there later = subst (λ k. (least ≤ k) × (k ≤ greatest)) (eqb-true m n same) (bounds least greatest m here)
    go false apart here there later = later there

-- the numbers of a stream
stream-limits : (stream : Stream) → IsStreamWithin stream → IsStreamInLimits stream
stream-limits stream within =
    let frames = bounds 1 64 stream.frames within.frames in
    let period = bounds 1000 LATEST_NS stream.period_ns within.period_ns in
    record {
      least_frames = frames.0;
      greatest_frames = frames.1;
      offset = (bounds 0 LATEST_NS stream.offset_ns within.offset_ns).1;
      least_period = period.0;
      greatest_period = period.1;
      jitter = (bounds 0 SECOND_NS stream.jitter_ns within.jitter_ns).1;
    }

-- the numbers of a virtual link
link-limits : (link : VirtualLink) → IsVirtualLinkWithin link → IsLinkInLimits link
link-limits link within =
    let bag = one-of-bounds 1 128 link.bag_ms (1 ∷ 2 ∷ 4 ∷ 8 ∷ 16 ∷ 32 ∷ 64 ∷ 128 ∷ []) refl within.bag_ms in
    let depth = bounds 1 1024 link.depth within.depth in
    let sub = bounds 1 4 link.sub within.sub in
    record {
      id = (bounds 0 65535 link.id.0 within.id).1;
      least_bag = bag.0;
      greatest_bag = bag.1;
      policing_jitter = (bounds 0 SECOND_NS link.policing_jitter_ns within.policing_jitter_ns).1;
      skew_max = (bounds 0 SECOND_NS link.skew_max_ns within.skew_max_ns).1;
      least_depth = depth.0;
      greatest_depth = depth.1;
      least_sub = sub.0;
      greatest_sub = sub.1;
      own = stream-limits link.own within.own;
    }

kind-limits : (kind : NodeKind) → IsNodeKindWithin kind → IsKindInLimits kind
kind-limits EndSystem within = tt
kind-limits (Switch net latency_ns) within = bounds 1 SECOND_NS latency_ns within

-- the same of all of them in a plan
abbrev HasLinkInLimits : VlPlan → Type 0
HasLinkInLimits vl = IsLinkInLimits vl.link

abbrev HasKindInLimits : NodePlan → Type 0
HasKindInLimits node = IsKindInLimits node.kind

all-links : (names : List (List ℕ)) (rows : List VlRow) → AllByRecursion IsVlWithin rows → AllByRecursion HasLinkInLimits (map (vl_plan names) rows)
all-links names [] within = tt
all-links names (row ∷ rows) within = (link-limits row.link within.0.link, all-links names rows within.1)

all-kinds : (rows : List NodeRow) → AllByRecursion IsNodeWithin rows → AllByRecursion HasKindInLimits (map node_plan rows)
all-kinds [] within = tt
all-kinds (row ∷ rows) within = (kind-limits row.kind within.0.kind, all-kinds rows within.1)

abbrev pub HasStreamInLimits : VlStream → Type 0
HasStreamInLimits s = IsStreamInLimits s.stream

all-streams : (rows : List StreamRow) → AllByRecursion IsStreamRowWithin rows → AllByRecursion HasStreamInLimits (map stream_plan rows)
all-streams [] within = tt
all-streams (row ∷ rows) within = (stream-limits row.stream within.0.stream, all-streams rows within.1)

-- what holds of a field of all items holds of the field that is read
read-field : {X Y : Type 0} (P : Y → Type 0) (f : X → Y) (xs : List X) (i : ℕ) (y : Y) → All (λ x. P (f x)) xs → option_map f (slice_get xs i) ≡ Some y → P y
read-field {X} {Y} P f xs i y all read = go (slice_get xs i) refl read
  where
    go : (o : Option X) → slice_get xs i ≡ o → option_map f o ≡ Some y → P y
    go (Some x) at found = let same : f x ≡ y = cc in subst P same (read-item (λ (z : X). P (f z)) xs i x all at)
    go None at found = absurd (cc)

-- the numbers of an accepted network
pub link-read : (plan : Plan) (vl : ℕ) (link : VirtualLink) → IsAccepted plan → option_map (λ vl. vl.link) (slice_get plan.vls vl) ≡ Some link → IsLinkInLimits link
link-read plan vl link accepted read =
    let rows = accepted.rows in
    let names = names_of rows.nodes in
    let in_rows : All HasLinkInLimits (map (vl_plan names) rows.vls) = All-from_recursion HasLinkInLimits _ (all-links names rows.vls (recursion_from_All IsVlWithin rows.vls accepted.within.vls)) in
    read-field IsLinkInLimits (λ vl. vl.link) plan.vls vl link (All-permutation HasLinkInLimits _ plan.vls accepted.stands.vls in_rows) read

pub all-streams-read : (plan : Plan) → IsAccepted plan → All HasStreamInLimits plan.streams
all-streams-read plan accepted =
    let rows = accepted.rows in
    let in_rows : All HasStreamInLimits (map stream_plan rows.streams) = All-from_recursion HasStreamInLimits _ (all-streams rows.streams (recursion_from_All IsStreamRowWithin rows.streams accepted.within.streams)) in
    subst (All HasStreamInLimits) (sym accepted.stands.streams) in_rows

pub kind-read : (plan : Plan) (node : ℕ) (kind : NodeKind) → IsAccepted plan → option_map (λ node. node.kind) (slice_get plan.nodes node) ≡ Some kind → IsKindInLimits kind
kind-read plan node kind accepted read =
    let rows = accepted.rows in
    let in_rows : All HasKindInLimits (map node_plan rows.nodes) = All-from_recursion HasKindInLimits _ (all-kinds rows.nodes (recursion_from_All IsNodeWithin rows.nodes accepted.within.nodes)) in
    read-field IsKindInLimits (λ node. node.kind) plan.nodes node kind (subst (All HasKindInLimits) (sym accepted.stands.nodes) in_rows) read

pub until-within : (plan : Plan) → IsAccepted plan → (1 ≤ plan.until) × (plan.until ≤ LATEST_NS)
until-within plan accepted = subst (λ until. (1 ≤ until) × (until ≤ LATEST_NS)) (sym accepted.stands.until) (bounds 1 LATEST_NS accepted.rows.until accepted.within.until)
