-- The bounds of a network are those of what is agreed in it, where the sizes of frames count the same.
use Rattle.std.proofs.Common.{◌≡◌, ℕ, zero, suc, ◌^◌, ◌-◌, ◌+◌, ◌*◌, ◌==◌, ◌&&◌, ◌||◌, Bool, true, false, cond, max, min, List, [], ◌∷◌, ◌++◌, map, flat_map, length, Option, Some, None, Ok, Err, refl, ap, sym, ◌∙◌, slice_get, option_map}
use Rattle.std.specs.Option.{option_map_or}
use Rattle.std.proofs.lemmas.List.{map-append}
use Rattle.network.specs.declared.wiring.Way.{Way}
use Rattle.network.specs.Words.{Plan, VlPlan, arrivals_of, comes_in, departures_of, is_end_system, leaves, lines_of}
use Rattle.nodes.specs.laws.Grouping.{vl_with}
use Rattle.port_bounds.specs.Mixtures.{flows_burst, flows_rate, groups_burst, groups_rate}
use Rattle.network_bounds.specs.declared.mixing.Choice.{Choice}
use Rattle.network_bounds.specs.declared.passing.Passing.{Passing}
use Rattle.network_bounds.specs.Curves.{cost_of, flow_of}
use Rattle.network_bounds.specs.Mixing.{PORTS, PortPlan, flows_by, gaps_in, greatest_below, greatest_by, group_at, groups_below, is_bounding, line_into, mixed_at, port_before, share_at, weight_of}
use Rattle.network_bounds.specs.Numbers.{SCALE, WHOLE, capped, within}
use Rattle.network_bounds.specs.Passing.{comes, first_port_of, input_of, passing_at, passing_by, passing_of, passings, sizes_at}
use Rattle.std.specs.List.{list_any}
use Rattle.network_bounds.specs.declared.delays.PortBound.{PortBound}
use Rattle.network_bounds.specs.declared.delays.Weights.{Weights}
use Rattle.network_bounds.specs.declared.mixing.Choice.TheVariants.{By, Least}
use Rattle.network_bounds.specs.declared.reason.Reason.TheVariants as reason
use Rattle.row_types.specs.declared.rows.VirtualLink.{VirtualLink}
use Rattle.network.specs.declared.wiring.LinePlan.{LinePlan}
use Rattle.network_bounds.specs.Ages.{age_after, age_by, age_to, ends_by, latency_of, plus, sent_over}
use Rattle.network_bounds.specs.Least.{least_after, least_by, least_to, sent_at_once}
use Rattle.network_bounds.specs.Delays.{AreBounds, after, bound_by, first_of, fits_both, fits_first, fits_later, later_of, waiting_of}
use Rattle.plan_bounds.specs.Contract.{agreed_of, agreed_of_link, agreed_of_vl}
use Rattle.network_bounds.specs.declared.sizes.LinkSizes.{LinkSizes}
use Rattle.plan_bounds.proofs.Passed.{with-cons}

flat_map-map : {X Y Z : Type 0} (f : Y → List Z) (g : X → Y) (xs : List X) → flat_map f (map g xs) ≡ flat_map (λ x. f (g x)) xs
flat_map-map f g [] = refl
flat_map-map f g (x ∷ xs) = ap (λ zs. f (g x) ++ zs) (flat_map-map f g xs)

map-flat_map : {X Y Z : Type 0} (g : Y → Z) (f : X → List Y) (xs : List X) → map g (flat_map f xs) ≡ flat_map (λ x. map g (f x)) xs
map-flat_map g f [] = refl
map-flat_map g f (x ∷ xs) = map-append g (f x) (flat_map f xs) ∙ ap (λ zs. map g (f x) ++ zs) (map-flat_map g f xs)

flat_map-same : {X Y : Type 0} (f g : X → List Y) → ((x : X) → f x ≡ g x) → (xs : List X) → flat_map f xs ≡ flat_map g xs
flat_map-same f g same [] = refl
flat_map-same f g same (x ∷ xs) = ap (λ ys. ys ++ flat_map f xs) (same x) ∙ ap (λ ys. g x ++ ys) (flat_map-same f g same xs)

-- ---- what leaves a node

abbrev agreed_of_passing : Passing → Passing
agreed_of_passing p = record p { link = agreed_of_link p.link }

module _ (known : ℕ → LinkSizes) (plan : Plan) where
  departures-same : (n : ℕ) → departures_of (agreed_of plan) n ≡ departures_of plan n
  departures-same n = flat_map-map (leaves n (lines_of plan) plan.links) agreed_of_vl plan.vls

  arrivals-same : (n : ℕ) → arrivals_of (agreed_of plan) n ≡ arrivals_of plan n
  arrivals-same n = flat_map-map (comes_in n (lines_of plan) plan.links) agreed_of_vl plan.vls

  with-same : (vls : List VlPlan) (id : ℕ) → vl_with (map agreed_of_vl vls) id ≡ option_map agreed_of_vl (vl_with vls id)
  with-same [] id = refl
  with-same (vl ∷ vls) id = with-cons (agreed_of_vl vl) (map agreed_of_vl vls) id ∙ go (vl.link.id.0 == id) (with-same vls id) ∙ ap (option_map agreed_of_vl) (sym (with-cons vl vls id))
    where
      go : (b : Bool) → vl_with (map agreed_of_vl vls) id ≡ option_map agreed_of_vl (vl_with vls id) → cond b (Some (agreed_of_vl vl)) (vl_with (map agreed_of_vl vls) id) ≡ option_map agreed_of_vl (cond b (Some vl) (vl_with vls id))
      go true later = refl
      go false later = later

  input-same : (n id : ℕ) → input_of (agreed_of plan) n id ≡ input_of plan n id
  input-same n id = ap (λ ways. cond (is_end_system plan.nodes n) 0 (first_port_of ways id)) (arrivals-same n)

  passing-same : (n : ℕ) (way : Way) → passing_of known (agreed_of plan) n way ≡ map agreed_of_passing (passing_of known plan n way)
  passing-same n way = ap (λ o. option_map_or (passing_by known (agreed_of plan) n way) o []) (with-same plan.vls way.vl.0) ∙ go (vl_with plan.vls way.vl.0)
    where
      go : (o : Option VlPlan) → option_map_or (passing_by known (agreed_of plan) n way) (option_map agreed_of_vl o) [] ≡ map agreed_of_passing (option_map_or (passing_by known plan n way) o [])
      go None = refl
      go (Some vl) = λ i. record { link = agreed_of_link vl.link; sizes = sizes_at (is_end_system plan.nodes n) (known way.vl.0); input = input-same n way.vl.0 i } ∷ []

  passings-same : (n q : ℕ) → passings known (agreed_of plan) n q ≡ map agreed_of_passing (passings known plan n q)
  passings-same n q =
      ap (flat_map (passing_at known (agreed_of plan) n q)) (departures-same n) ∙ flat_map-same (passing_at known (agreed_of plan) n q) (λ way. map agreed_of_passing (passing_at known plan n q way)) at (departures_of plan n)
      ∙ sym (map-flat_map agreed_of_passing (passing_at known plan n q) (departures_of plan n))
    where
      at : (way : Way) → passing_at known (agreed_of plan) n q way ≡ map agreed_of_passing (passing_at known plan n q way)
      at way = go (way.port == q) (passing-same n way)
        where
          go : (b : Bool) → passing_of known (agreed_of plan) n way ≡ map agreed_of_passing (passing_of known plan n way) → cond b (passing_of known (agreed_of plan) n way) [] ≡ map agreed_of_passing (cond b (passing_of known plan n way) [])
          go true later = later
          go false later = refl

-- ---- a port has the same bounds whatever its virtual links offer, if the sizes count the same

flows-same : (is_end by_gap : Bool) (byte_ns j : ℕ) (high : Bool) (ps : List Passing) → flows_by (comes is_end j high) (flow_of is_end by_gap byte_ns) (map agreed_of_passing ps) ≡ flows_by (comes is_end j high) (flow_of is_end by_gap byte_ns) ps
flows-same is_end by_gap byte_ns j high [] = refl
flows-same is_end by_gap byte_ns j high (p ∷ ps) = ap (λ fs. cond (comes is_end j high p) (flow_of is_end by_gap byte_ns p ∷ fs) fs) (flows-same is_end by_gap byte_ns j high ps)

greatest-same : (is_end : Bool) (byte_ns j : ℕ) (high : Bool) (ps : List Passing) → greatest_by (comes is_end j high) (cost_of byte_ns) (map agreed_of_passing ps) ≡ greatest_by (comes is_end j high) (cost_of byte_ns) ps
greatest-same is_end byte_ns j high [] = refl
greatest-same is_end byte_ns j high (p ∷ ps) = ap (λ n. cond (comes is_end j high p) (max (cost_of byte_ns p) n) n) (greatest-same is_end byte_ns j high ps)

abbrev agreed_of_port : PortPlan → PortPlan
agreed_of_port port = record port { passings = map agreed_of_passing port.passings }

module _ (port : PortPlan) where
  share-same : (by_gap : Bool) (j : ℕ) (high : Bool) → share_at (agreed_of_port port) by_gap j high ≡ share_at port by_gap j high
  share-same by_gap j high =
      let flows = flows-same port.is_end by_gap port.byte_ns j high port.passings in
      let greatest = greatest-same port.is_end port.byte_ns j high port.passings in
      λ i. record {
        is_bounding = is_bounding port j;
        line_burst = capped (cond (is_bounding port j) (SCALE * greatest i) (flows_burst (flows i)));
        line_rate = capped (cond (is_bounding port j) SCALE (flows_rate (flows i)));
        burst = capped (flows_burst (flows i));
        rate = capped (flows_rate (flows i));
        greatest = greatest i;
      }

  group-same : (choice : Choice) (high : Bool) (j : ℕ) → group_at (agreed_of_port port) choice high j ≡ group_at port choice high j
  group-same choice high j =
      let flows = flows-same port.is_end (gaps_in choice) port.byte_ns j high port.passings in
      let greatest = greatest-same port.is_end port.byte_ns j high port.passings in
      let share = share-same (gaps_in choice) j high in
      λ i. record {
        line = j;
        burst = cond (is_bounding port j) (SCALE * greatest i) (flows_burst (flows i));
        rate = cond (is_bounding port j) SCALE (flows_rate (flows i));
        weight = weight_of choice j (share i);
        flows = flows i;
      }

  groups-same : (choice : Choice) (high : Bool) (n : ℕ) → groups_below (agreed_of_port port) choice high n ≡ groups_below port choice high n
  groups-same choice high zero = refl
  groups-same choice high (suc j) = λ i. group-same choice high j i ∷ groups-same choice high j i

  greatest-below-same : (high : Bool) (n : ℕ) → greatest_below (agreed_of_port port) high n ≡ greatest_below port high n
  greatest-below-same high zero = refl
  greatest-below-same high (suc j) = λ i. max (greatest-same port.is_end port.byte_ns j high port.passings i) (greatest-below-same high j i)

  mixed-same : (choice : Choice) (high : Bool) → mixed_at (agreed_of_port port) choice high ≡ mixed_at port choice high
  unfolding mixed_at
  mixed-same choice high =
      let groups = groups-same choice high PORTS in
      let greatest = greatest-below-same high PORTS in
      λ i. record { burst = capped (groups_burst WHOLE (groups i)); rate = capped (groups_rate WHOLE (groups i)); greatest = greatest i }

  bound-same : (w : Weights) → bound_by (agreed_of_port port) w ≡ bound_by port w
  bound-same w = λ i. record {
    first = first_of port.byte_ns (cond (fits_first (mixed-same (By w.first) true i)) (mixed-same (By w.first) true i) (mixed-same Least true i)) (mixed-same Least false i).greatest;
    later = cond (fits_later (mixed-same (By w.high) true i) (mixed-same (By w.low) false i)) (later_of (mixed-same (By w.high) true i) (mixed-same (By w.low) false i)) (later_of (mixed-same Least true i) (mixed-same Least false i));
    waiting = cond (fits_both (mixed-same (By w.waiting_high) true i) (mixed-same (By w.waiting_low) false i)) (waiting_of port.byte_ns (mixed-same (By w.waiting_high) true i) (mixed-same (By w.waiting_low) false i))
        (waiting_of port.byte_ns (mixed-same Least true i) (mixed-same Least false i));
  }

-- ---- so a network's bounds are those of what is agreed

module _ (known : ℕ → LinkSizes) (plan : Plan) where
  before-same : (line : LinePlan) (w : Weights) → bound_by (port_before known (agreed_of plan) line) w ≡ bound_by (port_before known plan line) w
  before-same line w =
      let port : port_before known (agreed_of plan) line ≡ agreed_of_port (port_before known plan line) = λ i. record (port_before known plan line) { passings = passings-same known plan line.from line.from_port i } in
      ap (λ p. bound_by p w) port ∙ bound-same (port_before known plan line) w

  pub to-agreed : (lines : List LinePlan) (bounds : List PortBound) → AreBounds known plan lines bounds → AreBounds known (agreed_of plan) lines bounds
  to-agreed [] [] are = tt
  to-agreed [] (bound ∷ bounds) are = absurd are
  to-agreed (line ∷ lines) [] are = absurd are
  to-agreed (line ∷ lines) (bound ∷ bounds) are = ((are.0.0, are.0.1 ∙ sym (before-same line are.0.0)), to-agreed lines bounds are.1)

  pub from-agreed : (lines : List LinePlan) (bounds : List PortBound) → AreBounds known (agreed_of plan) lines bounds → AreBounds known plan lines bounds
  from-agreed [] [] are = tt
  from-agreed [] (bound ∷ bounds) are = absurd are
  from-agreed (line ∷ lines) [] are = absurd are
  from-agreed (line ∷ lines) (bound ∷ bounds) are = ((are.0.0, are.0.1 ∙ before-same line are.0.0), from-agreed lines bounds are.1)

  module _ (bounds : List PortBound) (link : VirtualLink) (least : ℕ) where
    age-same : (lines k : ℕ) → age_after (agreed_of plan) bounds (agreed_of_link link) least lines k ≡ age_after plan bounds link least lines k
    age-same zero k = refl
    age-same (suc lines) k = λ i. option_map_or (λ line. option_map_or (λ bound. sent_over (is_end_system plan.nodes line.from) line bound link least
        (cond (is_end_system plan.nodes line.from) (Ok 0)
        (option_map_or (λ j. plus (age-same lines j i) (latency_of plan line.from)) (line_into plan line.from (input-same known plan line.from link.id.0 i)) (Err reason.Way)))) (slice_get bounds k) (Err reason.Way)) (slice_get (lines_of plan) k) (Err reason.Way)

    ends-same : (n q : ℕ) → ends_by (agreed_of plan) n link.id.0 q ≡ ends_by plan n link.id.0 q
    ends-same n q = ap (list_any (λ (way : Way). (way.vl.0 == link.id.0) && (way.port == q))) (arrivals-same known plan n)

    age-by-same : (n q : ℕ) → age_by (agreed_of plan) bounds (agreed_of_link link) least n q ≡ age_by plan bounds link least n q
    age-by-same n q = λ i. cond (ends-same n q i) (option_map_or (λ k. age-same (length (lines_of plan)) k i) (line_into plan n q) (Err reason.Way)) (Ok 0)

    pub to-same : (n : ℕ) → age_to (agreed_of plan) bounds (agreed_of_link link) least n ≡ age_to plan bounds link least n
    to-same n = λ i. cond (ends-same n 0 i || ends-same n 1 i) (after (age-by-same n 0 i) (λ a. after (age-by-same n 1 i) (λ b. within (max a b)))) (Err reason.Way)

    -- and so is the least
    soonest-same : (lines k : ℕ) → least_after (agreed_of plan) (agreed_of_link link) least lines k ≡ least_after plan link least lines k
    soonest-same zero k = refl
    soonest-same (suc lines) k = λ i. option_map_or (λ line. sent_at_once line least (cond (is_end_system plan.nodes line.from) 0
        (option_map_or (λ j. capped (soonest-same lines j i + latency_of plan line.from)) (line_into plan line.from (input-same known plan line.from link.id.0 i)) 0))) (slice_get (lines_of plan) k) 0

    soonest-by-same : (n q : ℕ) → least_by (agreed_of plan) (agreed_of_link link) least n q ≡ least_by plan link least n q
    soonest-by-same n q = λ i. cond (ends-same n q i) (option_map_or (λ k. soonest-same (length (lines_of plan)) k i) (line_into plan n q) 0) (2 ^ 128 - 1)

    pub soonest-to-same : (n : ℕ) → least_to (agreed_of plan) (agreed_of_link link) least n ≡ least_to plan link least n
    soonest-to-same n = λ i. min (soonest-by-same n 0 i) (soonest-by-same n 1 i)
