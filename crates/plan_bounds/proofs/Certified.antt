-- All that comes to a port, by lines and virtual links, as certificates have it.
use Rattle.std.proofs.Common.{◌≡◌, ℕ, zero, suc, ◌<◌, ◌≤◌, ◌==◌, ◌⊎◌, Bool, true, false, cond, nat_le, nat_lt, List, [], ◌∷◌, map, length, Some, None, inl, inr, refl, ap, sym, ◌∙◌, subst, arith, slice_get, eqb-true, eq-eqb}
use Rattle.std.specs.Prelude.{slice_index_or}
use Rattle.std.specs.List.{AllByRecursion, range_with_len}
use Rattle.std.specs.Option.{option_map_or}
use Rattle.std.proofs.lemmas.Bool.{false≢true}
use Rattle.std.proofs.lemmas.Bool.Decides.{nat_tests}
use Rattle.std.proofs.lemmas.List.Elements.{recursion_from_All}
use Rattle.output_port.specs.declared.event.Priority.{Priority}
use Rattle.network.specs.declared.limits.TheConstants.{GREATEST_PORTS}
use Rattle.network.specs.declared.wiring.LinePlan.{LinePlan}
use Rattle.network.specs.declared.wiring.Way.{Way}
use Rattle.network.specs.Words.{IsAccepted, Plan, arrivals_of, is_end_system, lines_of}
use Rattle.network.proofs.BuildLemmas.{line-read}
use Rattle.nodes.specs.declared.opening.meeting.Side.TheVariants.{In}
use Rattle.nodes.specs.declared.ports.Outlet.{Outlet}
use Rattle.nodes.specs.rules.Opening.{line_opening}
use Rattle.nodes.proofs.WayLemmas.{ways-within}
use Rattle.seqsim.specs.Networks.{setting_of}
use Rattle.port_turns.specs.Arrivals.{IsWay}
use Rattle.plan_bounds.proofs.Counted.{AreSized}
use Rattle.frame_ages.specs.Sizes.{Sizes}
use Rattle.network_bounds.specs.declared.sizes.LinkSizes.{LinkSizes}
use Rattle.plan_ports.specs.Outlets.{line_process}
use Rattle.plan_ports.proofs.OwnPorts.{own-ports}
use Rattle.plan_ports.proofs.Ways.{line-way}
use Rattle.network_bounds.specs.declared.passing.Passing.{Passing}
use Rattle.network_bounds.specs.declared.mixing.Choice.{Choice}
use Rattle.network_bounds.specs.declared.mixing.Choice.TheVariants.{By, Least}
use Rattle.network_bounds.specs.declared.share.Share.{Share}
use Rattle.network_bounds.specs.Curves.{is_first}
use Rattle.network_bounds.specs.Mixing.{PORTS, PortPlan, byte_ns_into, flows_at, gaps_in, greatest_at, group_at, groups_below, is_bounding, port_before, share_at, weight_by, weight_of}
use Rattle.network_bounds.specs.Numbers.{SCALE, WHOLE}
use Rattle.network_bounds.specs.Passing.{are_same, comes, first_port_of, input_of, passings}
use Rattle.port_bounds.specs.Mixtures.{IsAmong, lines_of as group_lines, links_of}
use Rattle.port_bounds.specs.Sublists.{Every}
use Rattle.frame_ages.specs.Ports.{AreGroups, IsByLine, IsGroup}
use Rattle.plan_bounds.proofs.Groups.{IsCounted, counted, costs-are, flow-among, flows-are, is_high_put}
use Rattle.plan_bounds.proofs.Lines.{IsSlower, slower-is}
use Rattle.plan_bounds.proofs.NodeKinds.{IsSwitchAt, node-kind}
use Rattle.plan_bounds.proofs.Passed.{leaves-passed, passed}

weight-most : (choice : Choice) (j : ℕ) (share : Share) → weight_of choice j share ≤ WHOLE
weight-most choice j share = go share.is_bounding
  where
    by-choice : (choice : Choice) → weight_by choice j share ≤ WHOLE
    by-choice Least = least (nat_lt share.line_rate share.rate)
      where
        least : (b : Bool) → cond b WHOLE 0 ≤ WHOLE
        least true = omega arith
        least false = omega arith
    by-choice (By parts) = omega arith

    go : (b : Bool) → cond b (weight_by choice j share) 0 ≤ WHOLE
    go true = by-choice choice
    go false = omega arith

-- ---- the groups

same-is : (b : Bool) → are_same b b ≡ true
same-is true = refl
same-is false = refl

within-first : (id : ℕ) (ways : List Way) → AllByRecursion (λ way. way.port < GREATEST_PORTS) ways → first_port_of ways id < PORTS
within-first id [] all = omega arith
within-first id (way ∷ ways) all = go (way.vl.0 == id) (within-first id ways all.1)
  where
    go : (b : Bool) → first_port_of ways id < PORTS → cond b way.port (first_port_of ways id) < PORTS
    go true later = all.0
    go false later = later

module _ (plan : Plan) (accepted : IsAccepted plan) (k : ℕ) (line : LinePlan) (read : slice_get (lines_of plan) k ≡ Some line) where
  from-node : line.from < length plan.nodes
  from-node = (line-read plan k line accepted read).0

  pub input-below : (id : ℕ) → input_of plan line.from id < PORTS
  input-below id = go (is_end_system plan.nodes line.from)
    where
      go : (b : Bool) → cond b 0 (first_port_of (arrivals_of plan line.from) id) < PORTS
      go true = omega arith
      go false = within-first id (arrivals_of plan line.from) (recursion_from_All (λ way. way.port < GREATEST_PORTS) (arrivals_of plan line.from) (ways-within plan line.from In accepted))

module _ (known : ℕ → LinkSizes) (size : ℕ → Sizes) (plan : Plan) (accepted : IsAccepted plan) (k : ℕ) (line : LinePlan) (read : slice_get (lines_of plan) k ≡ Some line) (all : AreSized plan known size line.from) where
  abbrev port : PortPlan
  port = port_before known plan line

  from-there : line.from < length plan.nodes
  from-there = from-node plan accepted k line read

  bounding-slower : (j : ℕ) → j < PORTS → is_bounding port j ≡ true → (is_end_system plan.nodes line.from ≡ false) × IsSlower plan line.from j line.byte_ns
  bounding-slower j lt h = go (is_end_system plan.nodes line.from) refl h
    where
      go : (b : Bool) → is_end_system plan.nodes line.from ≡ b → cond b false (option_map_or (λ before. nat_le line.byte_ns before) (slice_index_or (map (byte_ns_into plan line.from) (range_with_len 0 PORTS)) j None) false) ≡ true
          → (is_end_system plan.nodes line.from ≡ false) × IsSlower plan line.from j line.byte_ns
      go true e h = absurd (false≢true h)
      go false e h = (e, slower-is plan line.from j line.byte_ns PORTS lt h)

  module _ (choice : Choice) (high : Bool) where
    by-line : (j : ℕ) → j < PORTS → (b : Bool) → is_bounding port j ≡ b → 1 ≤ cond b (weight_by choice j (share_at port (gaps_in choice) j high)) 0
        → IsByLine (setting_of plan) line.from size line.byte_ns SCALE (group_at port choice high j)
    by-line j lt false e some = absurd (omega (arith, some))
    by-line j lt true e some =
        let (no_end, slow) = bounding-slower j lt e in
        elim (node-kind plan line.from from-there) [
          | inl node ↦ absurd (false≢true (sym no_end ∙ node.end))
          | inr node ↦ by-switch j e slow node
        ]
      where
        by-switch : (j : ℕ) → is_bounding port j ≡ true → IsSlower plan line.from j line.byte_ns → IsSwitchAt plan line.from → IsByLine (setting_of plan) line.from size line.byte_ns SCALE (group_at port choice high j)
        by-switch j e slow node =
            let way = line-way plan accepted (own-ports plan accepted) slow.k slow.leads.line slow.leads.read in
            let there : IsWay (setting_of plan) slow.leads.line.from slow.leads.line.from_port (line_process plan slow.k) line.from j way.outlet (line_opening plan slow.k (Some slow.leads.line)) =
            subst (λ n. IsWay (setting_of plan) slow.leads.line.from slow.leads.line.from_port (line_process plan slow.k) line.from n way.outlet (line_opening plan slow.k (Some slow.leads.line))) slow.leads.to_port
            (subst (λ n. IsWay (setting_of plan) slow.leads.line.from slow.leads.line.from_port (line_process plan slow.k) n slow.leads.line.to_port way.outlet (line_opening plan slow.k (Some slow.leads.line))) slow.leads.to way.way) in
            record {
              switch = node.state;
              is_switch = node.is;
              from = slow.leads.line.from;
              from_port = slow.leads.line.from_port;
              by = line_process plan slow.k;
              outlet = way.outlet;
              line = line_opening plan slow.k (Some slow.leads.line);
              from_inside = way.from_below;
              by_inside = way.line_below;
              way = there;
              slower = (let le = slow.slower in let same = way.byte_ns in omega (arith, le, same));
              most = greatest_at port j high;
              costs = costs-are plan accepted known size line.from from-there all line.byte_ns line.from_port (gaps_in choice) (comes (is_end_system plan.nodes line.from) j high) (is_end_system plan.nodes line.from) (passings known plan line.from line.from_port) (λ x h. h) (greatest_at port j high) (omega arith);
              burst = rw e refl;
              rate = rw e refl;
            }

    group-is : (j : ℕ) → j < PORTS → IsGroup (setting_of plan) line.from size line.byte_ns SCALE WHOLE (group_at port choice high j)
    group-is j lt = record {
      weight = weight-most choice j (share_at port (gaps_in choice) j high);
      by_line = λ some. by-line j lt (is_bounding port j) refl some;
      flows = flows-are plan accepted known size line.from from-there all line.from_port line.byte_ns (gaps_in choice) (comes (is_end_system plan.nodes line.from) j high) (passings known plan line.from line.from_port) (λ x h. h);
    }

    groups-are : (n : ℕ) → n ≤ PORTS → Every (IsGroup (setting_of plan) line.from size line.byte_ns SCALE WHOLE) (groups_below port choice high n)
    groups-are zero le = tt
    groups-are (suc j) le = (group-is j (omega arith), groups-are j (omega arith))

    line-among : (input n : ℕ) → input < n → IsAmong input (group_lines (groups_below port choice high n))
    line-among input zero lt = absurd (omega (arith, lt))
    line-among input (suc j) lt = go (input == j) refl (line-among input j)
      where
        go : (b : Bool) → (input == j) ≡ b → (input < j → IsAmong input (group_lines (groups_below port choice high j))) → (input ≡ j) ⊎ IsAmong input (group_lines (groups_below port choice high j))
        go true e later = inl (eqb-true input j e)
        go false e later = inr (later (grind (arith, nat_tests)))

  module _ (choice : Choice) (priority : Priority) where
    link-among : (v input : ℕ) → IsCounted plan line.from line.from_port v input priority → (n : ℕ) → Every (λ g. input ≡ g.line → IsAmong v (links_of g.flows)) (groups_below port choice (is_high_put priority) n)
    link-among v input h zero = tt
    link-among v input h (suc j) = (here, link-among v input h j)
      where
        passing : Passing
        passing = passed known plan line.from h.vl

        here : input ≡ j → IsAmong v (links_of (flows_at port (gaps_in choice) j (is_high_put priority)))
        here same =
            let at : (input_of plan line.from h.vl.link.id.0 == j) ≡ true = eq-eqb _ _ (sym h.comes_in ∙ same) in
            let first : are_same (is_first (is_end_system plan.nodes line.from) h.vl.link) (is_high_put priority) ≡ true = ap (λ b. are_same b (is_high_put priority)) h.first ∙ same-is (is_high_put priority) in
            subst (λ n. IsAmong n (links_of (flows_at port (gaps_in choice) j (is_high_put priority)))) h.id
            (flow-among plan accepted line.byte_ns (gaps_in choice) (comes (is_end_system plan.nodes line.from) j (is_high_put priority)) (is_end_system plan.nodes line.from) (passings known plan line.from line.from_port) (passed known plan line.from h.vl)
            (leaves-passed plan accepted known line.from line.from_port h.vl h.leaves) (rw at first))

    pub are-groups : (outlet : Outlet) → outlet.ahead.byte_ns ≡ line.byte_ns
        → AreGroups (setting_of plan) size line.from line.from_port outlet SCALE WHOLE priority (groups_below port choice (is_high_put priority) PORTS)
    are-groups outlet byte = record {
      each = subst (λ n. Every (IsGroup (setting_of plan) line.from size n SCALE WHOLE) (groups_below port choice (is_high_put priority) PORTS)) (sym byte) (groups-are choice (is_high_put priority) PORTS (omega arith));
      listed = λ v input through. (let h = counted plan accepted line.from line.from_port v input priority from-there through in record {
        line_in = line-among choice (is_high_put priority) input PORTS (subst (λ n. n < PORTS) (sym h.comes_in) (input-below plan accepted k line read h.vl.link.id.0));
        link_in = link-among v input h PORTS;
      });
    }
