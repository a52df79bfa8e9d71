-- The ways of a virtual link at a node, against its paths.
use Rattle.std.proofs.Common.{◌≡◌, ℕ, Bool, true, false, cond, ◌==◌, ◌++◌, Option, Some, None, refl, ap, sym, ◌∙◌, subst, arith, slice_get, Contains, option_and_then, option_to_list, eqb-true}
use Rattle.std.proofs.lemmas.Option.{none-some, same_Some}
use Rattle.std.proofs.lemmas.Bool.Decides.{nat_tests}
use Rattle.vlink.specs.declared.frame.Net.{Net}
use Rattle.vlink.specs.declared.frame.VlId.{VlId}
use Rattle.network.specs.declared.wiring.LinePlan.{LinePlan}
use Rattle.network.specs.declared.wiring.Way.{Way}
use Rattle.network.specs.Words.{Plan, VlPlan, all_hops, lines_of, line_between, lines_over, route_over, out_at, in_at, ways_over, leaves, comes_in, arrivals_of, departures_of}
use Rattle.network_tables.specs.PortLaws.{IsInput, IsOutput, Precedes, Faces, FacesPredecessor, FacesSuccessor, IsArrival, IsDeparture}
use Rattle.network_faults.proofs.MemberLemmas.{Has, has-from_contains, contains-from_has, has-option, option-has, has-flat_map, flat_map-has, has-rising, rising-has}
use Rattle.network_tables.proofs.HopLemmas.{hop, hop-of-both, both-of-hop}
use Rattle.network_faults.proofs.JoinLemmas.{link_between-flip}
use Rattle.network_tables.proofs.LineLemmas.{AreLinks, line-of, has-line, faced-place, one-port}

-- the virtual link goes over this line, whose ports face its nodes
record IsOver (plan : Plan) (vl : VlPlan) (line : LinePlan) : Type 0 where
  net : Net
  precedes : Precedes net vl line.from line.to
  out : Faces plan line.from line.from_port line.to
  in' : Faces plan line.to line.to_port line.from

-- a way is made of such a line
record IsWayOver (plan : Plan) (vl : VlPlan) (at : LinePlan → Option Way) (way : Way) : Type 0 where
  line : LinePlan
  over : IsOver plan vl line
  made : at line ≡ Some way

module _ (plan : Plan) (vl : VlPlan) (at : LinePlan → Option Way) where
  way-over : (way : Way) → Has (ways_over at (lines_of plan) (route_over plan.links vl)) way → IsWayOver plan vl at way
  way-over way there =
      let (k, on_route, made) = flat_map-has (λ k. option_to_list (option_and_then at (slice_get (lines_of plan) k))) (route_over plan.links vl) way there in
      let (s, taken, over) = flat_map-has (lines_over plan.links) (all_hops vl.a ++ all_hops vl.b) k (rising-has _ k on_route) in
      let is_hop = both-of-hop vl s taken in
      let is_line = line-of plan s.from s.to k (option-has (line_between plan.links s.from s.to) k over) in
      let found : option_and_then at (slice_get (lines_of plan) k) ≡ Some way = option-has (option_and_then at (slice_get (lines_of plan) k)) way made in
      record {
        line = is_line.line;
        over = record {
          net = is_hop.net;
          precedes = subst (λ n. Precedes is_hop.net vl is_line.line.from n) (sym is_line.to) (subst (λ n. Precedes is_hop.net vl n s.to) (sym is_line.from) is_hop.precedes);
          out = subst (λ n. Faces plan is_line.line.from is_line.line.from_port n) (sym is_line.to) (subst (λ n. Faces plan n is_line.line.from_port s.to) (sym is_line.from) is_line.out);
          in' = subst (λ n. Faces plan is_line.line.to is_line.line.to_port n) (sym is_line.from) (subst (λ n. Faces plan n is_line.line.to_port s.from) (sym is_line.to) is_line.in');
        };
        made = ap (option_and_then at) (sym is_line.read) ∙ found;
      }

  over-way : (net : Net) (x y k : ℕ) (way : Way) → Precedes net vl x y → line_between plan.links x y ≡ Some k → option_and_then at (slice_get (lines_of plan) k) ≡ Some way
      → Has (ways_over at (lines_of plan) (route_over plan.links vl)) way
  over-way net x y k way precedes between made =
      let on_route : Has (route_over plan.links vl) k =
      has-rising _ k (has-flat_map (lines_over plan.links) (all_hops vl.a ++ all_hops vl.b) (hop x y) k (hop-of-both net vl x y precedes) (has-option (line_between plan.links x y) k between)) in
      has-flat_map (λ k. option_to_list (option_and_then at (slice_get (lines_of plan) k))) (route_over plan.links vl) k way on_route
      (has-option (option_and_then at (slice_get (lines_of plan) k)) way made)

-- ---- the two ends of a line

abbrev way : VlId → ℕ → Way
way id port = record { vl = id; port = port }

-- the way at one end of a line, where that is the node
abbrev end_way : ℕ → VlId → ℕ → ℕ → Option Way
end_way node id end port = cond (end == node) (Some (way id port)) None

there-is : (node : ℕ) (id : VlId) (end q port : ℕ) → end_way node id end q ≡ Some (way id port) → (end ≡ node) × (q ≡ port)
there-is node id end q port h = go (end == node) refl h
  where
    go : (b : Bool) → (end == node) ≡ b → cond b (Some (way id q)) None ≡ Some (way id port) → (end ≡ node) × (q ≡ port)
    go true e made = (eqb-true end node e, ap (λ (w : Way). w.port) (same_Some (way id q) (way id port) made))
    go false e made = absurd (none-some _ made)

is-there : (node : ℕ) (id : VlId) (end q port : ℕ) → end ≡ node → q ≡ port → end_way node id end q ≡ Some (way id port)
is-there node id end q port end_is port_is = let same : (end == node) ≡ true = grind (arith, nat_tests) in rw (same, port_is) refl

way-own : (node : ℕ) (id : VlId) (end q : ℕ) (w : Way) → end_way node id end q ≡ Some w → w ≡ way id w.port
way-own node id end q w h = go (end == node) h
  where
    go : (b : Bool) → cond b (Some (way id q)) None ≡ Some w → w ≡ way id w.port
    go true made = let same = same_Some (way id q) w made in sym same ∙ ap (λ (u : Way). way id u.port) same
    go false made = absurd (none-some w made)

module _ (plan : Plan) (vl : VlPlan) (node port : ℕ) where
  pub input-faces : IsInput plan vl node port → FacesPredecessor plan vl node port
  input-faces there =
      let w = way-over plan vl (in_at node vl.link.id) (way vl.link.id port) (has-from_contains (comes_in node (lines_of plan) plan.links vl) _ there) in
      let (to_is, port_is) = there-is node vl.link.id w.line.to w.line.to_port port w.made in
      record {
        net = w.over.net;
        predecessor = w.line.from;
        precedes = subst (λ n. Precedes w.over.net vl w.line.from n) to_is w.over.precedes;
        faces = subst (λ q. Faces plan node q w.line.from) port_is (subst (λ n. Faces plan n w.line.to_port w.line.from) to_is w.over.in');
      }

  pub output-faces : IsOutput plan vl node port → FacesSuccessor plan vl node port
  output-faces there =
      let w = way-over plan vl (out_at node vl.link.id) (way vl.link.id port) (has-from_contains (leaves node (lines_of plan) plan.links vl) _ there) in
      let (from_is, port_is) = there-is node vl.link.id w.line.from w.line.from_port port w.made in
      record {
        net = w.over.net;
        successor = w.line.to;
        precedes = subst (λ n. Precedes w.over.net vl n w.line.to) from_is w.over.precedes;
        faces = subst (λ q. Faces plan node q w.line.to) port_is (subst (λ n. Faces plan n w.line.from_port w.line.to) from_is w.over.out);
      }

  module _ (links : AreLinks plan) where
    pub faces-input : FacesPredecessor plan vl node port → IsInput plan vl node port
    faces-input f =
        let place = link_between-flip plan.links f.predecessor node ∙ faced-place plan node port f.predecessor links f.faces in
        let (k, between) = has-line plan f.predecessor node _ place in
        let l = line-of plan f.predecessor node k between in
        let made = ap (option_and_then (in_at node vl.link.id)) l.read ∙ is-there node vl.link.id l.line.to l.line.to_port port l.to (one-port plan node l.line.to_port port f.predecessor links l.in' f.faces) in
        contains-from_has (comes_in node (lines_of plan) plan.links vl) _
        (over-way plan vl (in_at node vl.link.id) f.net f.predecessor node k (way vl.link.id port) f.precedes between made)

    pub faces-output : FacesSuccessor plan vl node port → IsOutput plan vl node port
    faces-output f =
        let place = faced-place plan node port f.successor links f.faces in
        let (k, between) = has-line plan node f.successor _ place in
        let l = line-of plan node f.successor k between in
        let made = ap (option_and_then (out_at node vl.link.id)) l.read ∙ is-there node vl.link.id l.line.from l.line.from_port port l.from (one-port plan node l.line.from_port port f.successor links l.out f.faces) in
        contains-from_has (leaves node (lines_of plan) plan.links vl) _
        (over-way plan vl (out_at node vl.link.id) f.net node f.successor k (way vl.link.id port) f.precedes between made)

-- ---- the tables of a node

module _ (plan : Plan) (node : ℕ) (w : Way) where
  pub arrival-faces : Contains (arrivals_of plan node) w → IsArrival plan node w
  arrival-faces there =
      let (vl, is_vl, comes) = flat_map-has (comes_in node (lines_of plan) plan.links) plan.vls w (has-from_contains (arrivals_of plan node) w there) in
      let over = way-over plan vl (in_at node vl.link.id) w comes in
      let own : w ≡ way vl.link.id w.port = way-own node vl.link.id over.line.to over.line.to_port w over.made in
      record {
        vl = vl;
        is_vl = contains-from_has plan.vls vl is_vl;
        id = ap (λ (u : Way). u.vl) own;
        faces = input-faces plan vl node w.port (contains-from_has (comes_in node (lines_of plan) plan.links vl) _ (subst (Has (comes_in node (lines_of plan) plan.links vl)) own comes));
      }

  pub departure-faces : Contains (departures_of plan node) w → IsDeparture plan node w
  departure-faces there =
      let (vl, is_vl, goes_out) = flat_map-has (leaves node (lines_of plan) plan.links) plan.vls w (has-from_contains (departures_of plan node) w there) in
      let over = way-over plan vl (out_at node vl.link.id) w goes_out in
      let own : w ≡ way vl.link.id w.port = way-own node vl.link.id over.line.from over.line.from_port w over.made in
      record {
        vl = vl;
        is_vl = contains-from_has plan.vls vl is_vl;
        id = ap (λ (u : Way). u.vl) own;
        faces = output-faces plan vl node w.port (contains-from_has (leaves node (lines_of plan) plan.links vl) _ (subst (Has (leaves node (lines_of plan) plan.links vl)) own goes_out));
      }

  module _ (links : AreLinks plan) where
    pub faces-arrival : IsArrival plan node w → Contains (arrivals_of plan node) w
    faces-arrival a =
        let own : w ≡ way a.vl.link.id w.port = ap (λ id. way id w.port) a.id in
        let comes = has-from_contains (comes_in node (lines_of plan) plan.links a.vl) _ (faces-input plan a.vl node w.port links a.faces) in
        contains-from_has (arrivals_of plan node) w
        (has-flat_map (comes_in node (lines_of plan) plan.links) plan.vls a.vl w (has-from_contains plan.vls a.vl a.is_vl) (subst (Has (comes_in node (lines_of plan) plan.links a.vl)) (sym own) comes))

    pub faces-departure : IsDeparture plan node w → Contains (departures_of plan node) w
    faces-departure d =
        let own : w ≡ way d.vl.link.id w.port = ap (λ id. way id w.port) d.id in
        let goes_out = has-from_contains (leaves node (lines_of plan) plan.links d.vl) _ (faces-output plan d.vl node w.port links d.faces) in
        contains-from_has (departures_of plan node) w
        (has-flat_map (leaves node (lines_of plan) plan.links) plan.vls d.vl w (has-from_contains plan.vls d.vl d.is_vl) (subst (Has (leaves node (lines_of plan) plan.links d.vl)) (sym own) goes_out))
