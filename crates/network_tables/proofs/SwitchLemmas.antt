-- One input port at a switch, and the ports of end systems, where the paths of a virtual link are trees.
use Rattle.std.proofs.Common.{◌≡◌, ℕ, Bool, true, false, cond, ◌==◌, ◌&&◌, ◌||◌, List, Option, Some, None, refl, sym, ◌∙◌, subst, slice_get}
use Rattle.std.proofs.lemmas.Bool.{false≢true}
use Rattle.vlink.specs.declared.frame.Net.{Net}
use Rattle.vlink.specs.declared.frame.Net.TheVariants.{A, B}
use Rattle.row_types.specs.declared.rows.NodeKind.{NodeKind}
use Rattle.row_types.specs.declared.rows.NodeKind.TheVariants.{EndSystem, Switch}
use Rattle.network.specs.declared.wiring.Link.{Link}
use Rattle.network.specs.Words.{Plan, NodePlan, VlPlan, passes, is_same_net, is_switch_kind, is_end_system, is_switch_of, is_linked, is_no_link, goes, is_bad_path, is_no_tree, has_other_way, all_hops, is_gap, has_gap}
use Rattle.network_tables.specs.PortLaws.{paths_on, IsInput, Precedes, Faces, GoesThrough, ExactlyOne, port_for}
use Rattle.network_faults.proofs.MemberLemmas.{Has, has-from_contains}
use Rattle.network.proofs.BuildLemmas.{not-false}
use Rattle.network_faults.proofs.JoinLemmas.{goes-true}
use Rattle.network_tables.proofs.HopLemmas.{hop, hop-on, or-left, or-right, none-has, is-switch, has-predecessor, from-there, to-there, one-way}
use Rattle.network_tables.proofs.LineLemmas.{AreLinks, IsLineOf, line-of, has-line, linked-place, one-port}
use Rattle.network_tables.proofs.RouteLemmas.{input-faces, faces-input}

-- ---- a switch is of one network

same-net : (own one two : Net) → is_same_net own one ≡ true → is_same_net own two ≡ true → one ≡ two
same-net A A A h k = refl
same-net A A B h k = absurd (false≢true k)
same-net A B two h k = absurd (false≢true h)
same-net B A two h k = absurd (false≢true h)
same-net B B A h k = absurd (false≢true k)
same-net B B B h k = refl

same-kind : (kind : NodeKind) (one two : Net) → is_switch_kind one kind ≡ true → is_switch_kind two kind ≡ true → one ≡ two
same-kind EndSystem one two h k = absurd (false≢true h)
same-kind (Switch own latency_ns) one two h k = same-net own one two h k

one-network : (nodes : List NodePlan) (x : ℕ) (one two : Net) → is_switch_of nodes one x ≡ true → is_switch_of nodes two x ≡ true → one ≡ two
one-network nodes x one two h k = go (slice_get nodes x) h k
  where
    go : (o : Option NodePlan) → passes (λ node. is_switch_kind one node.kind) o ≡ true → passes (λ node. is_switch_kind two node.kind) o ≡ true → one ≡ two
    go None h k = absurd (false≢true h)
    go (Some node) h k = same-kind node.kind one two h k

-- ---- paths without a fault

-- the paths of the virtual link are trees along links
pub record IsRouted (plan : Plan) (vl : VlPlan) : Type 0 where
  pub trees : (net : Net) → is_no_tree plan.nodes net (paths_on net vl) ≡ false
  pub linked : (net : Net) → has_gap plan.links (paths_on net vl) ≡ false

module _ (plan : Plan) (vl : VlPlan) (routed : IsRouted plan vl) (net : Net) where
  good : (path : List ℕ) → Has (paths_on net vl) path → is_bad_path plan.nodes net path ≡ false
  good path there = none-has (is_bad_path plan.nodes net) (paths_on net vl) path (or-left _ _ (or-left _ _ (or-left _ _ (routed.trees net)))) there

  tree : has_other_way (all_hops (paths_on net vl)) ≡ false
  tree = or-right _ (has_other_way (all_hops (paths_on net vl))) (routed.trees net)

  switch-from : (x y : ℕ) → Precedes net vl x y → is_end_system plan.nodes x ≡ false → is_switch_of plan.nodes net x ≡ true
  switch-from x y precedes no_end =
      is-switch plan.nodes net precedes.path (good precedes.path (has-from_contains _ _ precedes.is_path)) x (from-there precedes.path x y precedes.neighbours) no_end

  switch-to : (x y : ℕ) → Precedes net vl x y → is_end_system plan.nodes y ≡ false → is_switch_of plan.nodes net y ≡ true
  switch-to x y precedes no_end =
      is-switch plan.nodes net precedes.path (good precedes.path (has-from_contains _ _ precedes.is_path)) y (to-there precedes.path x y precedes.neighbours) no_end

  one-predecessor : (x z y : ℕ) → Precedes net vl x y → Precedes net vl z y → x ≡ z
  one-predecessor x z y one other = one-way (all_hops (paths_on net vl)) (hop x y) (hop z y) tree (hop-on net vl x y one) (hop-on net vl z y other) refl

  neighbour-line : (x y : ℕ) → Precedes net vl x y → (k : ℕ) × IsLineOf plan x y k
  neighbour-line x y precedes =
      let linked : is_linked plan.links x y ≡ true = not-false _ (none-has (is_gap plan.links) (all_hops (paths_on net vl)) (hop x y) (routed.linked net) (hop-on net vl x y precedes)) in
      let (place, between) = linked-place plan.links x y linked in
      let (k, is_between) = has-line plan x y place between in
      (k, line-of plan x y k is_between)

-- ---- one input port

pub one-input : (plan : Plan) (vl : VlPlan) (node : ℕ) → AreLinks plan → IsRouted plan vl → GoesThrough plan vl node → ExactlyOne (IsInput plan vl node)
one-input plan vl node links routed through =
    let is_path = has-from_contains (paths_on through.net vl) through.path through.is_path in
    let is_good = good plan vl routed through.net through.path is_path in
    let (from, next) = has-predecessor plan.nodes through.net through.path is_good node (has-from_contains through.path node through.on_path) through.switch in
    let precedes : Precedes through.net vl from node = record { path = through.path; is_path = through.is_path; neighbours = next } in
    let (k, l) = neighbour-line plan vl routed through.net from node precedes in
    record {
      one = l.line.to_port;
      is = faces-input plan vl node l.line.to_port links (record { net = through.net; predecessor = from; precedes = precedes; faces = l.in' });
      only = λ other there.
          (let f = input-faces plan vl node other there in
          let net_is : f.net ≡ through.net = one-network plan.nodes node f.net through.net (switch-to plan vl routed f.net f.predecessor node f.precedes through.switch) (switch-to plan vl routed through.net from node precedes through.switch) in
          let from_is : f.predecessor ≡ from = one-predecessor plan vl routed through.net f.predecessor from node (subst (λ n. Precedes n vl f.predecessor node) net_is f.precedes) precedes in
          one-port plan node other l.line.to_port from links (subst (λ n. Faces plan node other n) from_is f.faces) l.in');
    }

-- ---- the ports of end systems

not-two-ends : (nodes : List NodePlan) (earlier : List Link) (link : Link) → is_no_link nodes earlier link ≡ false → (is_end_system nodes link.a && is_end_system nodes link.b) ≡ false
not-two-ends nodes earlier link h =
    or-right (link.a == link.b) (is_end_system nodes link.a && is_end_system nodes link.b) (or-left _ _ (or-left _ _ (or-left _ _ (or-left _ _ h))))

-- the other end of a link of an end system is no end system
other-end : (plan : Plan) (x port y : ℕ) → AreLinks plan → is_end_system plan.nodes x ≡ true → Faces plan x port y → is_end_system plan.nodes y ≡ false
other-end plan x port y links end faces = go (goes x y faces.link) refl (goes y x faces.link) refl faces.joined
  where
    ends : (is_end_system plan.nodes faces.link.a && is_end_system plan.nodes faces.link.b) ≡ false
    ends = not-two-ends plan.nodes faces.earlier faces.link (links faces.earlier faces.link faces.later faces.links).may

    first : (a b : Bool) → (a && b) ≡ false → a ≡ true → b ≡ false
    first true b h k = h
    first false b h k = absurd (false≢true k)

    second : (a b : Bool) → (a && b) ≡ false → b ≡ true → a ≡ false
    second true b h k = absurd (false≢true (sym h ∙ k))
    second false b h k = refl

    go : (one : Bool) → goes x y faces.link ≡ one → (two : Bool) → goes y x faces.link ≡ two → (one || two) ≡ true → is_end_system plan.nodes y ≡ false
    go true e two f h = let same = goes-true x y faces.link e in
        subst (λ n. is_end_system plan.nodes n ≡ false) same.1 (first _ _ ends (subst (λ n. is_end_system plan.nodes n ≡ true) (sym same.0) end))
    go false e true f h = let same = goes-true y x faces.link f in
        subst (λ n. is_end_system plan.nodes n ≡ false) same.0 (second _ _ ends (subst (λ n. is_end_system plan.nodes n ≡ true) (sym same.1) end))
    go false e false f h = absurd (false≢true h)

end-port : (plan : Plan) (net : Net) (x port y : ℕ) → is_end_system plan.nodes x ≡ true → is_switch_of plan.nodes net y ≡ true → Faces plan x port y → port ≡ port_for net
end-port plan net x port y end switch faces = faces.number ∙ rw end (go net switch (is_switch_of plan.nodes A y) refl)
  where
    go : (net : Net) → is_switch_of plan.nodes net y ≡ true → (on_a : Bool) → is_switch_of plan.nodes A y ≡ on_a → cond on_a 0 1 ≡ port_for net
    go A switch true e = refl
    go A switch false e = absurd (false≢true (sym e ∙ switch))
    go B switch true e = let same : A ≡ B = one-network plan.nodes y A B e switch in absurd (cc)
    go B switch false e = refl

pub from-network : (plan : Plan) (vl : VlPlan) (net : Net) (node port other : ℕ) → IsRouted plan vl → AreLinks plan → is_end_system plan.nodes node ≡ true → Precedes net vl other node → Faces plan node port other → port ≡ port_for net
from-network plan vl net node port other routed links end precedes faces =
    end-port plan net node port other end (switch-from plan vl routed net other node precedes (other-end plan node port other links end faces)) faces

pub to-network : (plan : Plan) (vl : VlPlan) (net : Net) (node port other : ℕ) → IsRouted plan vl → AreLinks plan → is_end_system plan.nodes node ≡ true → Precedes net vl node other → Faces plan node port other → port ≡ port_for net
to-network plan vl net node port other routed links end precedes faces =
    end-port plan net node port other end (switch-to plan vl routed net node other precedes (other-end plan node port other links end faces)) faces
