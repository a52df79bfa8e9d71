-- No two lines of an accepted network leave a node by one port, and no two come to a node by one.
use Rattle.std.proofs.Common.{◌≡◌, ℕ, zero, suc, ◌+◌, ◌<◌, ◌≤◌, ◌==◌, ◌&&◌, ◌||◌, Bool, true, false, cond, nat_lt, List, [], ◌∷◌, ◌++◌, length, count_by, Option, Some, None, inl, inr, refl, ap, sym, ◌∙◌, subst, arith, slice_get, eq-eqb}
use Rattle.std.specs.List.{AllByRecursion, list_any}
use Rattle.std.proofs.lemmas.Bool.{cases_lt, false≢true}
use Rattle.std.proofs.lemmas.Bool.Decides.{nat_tests}
use Rattle.std.proofs.lemmas.List.Folds.{list_any-append}
use Rattle.std.proofs.lemmas.List.Sums.{sum_by-append}
use Rattle.std.proofs.lemmas.Option.{none-some, same_Some}
use Rattle.vlink.specs.declared.frame.Net.{Net}
use Rattle.vlink.specs.declared.frame.Net.TheVariants.{A, B}
use Rattle.row_types.specs.declared.rows.NodeKind.{NodeKind}
use Rattle.row_types.specs.declared.rows.NodeKind.TheVariants.{EndSystem, Switch}
use Rattle.network.specs.declared.wiring.Link.{Link}
use Rattle.network.specs.declared.wiring.LinePlan.{LinePlan}
use Rattle.network.specs.Words.{IsAccepted, NodePlan, Plan, directions, double_names, each, each_after, is_end_kind, is_end_system, is_no_link, is_switch_kind, is_switch_of, leads, lines_of, no_link_at_link, no_link_at_outage, no_link_at_vl, not_links, passes, plan_of, port_at, too_many, touches, unknown_names}
use Rattle.network.specs.Wiring.{is_second}
use Rattle.network.proofs.BuildLemmas.{BothEnds, behind-none, ends-below, front-none, when-none}
use Rattle.plan_ports.specs.Outlets.{HaveOwnPorts}
use Rattle.plan_ports.proofs.Ahead.{none-past}

or-left : (a b : Bool) → (a || b) ≡ false → a ≡ false
or-left true b h = absurd (false≢true (sym h))
or-left false b h = refl

or-right : (a b : Bool) → (a || b) ≡ false → b ≡ false
or-right true b h = absurd (false≢true (sym h))
or-right false b h = h

or-last : (a b : Bool) → b ≡ true → (a || b) ≡ true
or-last true b h = refl
or-last false b h = h

both : (a b : Bool) → a ≡ true → b ≡ true → (a && b) ≡ true
both true b h k = k
both false b h k = h

no-first : (a b : Bool) → (a && b) ≡ false → b ≡ true → a ≡ false
no-first true b h k = absurd (false≢true (sym h ∙ k))
no-first false b h k = refl

no-and : (a b : Bool) → (a && b) ≡ false → a ≡ true → b ≡ false
no-and true b h k = h
no-and false b h k = absurd (false≢true k)

same-true : (n : ℕ) → (n == n) ≡ true
same-true n = eq-eqb n n refl

-- ---- which ports of a node links have

-- one of these links has the port of the node
abbrev taken : List NodePlan → List Link → ℕ → ℕ → Bool
taken nodes links n p =
    cond (is_end_system nodes n) (cond (p == 0) (list_any (leads nodes A n) links) (list_any (leads nodes B n) links)) (nat_lt p (count_by (touches n) links))

-- one more link leaves them so
stays : (nodes : List NodePlan) (links : List Link) (link : Link) (n p : ℕ) → taken nodes (links ++ link ∷ []) n p ≡ false → taken nodes links n p ≡ false
stays nodes links link n p = go (is_end_system nodes n) (p == 0)
  where
    none : (net : Net) → list_any (leads nodes net n) (links ++ link ∷ []) ≡ false → list_any (leads nodes net n) links ≡ false
    none net h = or-left _ _ (sym (list_any-append (leads nodes net n) links (link ∷ [])) ∙ h)

    go : (end first : Bool) → cond end (cond first (list_any (leads nodes A n) (links ++ link ∷ [])) (list_any (leads nodes B n) (links ++ link ∷ []))) (nat_lt p (count_by (touches n) (links ++ link ∷ []))) ≡ false
        → cond end (cond first (list_any (leads nodes A n) links) (list_any (leads nodes B n) links)) (nat_lt p (count_by (touches n) links)) ≡ false
    go true true h = none A h
    go true false h = none B h
    go false first h = let more = sum_by-append (λ (l : Link). cond (touches n l) 1 0) links (link ∷ []) in
        let small : count_by (touches n) links ≤ count_by (touches n) (links ++ link ∷ []) = omega (arith, more) in
        grind (arith, nat_tests)

-- ---- the two lines of a link, and the node and the port that they leave, or to which they come

abbrev end_at : Bool → LinePlan → ℕ
end_at true line = line.from
end_at false line = line.to

abbrev port_by : Bool → LinePlan → ℕ
port_by true line = line.from_port
port_by false line = line.to_port

abbrev forth : List NodePlan → List Link → Link → LinePlan
forth nodes earlier link = record {
  from = link.a;
  from_port = port_at nodes earlier link.a link.b;
  to = link.b;
  to_port = port_at nodes earlier link.b link.a;
  byte_ns = link.byte_ns;
  propagation_ns = link.propagation_ns;
}

abbrev back : List NodePlan → List Link → Link → LinePlan
back nodes earlier link = forth nodes earlier (record link { a = link.b; b = link.a })

-- ---- the two ends of a link that may be

-- the link behind these leads from this end of it to the other
record IsGoodEnd (nodes : List NodePlan) (earlier : List Link) (link : Link) (x y : ℕ) : Type 0 where
  touched : touches x link ≡ true
  led : (net : Net) → is_switch_of nodes net y ≡ true → leads nodes net x link ≡ true
  first : (net : Net) → is_end_system nodes x ≡ true → is_switch_of nodes net y ≡ true → list_any (leads nodes net x) earlier ≡ false
  on_b : is_end_system nodes x ≡ true → is_switch_of nodes A y ≡ false → is_switch_of nodes B y ≡ true

module _ (nodes : List NodePlan) (earlier : List Link) (link : Link) (x y : ℕ) (good : IsGoodEnd nodes earlier link x y) where
  -- no earlier link has its port
  free-before : taken nodes earlier x (port_at nodes earlier x y) ≡ false
  free-before = go (is_end_system nodes x) refl (is_switch_of nodes A y) refl
    where
      go : (end : Bool) → is_end_system nodes x ≡ end → (a : Bool) → is_switch_of nodes A y ≡ a
          → cond end (cond (cond end (cond a 0 1) (count_by (touches x) earlier) == 0) (list_any (leads nodes A x) earlier) (list_any (leads nodes B x) earlier)) (nat_lt (cond end (cond a 0 1) (count_by (touches x) earlier)) (count_by (touches x) earlier)) ≡ false
      go true e true f = good.first A e f
      go true e false f = good.first B e (good.on_b e f)
      go false e a f = grind (arith, nat_tests)

  -- and then it is taken
  taken-then : taken nodes (earlier ++ link ∷ []) x (port_at nodes earlier x y) ≡ true
  taken-then = go (is_end_system nodes x) refl (is_switch_of nodes A y) refl
    where
      by : (net : Net) → is_switch_of nodes net y ≡ true → list_any (leads nodes net x) (earlier ++ link ∷ []) ≡ true
      by net h = list_any-append (leads nodes net x) earlier (link ∷ []) ∙ or-last (list_any (leads nodes net x) earlier) (list_any (leads nodes net x) (link ∷ [])) (rw (good.led net h) refl)

      go : (end : Bool) → is_end_system nodes x ≡ end → (a : Bool) → is_switch_of nodes A y ≡ a
          → cond end (cond (cond end (cond a 0 1) (count_by (touches x) earlier) == 0) (list_any (leads nodes A x) (earlier ++ link ∷ [])) (list_any (leads nodes B x) (earlier ++ link ∷ [])))
          (nat_lt (cond end (cond a 0 1) (count_by (touches x) earlier)) (count_by (touches x) (earlier ++ link ∷ []))) ≡ true
      go true e true f = by A f
      go true e false f = by B (good.on_b e f)
      go false e a f =
          let one : count_by (touches x) (link ∷ []) ≡ 1 = rw good.touched refl in
          let more = sum_by-append (λ (l : Link). cond (touches x l) 1 0) earlier (link ∷ []) in
          let count : count_by (touches x) (earlier ++ link ∷ []) ≡ count_by (touches x) earlier + 1 = omega (arith, more, one) in
          grind (arith, nat_tests)

-- a node that is there is a switch of B where it is none of A and no end system
other-net : (nodes : List NodePlan) (y : ℕ) → y < length nodes → is_end_system nodes y ≡ false → is_switch_of nodes A y ≡ false → is_switch_of nodes B y ≡ true
other-net nodes y below no_end not_a = go (slice_get nodes y) refl no_end not_a
  where
    at : (kind : NodeKind) → is_end_kind kind ≡ false → is_switch_kind A kind ≡ false → is_switch_kind B kind ≡ true
    at EndSystem h k = absurd (false≢true (sym h))
    at (Switch A latency_ns) h k = absurd (false≢true (sym k))
    at (Switch B latency_ns) h k = refl

    go : (o : Option NodePlan) → slice_get nodes y ≡ o → passes (λ node. is_end_kind node.kind) o ≡ false → passes (λ node. is_switch_kind A node.kind) o ≡ false → passes (λ node. is_switch_kind B node.kind) o ≡ true
    go None there h k = absurd (omega (arith, below, none-past nodes y there))
    go (Some node) there h k = at node.kind h k

module _ (nodes : List NodePlan) (earlier : List Link) (link : Link) (may : is_no_link nodes earlier link ≡ false) (ends : (link.a < length nodes) × (link.b < length nodes)) where
  not-self : (link.a == link.b) ≡ false
  not-self = or-left _ _ (or-left _ _ (or-left _ _ (or-left _ _ (or-left _ _ may))))

  not-two : (is_end_system nodes link.a && is_end_system nodes link.b) ≡ false
  not-two = or-right (link.a == link.b) _ (or-left _ _ (or-left _ _ (or-left _ _ (or-left _ _ may))))

  not-second : (net : Net) → is_second nodes net earlier link ≡ false
  not-second A = or-right _ (is_second nodes A earlier link) (or-left _ (is_second nodes B earlier link) may)
  not-second B = or-right _ (is_second nodes B earlier link) may

  good-a : IsGoodEnd nodes earlier link link.a link.b
  good-a = record {
    touched = rw (same-true link.a) refl;
    led = λ net h. rw (same-true link.a, h) refl;
    first = λ net e h. no-and (is_end_system nodes link.a && is_switch_of nodes net link.b) _ (or-left _ _ (not-second net)) (both _ _ e h);
    on_b = λ e h. other-net nodes link.b ends.1 (no-and (is_end_system nodes link.a) _ not-two e) h;
  }

  good-b : IsGoodEnd nodes earlier link link.b link.a
  good-b = record {
    touched = or-last (link.a == link.b) (link.b == link.b) (same-true link.b);
    led = λ net h. or-last ((link.a == link.b) && is_switch_of nodes net link.b) ((link.b == link.b) && is_switch_of nodes net link.a) (both _ _ (same-true link.b) h);
    first = λ net e h. no-and (is_end_system nodes link.b && is_switch_of nodes net link.a) _ (or-right _ _ (not-second net)) (both _ _ e h);
    on_b = λ e h. other-net nodes link.a ends.0 (no-first (is_end_system nodes link.a) (is_end_system nodes link.b) not-two e) h;
  }

  -- ---- its two lines, at the nodes that they leave, or to which they come

  free-first : (out : Bool) → taken nodes earlier (end_at out (forth nodes earlier link)) (port_by out (forth nodes earlier link)) ≡ false
  free-first true = free-before nodes earlier link link.a link.b good-a
  free-first false = free-before nodes earlier link link.b link.a good-b

  free-second : (out : Bool) → taken nodes earlier (end_at out (back nodes earlier link)) (port_by out (back nodes earlier link)) ≡ false
  free-second true = free-before nodes earlier link link.b link.a good-b
  free-second false = free-before nodes earlier link link.a link.b good-a

  taken-first : (out : Bool) → taken nodes (earlier ++ link ∷ []) (end_at out (forth nodes earlier link)) (port_by out (forth nodes earlier link)) ≡ true
  taken-first true = taken-then nodes earlier link link.a link.b good-a
  taken-first false = taken-then nodes earlier link link.b link.a good-b

  taken-second : (out : Bool) → taken nodes (earlier ++ link ∷ []) (end_at out (back nodes earlier link)) (port_by out (back nodes earlier link)) ≡ true
  taken-second true = taken-then nodes earlier link link.b link.a good-b
  taken-second false = taken-then nodes earlier link link.a link.b good-a

  ends-differ : (out : Bool) → end_at out (forth nodes earlier link) ≡ end_at out (back nodes earlier link) → ⊥
  ends-differ true e = false≢true (sym not-self ∙ eq-eqb link.a link.b e)
  ends-differ false e = false≢true (sym not-self ∙ eq-eqb link.a link.b (sym e))

-- ---- all lines

module _ (nodes : List NodePlan) (out : Bool) where
  Below : Link → Type 0
  Below link = BothEnds (λ n. n < length nodes) link

  may-be : (earlier links : List Link) (link : Link) → each_after (no_link_at_link nodes) earlier (link ∷ links) ≡ [] → is_no_link nodes earlier link ≡ false
  may-be earlier links link none = when-none _ _ (front-none (no_link_at_link nodes earlier link) _ none)

  -- a line has none of the ports that the links before these have
  free-of : (earlier links : List Link) → each_after (no_link_at_link nodes) earlier links ≡ [] → AllByRecursion Below links → (k : ℕ) (line : LinePlan) → slice_get (each_after (directions nodes) earlier links) k ≡ Some line
      → taken nodes earlier (end_at out line) (port_by out line) ≡ false
  unfolding Below
  free-of earlier [] none ends k line read = absurd (none-some line read)
  free-of earlier (link ∷ links) none ends zero line read =
      subst (λ l. taken nodes earlier (end_at out l) (port_by out l) ≡ false) (same_Some (forth nodes earlier link) line read) (free-first nodes earlier link (may-be earlier links link none) ends.0 out)
  free-of earlier (link ∷ links) none ends (suc zero) line read =
      subst (λ l. taken nodes earlier (end_at out l) (port_by out l) ≡ false) (same_Some (back nodes earlier link) line read) (free-second nodes earlier link (may-be earlier links link none) ends.0 out)
  free-of earlier (link ∷ links) none ends (suc (suc k)) line read =
      stays nodes earlier link (end_at out line) (port_by out line) (free-of (earlier ++ link ∷ []) links (behind-none (no_link_at_link nodes earlier link) _ none) ends.1 k line read)

  -- one that is taken is not the port of a later line
  clash : (links : List Link) (n p : ℕ) (b : LinePlan) → taken nodes links n p ≡ true → taken nodes links (end_at out b) (port_by out b) ≡ false → n ≡ end_at out b → p ≡ port_by out b → ⊥
  clash links n p b has free end port = false≢true (sym free ∙ ap (λ m. taken nodes links m (port_by out b)) (sym end) ∙ ap (taken nodes links n) (sym port) ∙ has)

  apart : (earlier links : List Link) → each_after (no_link_at_link nodes) earlier links ≡ [] → AllByRecursion Below links → (i j : ℕ) (a b : LinePlan) → slice_get (each_after (directions nodes) earlier links) i ≡ Some a
      → slice_get (each_after (directions nodes) earlier links) j ≡ Some b → end_at out a ≡ end_at out b → port_by out a ≡ port_by out b → i < j → ⊥
  unfolding Below
  apart earlier [] none ends i j a b at by end port lt = absurd (none-some a at)
  apart earlier (link ∷ links) none ends zero (suc zero) a b at by end port lt =
      ends-differ nodes earlier link (may-be earlier links link none) ends.0 out (ap (end_at out) (same_Some (forth nodes earlier link) a at) ∙ end ∙ sym (ap (end_at out) (same_Some (back nodes earlier link) b by)))
  apart earlier (link ∷ links) none ends zero (suc (suc j)) a b at by end port lt =
      let same = same_Some (forth nodes earlier link) a at in
      clash (earlier ++ link ∷ []) (end_at out (forth nodes earlier link)) (port_by out (forth nodes earlier link)) b (taken-first nodes earlier link (may-be earlier links link none) ends.0 out)
      (free-of (earlier ++ link ∷ []) links (behind-none (no_link_at_link nodes earlier link) _ none) ends.1 j b by) (ap (end_at out) same ∙ end) (ap (port_by out) same ∙ port)
  apart earlier (link ∷ links) none ends (suc zero) (suc (suc j)) a b at by end port lt =
      let same = same_Some (back nodes earlier link) a at in
      clash (earlier ++ link ∷ []) (end_at out (back nodes earlier link)) (port_by out (back nodes earlier link)) b (taken-second nodes earlier link (may-be earlier links link none) ends.0 out)
      (free-of (earlier ++ link ∷ []) links (behind-none (no_link_at_link nodes earlier link) _ none) ends.1 j b by) (ap (end_at out) same ∙ end) (ap (port_by out) same ∙ port)
  apart earlier (link ∷ links) none ends (suc (suc i)) (suc (suc j)) a b at by end port lt =
      apart (earlier ++ link ∷ []) links (behind-none (no_link_at_link nodes earlier link) _ none) ends.1 i j a b at by end port (omega (arith, lt))
  apart earlier (link ∷ links) none ends i j a b at by end port lt = absurd (omega (arith, lt))

-- ---- of an accepted network

module _ (plan : Plan) (accepted : IsAccepted plan) where
  links-good : each (no_link_at_link plan.nodes) plan.links ≡ []
  links-good =
      let made = plan_of accepted.rows in
      let none : not_links made ≡ [] = behind-none (unknown_names accepted.rows ++ double_names made) (not_links made) (front-none _ _ (front-none _ (too_many made) accepted.stands.none)) in
      let here : each (no_link_at_link made.nodes) made.links ≡ [] = front-none _ (each (no_link_at_outage made.links) made.outages) (front-none _ (each (no_link_at_vl made.links) made.vls) none) in
      rw (accepted.stands.nodes, accepted.stands.links) here

  one : (out : Bool) (i j : ℕ) (a b : LinePlan) → slice_get (lines_of plan) i ≡ Some a → slice_get (lines_of plan) j ≡ Some b → end_at out a ≡ end_at out b → port_by out a ≡ port_by out b → i ≡ j
  unfolding Below
  one out i j a b at by end port = elim (cases_lt i j) [
    | inl lt ↦ absurd (apart plan.nodes out [] plan.links links-good (ends-below plan accepted) i j a b at by end port lt)
    | inr ge ↦ elim (cases_lt j i) [
      | inl lt ↦ absurd (apart plan.nodes out [] plan.links links-good (ends-below plan accepted) j i b a by at (sym end) (sym port) lt)
      | inr le ↦ omega (arith, ge, le)
    ]
  ]

  pub own-ports : HaveOwnPorts plan
  own-ports = record { out = one true; into = one false }
