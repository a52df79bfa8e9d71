-- The line that leads to a port of a node, as the bounds of a network find it.
use Rattle.std.proofs.Common.{◌≡◌, ℕ, zero, suc, ◌<◌, ◌≤◌, ◌==◌, ◌&&◌, Bool, true, false, cond, nat_le, List, [], ◌∷◌, ◌++◌, map, length, Option, Some, None, inl, inr, refl, ap, sym, ◌∙◌, subst, arith, slice_get, option_map, eqb-true, eq-eqb}
use Rattle.std.specs.Prelude.{slice_index_or}
use Rattle.std.specs.List.{range_with_len}
use Rattle.std.specs.Option.{option_map_or}
use Rattle.std.proofs.lemmas.Bool.{cases_lt, false≢true}
use Rattle.std.proofs.lemmas.Bool.Decides.{nat_tests}
use Rattle.std.proofs.lemmas.List.FromFn.{get_or-map-range_with_len}
use Rattle.std.proofs.lemmas.Option.{none-some, same_Some, slice_get_within}
use Rattle.network.specs.declared.wiring.LinePlan.{LinePlan}
use Rattle.network.specs.declared.wiring.Link.{Link}
use Rattle.network.specs.Words.{IsAccepted, NodePlan, Plan, directions, each_after, lines_of, port_at}
use Rattle.plan_ports.proofs.OwnPorts.{own-ports}
use Rattle.network_bounds.specs.Mixing.{byte_ns_into, leads_to, line_below, line_into}

-- line k leads to port j of node n
pub record LeadsTo (plan : Plan) (n j k : ℕ) : Type 0 where
  pub line : LinePlan
  pub read : slice_get (lines_of plan) k ≡ Some line
  pub to : line.to ≡ n
  pub to_port : line.to_port ≡ j

both : (a b : Bool) → (a && b) ≡ true → (a ≡ true) × (b ≡ true)
both true b h = (refl, h)
both false b h = absurd (false≢true h)

leads-is : (plan : Plan) (n j k : ℕ) → leads_to plan n j k ≡ true → LeadsTo plan n j k
leads-is plan n j k h = go (slice_get (lines_of plan) k) refl h
  where
    go : (o : Option LinePlan) → slice_get (lines_of plan) k ≡ o → option_map_or (λ line. (line.to == n) && (line.to_port == j)) o false ≡ true → LeadsTo plan n j k
    go None e h = absurd (false≢true h)
    go (Some line) e h = let ends = both (line.to == n) (line.to_port == j) h in record { line = line; read = e; to = eqb-true line.to n ends.0; to_port = eqb-true line.to_port j ends.1 }

below-is : (plan : Plan) (n j count k : ℕ) → line_below plan n j count ≡ Some k → LeadsTo plan n j k
below-is plan n j zero k e = absurd (none-some k e)
below-is plan n j (suc count) k e = go (leads_to plan n j count) refl e (below-is plan n j count k)
  where
    go : (b : Bool) → leads_to plan n j count ≡ b → cond b (Some count) (line_below plan n j count) ≡ Some k → (line_below plan n j count ≡ Some k → LeadsTo plan n j k) → LeadsTo plan n j k
    go true is e later = subst (LeadsTo plan n j) (same_Some count k e) (leads-is plan n j count is)
    go false is e later = later e

pub line-into-is : (plan : Plan) (n j k : ℕ) → line_into plan n j ≡ Some k → LeadsTo plan n j k
line-into-is plan n j k e = below-is plan n j (length (lines_of plan)) k e

-- and each line that leads there is found
module _ (plan : Plan) (accepted : IsAccepted plan) (n j k : ℕ) (leads : LeadsTo plan n j k) where
  leads-true : leads_to plan n j k ≡ true
  leads-true =
      let to : (leads.line.to == n) ≡ true = eq-eqb _ _ leads.to in
      let port : (leads.line.to_port == j) ≡ true = eq-eqb _ _ leads.to_port in
      ap (λ o. option_map_or (λ (line : LinePlan). (line.to == n) && (line.to_port == j)) o false) leads.read ∙ rw (to, port) refl

  only-one : (i : ℕ) → leads_to plan n j i ≡ true → i ≡ k
  only-one i h = let other = leads-is plan n j i h in
      (own-ports plan accepted).into i k other.line leads.line other.read leads.read (other.to ∙ sym leads.to) (other.to_port ∙ sym leads.to_port)

  found-below : (count : ℕ) → k < count → line_below plan n j count ≡ Some k
  found-below zero lt = absurd (omega (arith, lt))
  found-below (suc count) lt = go (leads_to plan n j count) refl (λ h. found-below count h)
    where
      go : (b : Bool) → leads_to plan n j count ≡ b → (k < count → line_below plan n j count ≡ Some k) → cond b (Some count) (line_below plan n j count) ≡ Some k
      go true is later = ap Some (only-one count is)
      go false is later = elim (cases_lt k count) [
        | inl less ↦ later less
        | inr more ↦ (let same : count ≡ k = omega (arith, lt, more) in absurd (false≢true (sym is ∙ ap (leads_to plan n j) same ∙ leads-true)))
      ]

  pub line-into-there : line_into plan n j ≡ Some k
  line-into-there = found-below (length (lines_of plan)) (slice_get_within (lines_of plan) k leads.line leads.read)

-- the ns of a byte on the line by which frames come
pub record IsSlower (plan : Plan) (n j byte_ns : ℕ) : Type 0 where
  pub k : ℕ
  pub leads : LeadsTo plan n j k
  pub slower : byte_ns ≤ leads.line.byte_ns

pub slower-is : (plan : Plan) (n j byte_ns count : ℕ) → j < count → option_map_or (λ before. nat_le byte_ns before) (slice_index_or (map (byte_ns_into plan n) (range_with_len 0 count)) j None) false ≡ true → IsSlower plan n j byte_ns
slower-is plan n j byte_ns count lt h = at (line_into plan n j) refl (ap (λ o. option_map_or (λ before. nat_le byte_ns before) o false) (sym (get_or-map-range_with_len (byte_ns_into plan n) 0 count j j None lt (omega arith))) ∙ h)
  where
    go : (k : ℕ) → LeadsTo plan n j k → (o : Option LinePlan) → slice_get (lines_of plan) k ≡ o → option_map_or (λ before. nat_le byte_ns before) (option_map (λ line. line.byte_ns) o) false ≡ true → IsSlower plan n j byte_ns
    go k leads None e h = absurd (false≢true h)
    go k leads (Some line) e h =
        let same : line ≡ leads.line = same_Some line leads.line (sym e ∙ leads.read) in
        let le : nat_le byte_ns leads.line.byte_ns ≡ true = ap (λ (l : LinePlan). nat_le byte_ns l.byte_ns) (sym same) ∙ h in
        record { k = k; leads = leads; slower = grind (arith, nat_tests) }

    at : (o : Option ℕ) → line_into plan n j ≡ o → option_map_or (λ before. nat_le byte_ns before) (option_map_or (λ k. option_map (λ line. line.byte_ns) (slice_get (lines_of plan) k)) o None) false ≡ true → IsSlower plan n j byte_ns
    at None e h = absurd (false≢true h)
    at (Some k) e h = go k (line-into-is plan n j k e) (slice_get (lines_of plan) k) refl h

-- ---- each line has one back

record IsBack (lines : List LinePlan) (line : LinePlan) : Type 0 where
  j : ℕ
  other : LinePlan
  read : slice_get lines j ≡ Some other
  to : other.to ≡ line.from
  to_port : other.to_port ≡ line.from_port

has-back : (nodes : List NodePlan) (earlier links : List Link) (k : ℕ) (line : LinePlan) → slice_get (each_after (directions nodes) earlier links) k ≡ Some line → IsBack (each_after (directions nodes) earlier links) line
has-back nodes earlier [] k line read = absurd (none-some line read)
has-back nodes earlier (link ∷ links) zero line read =
    let same = same_Some (record { from = link.a; from_port = port_at nodes earlier link.a link.b; to = link.b; to_port = port_at nodes earlier link.b link.a; byte_ns = link.byte_ns; propagation_ns = link.propagation_ns }) line read in
    record {
      j = 1;
      other = record { from = link.b; from_port = port_at nodes earlier link.b link.a; to = link.a; to_port = port_at nodes earlier link.a link.b; byte_ns = link.byte_ns; propagation_ns = link.propagation_ns };
      read = refl;
      to = ap (λ (l : LinePlan). l.from) same;
      to_port = ap (λ (l : LinePlan). l.from_port) same;
    }
has-back nodes earlier (link ∷ links) (suc zero) line read =
    let same = same_Some (record { from = link.b; from_port = port_at nodes earlier link.b link.a; to = link.a; to_port = port_at nodes earlier link.a link.b; byte_ns = link.byte_ns; propagation_ns = link.propagation_ns }) line read in
    record {
      j = 0;
      other = record { from = link.a; from_port = port_at nodes earlier link.a link.b; to = link.b; to_port = port_at nodes earlier link.b link.a; byte_ns = link.byte_ns; propagation_ns = link.propagation_ns };
      read = refl;
      to = ap (λ (l : LinePlan). l.from) same;
      to_port = ap (λ (l : LinePlan). l.from_port) same;
    }
has-back nodes earlier (link ∷ links) (suc (suc k)) line read =
    let h = has-back nodes (earlier ++ link ∷ []) links k line read in
    record { j = suc (suc h.j); other = h.other; read = h.read; to = h.to; to_port = h.to_port }

-- so a line leads to each port by which a line leaves
pub record HasLine (plan : Plan) (n j : ℕ) : Type 0 where
  pub k : ℕ
  pub leads : LeadsTo plan n j k

pub line-back : (plan : Plan) (k : ℕ) (line : LinePlan) → slice_get (lines_of plan) k ≡ Some line → HasLine plan line.from line.from_port
line-back plan k line read =
    let h = has-back plan.nodes [] plan.links k line read in
    record { k = h.j; leads = record { line = h.other; read = h.read; to = h.to; to_port = h.to_port } }
