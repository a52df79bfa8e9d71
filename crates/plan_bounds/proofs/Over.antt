-- The lines that a virtual link goes over, and the ports of nodes at their ends.
use Rattle.std.proofs.Common.{◌≡◌, ℕ, ◌==◌, not, Bool, true, false, cond, List, [], ◌∷◌, Option, Some, None, inl, refl, ap, ◌∙◌, subst, slice_get, option_and_then, option_to_list, eqb-true, eq-eqb}
use Rattle.std.proofs.lemmas.Bool.{false≢true}
use Rattle.std.proofs.lemmas.Option.{none-some, same_Some}
use Rattle.vlink.specs.declared.frame.VlId.{VlId}
use Rattle.network.specs.declared.wiring.LinePlan.{LinePlan}
use Rattle.network.specs.declared.wiring.Way.{Way}
use Rattle.network.specs.Words.{IsAccepted, Plan, VlPlan, departures_of, in_at, is_end_system, is_none, leaves, lines_of, out_at, route_over}
use Rattle.network_faults.proofs.MemberLemmas.{Has, contains-from_has, flat_map-has, has-flat_map, has-option, option-has}
use Rattle.nodes.specs.declared.opening.meeting.Side.TheVariants.{In, Out}
use Rattle.nodes.specs.rules.Meeting.{first_port, ways_at}
use Rattle.plan_ports.specs.Links.{LeavesBy}
use Rattle.plan_ports.proofs.Linked.{comes-in}
use Rattle.plan_bounds.proofs.Lines.{LeadsTo}

-- the virtual link goes over line k
abbrev pub IsOver : Plan → VlPlan → ℕ → Type 0
IsOver plan vl k = Has (route_over plan.links vl) k

way : VlId → ℕ → Way
way id port = record { vl = id; port = port }

at-out : (n : ℕ) (id : VlId) (line : LinePlan) → line.from ≡ n → out_at n id line ≡ Some (way id line.from_port)
unfolding way
at-out n id line is = rw (eq-eqb line.from n is) refl

at-in : (n : ℕ) (id : VlId) (line : LinePlan) → line.to ≡ n → in_at n id line ≡ Some (way id line.to_port)
unfolding way
at-in n id line is = rw (eq-eqb line.to n is) refl

module _ (plan : Plan) (vl : VlPlan) where
  -- it leaves by the port before the line, and comes in by the port behind it
  pub over-out : (k : ℕ) (line : LinePlan) → slice_get (lines_of plan) k ≡ Some line → IsOver plan vl k → Has (ways_at plan line.from Out vl) (record { vl = vl.link.id; port = line.from_port })
  unfolding way
  over-out k line read over =
      has-flat_map (λ k. option_to_list (option_and_then (out_at line.from vl.link.id) (slice_get (lines_of plan) k))) (route_over plan.links vl) k _ over
      (has-option _ _ (ap (option_and_then (out_at line.from vl.link.id)) read ∙ at-out line.from vl.link.id line refl))

  pub over-in : (k : ℕ) (line : LinePlan) → slice_get (lines_of plan) k ≡ Some line → IsOver plan vl k → Has (ways_at plan line.to In vl) (record { vl = vl.link.id; port = line.to_port })
  unfolding way
  over-in k line read over =
      has-flat_map (λ k. option_to_list (option_and_then (in_at line.to vl.link.id) (slice_get (lines_of plan) k))) (route_over plan.links vl) k _ over
      (has-option _ _ (ap (option_and_then (in_at line.to vl.link.id)) read ∙ at-in line.to vl.link.id line refl))

  pub over-leaves : Has plan.vls vl → (k : ℕ) (line : LinePlan) → slice_get (lines_of plan) k ≡ Some line → IsOver plan vl k → LeavesBy plan line.from line.from_port vl
  over-leaves is_vl k line read over = record {
    is_vl = contains-from_has plan.vls vl is_vl;
    way = contains-from_has (departures_of plan line.from) _ (has-flat_map (leaves line.from (lines_of plan) plan.links) plan.vls vl _ is_vl (over-out k line read over));
  }

  -- and each of its ways is that of a line that it goes over
  pub record IsOverIn (n port : ℕ) : Type 0 where
    pub k : ℕ
    pub over : IsOver plan vl k
    pub leads : LeadsTo plan n port k

  pub in-over : (n : ℕ) (w : Way) → Has (ways_at plan n In vl) w → IsOverIn n w.port
  in-over n w there =
      let (k, over, made) = flat_map-has (λ k. option_to_list (option_and_then (in_at n vl.link.id) (slice_get (lines_of plan) k))) (route_over plan.links vl) w there in
      go k over (slice_get (lines_of plan) k) refl (option-has (option_and_then (in_at n vl.link.id) (slice_get (lines_of plan) k)) w made)
    where
      at : (k : ℕ) → IsOver plan vl k → (line : LinePlan) → slice_get (lines_of plan) k ≡ Some line → (b : Bool) → (line.to == n) ≡ b → cond b (Some (record { vl = vl.link.id; port = line.to_port })) None ≡ Some w → IsOverIn n w.port
      at k over line read true e is = record { k = k; over = over; leads = record { line = line; read = read; to = eqb-true line.to n e; to_port = ap (λ (x : Way). x.port) (same_Some (record { vl = vl.link.id; port = line.to_port }) w is) } }
      at k over line read false e is = absurd (none-some w is)

      go : (k : ℕ) → IsOver plan vl k → (o : Option LinePlan) → slice_get (lines_of plan) k ≡ o → option_and_then (in_at n vl.link.id) o ≡ Some w → IsOverIn n w.port
      go k over None read is = absurd (none-some w is)
      go k over (Some line) read is = at k over line read (line.to == n) refl is

  pub record IsOverOut (n port : ℕ) : Type 0 where
    pub k : ℕ
    pub over : IsOver plan vl k
    pub line : LinePlan
    pub read : slice_get (lines_of plan) k ≡ Some line
    pub from : line.from ≡ n
    pub from_port : line.from_port ≡ port

  pub out-over : (n : ℕ) (w : Way) → Has (ways_at plan n Out vl) w → IsOverOut n w.port
  out-over n w there =
      let (k, over, made) = flat_map-has (λ k. option_to_list (option_and_then (out_at n vl.link.id) (slice_get (lines_of plan) k))) (route_over plan.links vl) w there in
      go k over (slice_get (lines_of plan) k) refl (option-has (option_and_then (out_at n vl.link.id) (slice_get (lines_of plan) k)) w made)
    where
      at : (k : ℕ) → IsOver plan vl k → (line : LinePlan) → slice_get (lines_of plan) k ≡ Some line → (b : Bool) → (line.from == n) ≡ b → cond b (Some (record { vl = vl.link.id; port = line.from_port })) None ≡ Some w → IsOverOut n w.port
      at k over line read true e is = record { k = k; over = over; line = line; read = read; from = eqb-true line.from n e; from_port = ap (λ (x : Way). x.port) (same_Some (record { vl = vl.link.id; port = line.from_port }) w is) }
      at k over line read false e is = absurd (none-some w is)

      go : (k : ℕ) → IsOver plan vl k → (o : Option LinePlan) → slice_get (lines_of plan) k ≡ o → option_and_then (out_at n vl.link.id) o ≡ Some w → IsOverOut n w.port
      go k over None read is = absurd (none-some w is)
      go k over (Some line) read is = at k over line read (line.from == n) refl is

-- at a switch that it leaves it comes in by the line to its first port there
first-there : (ways : List Way) → not (is_none ways) ≡ true → (w : Way) × Has ways w × (w.port ≡ first_port ways)
first-there [] h = absurd (false≢true h)
first-there (w ∷ ways) h = (w, inl refl, refl)

pub comes-over : (plan : Plan) (accepted : IsAccepted plan) (p q : ℕ) (vl : VlPlan) → LeavesBy plan p q vl → is_end_system plan.nodes p ≡ false → IsOverIn plan vl p (first_port (ways_at plan p In vl))
comes-over plan accepted p q vl leaves switch =
    let (w, there, port) = first-there (ways_at plan p In vl) (comes-in plan accepted p q vl leaves switch) in
    subst (IsOverIn plan vl p) port (in-over plan vl p w there)
