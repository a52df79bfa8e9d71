-- End systems and switches made of their parts.
use Rattle.std.proofs.Common.{◌≡◌, ℕ, ◌-◌, ◌≤◌, length, map, ap, sym, ◌∙◌, slice_get}
use Rattle.std.proofs.lemmas.Option.{slice_get_past}
use Rattle.network.specs.declared.limits.TheConstants.{GREATEST_PORTS}
use Rattle.network.specs.Words.{Plan, IsAccepted, lines_of}
use Rattle.nodes.specs.declared.opening.meeting.Side.TheVariants.{Out, In}
use Rattle.nodes.specs.declared.equipment.Equipment.TheVariants as equipment
use Rattle.nodes.specs.Words.{ways_at, with_ways, meetings, EndSystemState, SwitchState, LineState, line_opening, equipment_opening, ports_of, end_system_opening, switch_opening, source_met, reception_met, transit_met}
use Rattle.nodes.proofs.MakingLemmas.{sources-made, receptions-made, transits-made}

pub switch-made : (plan : Plan) (n latency bytes : ℕ) → IsAccepted plan → (s : SwitchState) → s.latency ≡ latency
    → s.transits ≡ map (transit_met (meetings plan n Out)) (meetings plan n In) → s.ports ≡ ports_of plan n GREATEST_PORTS bytes → s ≡ switch_opening plan n latency bytes
switch-made plan n latency bytes accepted s delay transits ports =
    let made = transits ∙ transits-made plan n accepted in
    λ i. record { latency = delay i; transits = made i; ports = ports i }

pub end_system-made : (plan : Plan) (n bytes : ℕ) (s : EndSystemState) → s.sources ≡ map source_met (meetings plan n Out) → s.receptions ≡ map reception_met (meetings plan n In)
    → s.ports ≡ ports_of plan n 2 bytes → s ≡ end_system_opening plan n bytes
end_system-made plan n bytes s sources receptions ports =
    let made = sources ∙ sources-made (ways_at plan n Out) (with_ways (ways_at plan n Out) plan.vls) in
    let made_in = receptions ∙ receptions-made (ways_at plan n In) (with_ways (ways_at plan n In) plan.vls) in
    λ i. record { sources = made i; receptions = made_in i; ports = ports i }

-- a process behind the nodes is a line
pub line-made : (plan : Plan) (p k : ℕ) (s : LineState) → length plan.nodes ≤ p → k ≡ p - length plan.nodes → s ≡ line_opening plan k (slice_get (lines_of plan) k) → equipment.Line s ≡ equipment_opening plan p (slice_get plan.nodes p)
line-made plan p k s behind place made =
    ap (λ (l : LineState). equipment.Line l) (made ∙ ap (λ j. line_opening plan j (slice_get (lines_of plan) j)) place)
    ∙ ap (equipment_opening plan p) (sym (slice_get_past plan.nodes p behind))
