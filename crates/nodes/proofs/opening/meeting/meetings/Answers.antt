use Rattle.std.proofs.Common.{◌≡◌, ℕ, ◌<◌, List, map, ap, sym, ◌∙◌, subst, All, IfOk, flat_map}
use Rattle.network.specs.declared.limits.TheConstants.{GREATEST_PORTS}
use Rattle.network.specs.declared.wiring.Way.{Way}
use Rattle.network.specs.Words.{Plan, IsAccepted}
use Rattle.nodes.specs.declared.opening.meeting.Side.{Side}
use Rattle.nodes.specs.declared.opening.meeting.Meeting.{Meeting}
use Rattle.nodes.specs.Words.{ways_at, meetings, IsRising, number_met, all_met}
use Rattle.std.proofs.lemmas.Result.{IfOk-weaker}
use Rattle.nodes.proofs.WayLemmas.{ways-own, ways-within, all_met-is, meetings-rise}
use Rattle.nodes.proofs.opening.meeting.meetings.Goals as goal

pub all_met-requires : goal.all_met-requires
all_met-requires c = subst (All (λ way. way.port < GREATEST_PORTS)) (sym c.ways_at.ensures) (ways-within c.args.network.now c.args.node c.args.side c.accepted_law.ensures)

is-met : (plan : Plan) (n : ℕ) (side : Side) (ways : List Way) → IsAccepted plan → ways ≡ flat_map (ways_at plan n side) plan.vls → all_met plan ways ≡ meetings plan n side
is-met plan n side ways accepted is = ap (all_met plan) is ∙ all_met-is plan (ways_at plan n side) (ways-own plan n side) accepted

pub returns-clause-meetings : goal.returns-clause-meetings
returns-clause-meetings c =
    let is = is-met c.args.network.now c.args.node c.args.side c.ways_at.result.now c.accepted_law.ensures c.ways_at.ensures in
    subst (λ (ms : List Meeting). IfOk c.all_met.result (λ found. found.items ≡ ms)) is c.all_met.ensures.met

pub returns-clause-rising : goal.returns-clause-rising
returns-clause-rising c =
    let is = is-met c.args.network.now c.args.node c.args.side c.ways_at.result.now c.accepted_law.ensures c.ways_at.ensures in
    let rise = meetings-rise c.args.network.now c.args.node c.args.side c.accepted_law.ensures in
    IfOk-weaker c.all_met.result _ (λ found. IsRising (map number_met found.items)) (λ found (e : found.items ≡ all_met c.args.network.now c.ways_at.result.now). subst (λ (ms : List Meeting). IsRising (map number_met ms)) (sym (e ∙ is)) rise) c.all_met.ensures.met
