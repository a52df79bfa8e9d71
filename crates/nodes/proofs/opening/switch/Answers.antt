use Rattle.std.proofs.Common.{List, map, refl, ap, sym, ◌∙◌, subst, All}
use Rattle.network.specs.Words.{IsLinkInLimits}
use Rattle.nodes.specs.declared.opening.meeting.Meeting.{Meeting}
use Rattle.nodes.specs.Words.{IsRising, transit_number, number_met, transit_met}
use Rattle.nodes.proofs.MakingLemmas.{transit-numbers}
use Rattle.nodes.proofs.OpeningLemmas.{switch-made}
use Rattle.nodes.proofs.opening.switch.Goals as goal

pub transits_of-requires-clause-rising : goal.transits_of-requires-clause-rising
transits_of-requires-clause-rising c = subst (λ (ms : List Meeting). IsRising (map number_met ms)) (sym c.deref-2.ensures.value) c.in_ok-departing.ensures.rising

pub transits_of-requires-clause-limits : goal.transits_of-requires-clause-limits
transits_of-requires-clause-limits c = subst (All (λ (m : Meeting). IsLinkInLimits m.link)) (sym c.deref.ensures.value) c.in_ok-arriving.ensures.limits

pub new-requires : goal.new-requires
new-requires c =
    let numbers = ap (map transit_number) c.in_ok-transits.ensures ∙ transit-numbers c.deref-2.result.now c.deref.result.now ∙ ap (map number_met) c.deref.ensures.value in
    let listed = c.in_ok-numbers.ensures ∙ ap (map transit_number) c.as_slice.ensures.value in
    record { rising = subst IsRising (sym (listed ∙ numbers)) c.in_ok-arriving.ensures.rising; listed = listed }

pub returns : goal.returns
returns c =
    let arriving = c.deref.ensures.value ∙ c.in_ok-arriving.ensures.meetings in
    let departing = c.deref-2.ensures.value ∙ c.in_ok-departing.ensures.meetings in
    c.new.ensures ∙ switch-made c.args.network.now c.args.node c.args.latency_ns c.args.bytes c.accepted_law.ensures _ refl
    (c.in_ok-transits.ensures ∙ λ i. map (transit_met (departing i)) (arriving i)) c.in_ok-ports.ensures
