use Rattle.std.proofs.Common.{map, ap, sym, ◌∙◌, subst, All}
use Rattle.network.specs.Words.{IsLinkInLimits}
use Rattle.nodes.specs.declared.opening.meeting.Meeting.{Meeting}
use Rattle.nodes.specs.Words.{IsRising, source_number, reception_number, number_met, source_met, reception_met}
use Rattle.nodes.proofs.MakingLemmas.{source-numbers, reception-numbers}
use Rattle.nodes.proofs.OpeningLemmas.{end_system-made}
use Rattle.nodes.proofs.opening.end_system.Goals as goal

pub receptions_of-requires : goal.receptions_of-requires
receptions_of-requires c = subst (All (λ (m : Meeting). IsLinkInLimits m.link)) (sym c.deref-2.ensures.value) c.in_ok-received.ensures.limits

pub new-requires-clause-sources : goal.new-requires-clause-sources
new-requires-clause-sources c =
    let numbers = ap (map source_number) c.in_ok-sources.ensures ∙ source-numbers c.deref.result.now ∙ ap (map number_met) c.deref.ensures.value in
    let listed = c.in_ok-source_numbers.ensures ∙ ap (map source_number) c.as_slice.ensures.value in
    record { rising = subst IsRising (sym (listed ∙ numbers)) c.in_ok-sent.ensures.rising; listed = listed }

pub new-requires-clause-receptions : goal.new-requires-clause-receptions
new-requires-clause-receptions c =
    let numbers = ap (map reception_number) c.in_ok-receptions.ensures ∙ reception-numbers c.deref-2.result.now ∙ ap (map number_met) c.deref-2.ensures.value in
    let listed = c.in_ok-reception_numbers.ensures ∙ ap (map reception_number) c.as_slice-2.ensures.value in
    record { rising = subst IsRising (sym (listed ∙ numbers)) c.in_ok-received.ensures.rising; listed = listed }

pub returns : goal.returns
returns c =
    let sent = c.deref.ensures.value ∙ c.in_ok-sent.ensures.meetings in
    let received = c.deref-2.ensures.value ∙ c.in_ok-received.ensures.meetings in
    c.new.ensures ∙ end_system-made c.args.network.now c.args.node c.args.bytes _ (c.in_ok-sources.ensures ∙ ap (map source_met) sent)
    (c.in_ok-receptions.ensures ∙ ap (map reception_met) received) c.in_ok-ports.ensures
