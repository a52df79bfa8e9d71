use Rattle.std.proofs.Common.{refl, ap, sym, ◌∙◌, option_and_then}
use Rattle.nodes.specs.declared.opening.meeting.Meeting.{Meeting}
use Rattle.nodes.specs.Words.{found_at, number_met, ports_found}
use Rattle.nodes.proofs.NumberLemmas.{found-read}
use Rattle.nodes.proofs.opening.making.ports_among.Goals as goal

pub returns-in-Some : goal.returns-in-Some
returns-in-Some c =
    let meetings = c.args.meetings.now in
    ap (λ (m : Meeting). m.ports) (sym c.index-meetings-place.is)
    ∙ ap ports_found (sym (found-read number_met meetings meetings meetings c.args.vl.0 c.in-Some.place c.index-meetings-place.result refl refl c.in-Some.ensures.place c.index-meetings-place.is))

pub returns-in-None : goal.returns-in-None
returns-in-None c = ap (λ o. ports_found (option_and_then (found_at c.args.meetings.now) o)) c.in-None.ensures.place
