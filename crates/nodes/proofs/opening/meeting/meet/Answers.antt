use Rattle.std.proofs.Common.{◌==◌, sym, ◌∙◌}
use Rattle.nodes.proofs.VlLemmas.{place_by-within, met-made, met-pushed}
use Rattle.nodes.proofs.opening.meeting.meet.Goals as goal

pub virtual_link-link-requires : goal.virtual_link-link-requires
virtual_link-link-requires c =
    place_by-within (λ vl. vl.link.id.0 == c.in-Some.way.now.vl.0) c.args.network.now.vls c.in-Some-place_of.place (sym c.place_of.ensures ∙ c.in-Some-place_of.is)

pub returns-clause-met : goal.returns-clause-met
returns-clause-met c =
    let made = met-made c.args.network.now c.args.ways.now c.in-Some.way.now c.in-Some-place_of.place c.virtual_link-link.result c.ports_by.result c.in-Some.ensures.value (sym c.place_of.ensures ∙ c.in-Some-place_of.is) c.virtual_link-link.ensures.value c.ports_by.ensures in
    met-pushed c.args.network.now c.args.meetings.now.items c.push.new.self.items _ c.args.ways.now c.in_ok-push.ensures.items made
