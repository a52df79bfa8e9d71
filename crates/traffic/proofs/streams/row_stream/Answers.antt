use Rattle.std.proofs.Common.{◌==◌, refl, sym, ◌∙◌}
use Rattle.network.specs.Words.{VlPlan}
use Rattle.network.proofs.PlaceLemmas.{placed}
use Rattle.traffic.proofs.StreamLemmas.{read-row, row-none, row-some}
use Rattle.traffic.proofs.streams.row_stream.Goals as goal

pub virtual_link-link-requires : goal.virtual_link-link-requires
virtual_link-link-requires c = placed (λ (vl : VlPlan). vl.link.id.0 == c.index-streams-row.result.vl.0) c.args.network.now.vls c.in-Some.vl (sym c.place_of.ensures ∙ c.in-Some.is)

pub source-requires : goal.source-requires
source-requires c = placed (λ (vl : VlPlan). vl.link.id.0 == c.index-streams-row.result.vl.0) c.args.network.now.vls c.in-Some.vl (sym c.place_of.ensures ∙ c.in-Some.is)

pub returns-in-None-clause-more : goal.returns-in-None-clause-more
returns-in-None-clause-more c =
    let own = c.index-streams-row.result in
    row-none c.args.network.now c.args.row _ own refl (read-row c.streams.result.now c.args.network.now.streams c.args.row own c.streams.ensures.value c.requires c.index-streams-row.is) (sym c.place_of.ensures ∙ c.in-None.is)

pub returns-in-Some-clause-more : goal.returns-in-Some-clause-more
returns-in-Some-clause-more c =
    let own = c.index-streams-row.result in
    row-some c.args.network.now c.args.row _ c.in-Some.vl _ own c.virtual_link-link.result c.source.result refl
    (read-row c.streams.result.now c.args.network.now.streams c.args.row own c.streams.ensures.value c.requires c.index-streams-row.is)
    (sym c.place_of.ensures ∙ c.in-Some.is) c.virtual_link-link.ensures.value c.source.ensures.value refl
