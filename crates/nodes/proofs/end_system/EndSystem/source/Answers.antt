use Rattle.std.proofs.Common.{◌∙◌, ◌<◌, ℕ, IfSome, List, ap, length, map, subst, sym}
use Rattle.nodes.specs.Words.{IsRising, EndSystemState, source_number, place_of}
use Rattle.nodes.proofs.NumberLemmas.{numbers-read, numbers-length}
use Rattle.nodes.proofs.end_system.EndSystem.source.Goals as goal

pub place_of-requires : goal.place_of-requires
place_of-requires c =
    let i = c.self.inside in
    let are = c.self.invariant.0 in
    subst IsRising (are.listed ∙ sym (numbers-read source_number i.sources.items i.sent.items c.as_slice.result.now c.as_slice.ensures.value are)) are.rising

pub returns-clause-place : goal.returns-clause-place
returns-clause-place c =
    let i = c.self.inside in
    c.place_of.ensures.place
    ∙ ap (λ (ns : List ℕ). place_of ns c.args.vl.0)
    (numbers-read source_number i.sources.items i.sent.items c.as_slice.result.now c.as_slice.ensures.value c.self.invariant.0 ∙ ap (λ (s : EndSystemState). map source_number s.sources) c.self.view_is)

pub returns-clause-within : goal.returns-clause-within
returns-clause-within c =
    let i = c.self.inside in
    subst (λ n. IfSome c.place_of.result (λ place. place < n))
    (numbers-length source_number i.sources.items i.sent.items c.as_slice.result.now c.as_slice.ensures.value c.self.invariant.0 ∙ ap (λ (s : EndSystemState). length s.sources) c.self.view_is)
    c.place_of.ensures.within
