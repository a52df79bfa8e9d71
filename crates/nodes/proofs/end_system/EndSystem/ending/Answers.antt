use Rattle.std.proofs.Common.{◌∙◌, ◌<◌, ℕ, IfSome, List, ap, length, map, subst, sym}
use Rattle.nodes.specs.Words.{IsRising, EndSystemState, reception_number, place_of}
use Rattle.nodes.proofs.NumberLemmas.{numbers-read, numbers-length}
use Rattle.nodes.proofs.end_system.EndSystem.ending.Goals as goal

pub place_of-requires : goal.place_of-requires
place_of-requires c =
    let i = c.self.inside in
    let are = c.self.invariant.1 in
    subst IsRising (are.listed ∙ sym (numbers-read reception_number i.receptions.items i.received.items c.as_slice.result.now c.as_slice.ensures.value are)) are.rising

pub returns-clause-place : goal.returns-clause-place
returns-clause-place c =
    let i = c.self.inside in
    c.place_of.ensures.place
    ∙ ap (λ (ns : List ℕ). place_of ns c.args.vl.0)
    (numbers-read reception_number i.receptions.items i.received.items c.as_slice.result.now c.as_slice.ensures.value c.self.invariant.1 ∙ ap (λ (s : EndSystemState). map reception_number s.receptions) c.self.view_is)

pub returns-clause-within : goal.returns-clause-within
returns-clause-within c =
    let i = c.self.inside in
    subst (λ n. IfSome c.place_of.result (λ place. place < n))
    (numbers-length reception_number i.receptions.items i.received.items c.as_slice.result.now c.as_slice.ensures.value c.self.invariant.1 ∙ ap (λ (s : EndSystemState). length s.receptions) c.self.view_is)
    c.place_of.ensures.within
