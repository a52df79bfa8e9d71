use Rattle.std.proofs.Common.{◌≡◌, Some, IfSome, ap, ◌∙◌, sym, subst, slice_get, slice_set}
use Rattle.vlink.specs.declared.note.Cause.TheVariants.{Unknown}
use Rattle.bag_regulator.specs.Regulator.{regulator}
use Rattle.reverse.specs.Sending.{joined, replied}
use Rattle.nodes.specs.declared.change.Change.TheVariants as change
use Rattle.nodes.specs.Words.{EndSystemState, asked, found-there, full, lost, regulated, released_kept, released_out, released_reply, source-last, source_at, source_number, IsLastOfEndSystem, IsLastOfSource}
use Rattle.nodes.proofs.NumberLemmas.{found-read}
use Rattle.nodes.proofs.end_system.EndSystem.regulate.Goals as goal

found : (c : goal.After-self-1) → source_at c.args.self.now c.args.vl ≡ Some (record { place = c.in-Some.place; entry = c.index_mut-source.result.now })
found c =
    let sources = ap (λ (s : EndSystemState). s.sources) c.self.view_is in
    found-read source_number _ _ c.args.self.now.sources c.args.vl.0 c.in-Some.place c.index_mut-source.result.now (sym sources) sources c.in-Some.ensures.place c.index_mut-source.ensures.value

pub returns-clause-state : goal.returns-clause-state
returns-clause-state c =
    let i = c.self.inside in
    let place = c.in-Some.place in
    let event = c.args.event.now in
    let source = c.index_mut-source.result.now in
    subst (λ (s : EndSystemState).
    record { sources = slice_set i.sources.items place c.regulate.new.self; receptions = i.receptions.items; ports = c.regulate.new.ports }
    ≡ record s {
      sources = slice_set s.sources place (record source { regulator = regulator.after source.regulator event });
      ports = released_out source.end (regulator.out source.regulator event).answer s.ports;
    }) c.self.view_is
    (λ t. record { sources = slice_set i.sources.items place (c.regulate.ensures.state t); receptions = i.receptions.items; ports = c.regulate.ensures.ports t })
    ∙ ap (λ found. (regulated c.args.out.now.sender.number c.args.at event (lost Unknown event) c.args.self.now found).state) (sym (found c))

pub returns-clause-reply : goal.returns-clause-reply
returns-clause-reply c =
    let out = c.args.out.now in
    let number = out.sender.number in
    let event = c.args.event.now in
    let source = c.index_mut-source.result.now in
    let told = regulator.out source.regulator event in
    subst (λ (s : EndSystemState).
    c.regulate.new.out ≡ replied out (joined (joined (full event told.answer) (asked number source.end.vl told.release_at)) (released_reply number c.args.at source.end told.answer s.ports)))
    c.self.view_is c.regulate.ensures.reply
    ∙ ap (λ found. replied out (regulated number c.args.at event (lost Unknown event) c.args.self.now found).reply) (sym (found c))

pub returns-clause-change : goal.returns-clause-change
returns-clause-change c =
    let event = c.args.event.now in
    let source = c.index_mut-source.result.now in
    subst (λ (s : EndSystemState). c.regulate.result ≡ change.Source c.in-Some.place (released_kept source.end (regulator.out source.regulator event).answer s.ports) (regulator.saves source.regulator event))
    c.self.view_is c.regulate.ensures.change
    ∙ ap (λ found. (regulated c.args.out.now.sender.number c.args.at event (lost Unknown event) c.args.self.now found).change) (sym (found c))

pub returns-clause-last : goal.returns-clause-last
returns-clause-last c =
    let i = c.self.inside in
    let place = c.in-Some.place in
    let event = c.args.event.now in
    let source = c.index_mut-source.result.now in
    let s : EndSystemState = record { sources = i.sources.items; receptions = i.receptions.items; ports = i.ports } in
    let now : EndSystemState = record { sources = slice_set s.sources place c.regulate.new.self; receptions = s.receptions; ports = c.regulate.new.ports } in
    let there = subst (λ (s : EndSystemState). slice_get s.sources place ≡ Some source) (sym c.self.view_is) (found-there source_number c.args.self.now.sources c.args.vl.0 (record { place = place; entry = source }) (found c)) in
    subst (λ change. IsLastOfEndSystem change now) (sym c.regulate.ensures.change)
    (subst (λ new. IfSome (slice_get (slice_set s.sources place new) place) (IsLastOfSource (regulator.saves source.regulator event))) (sym c.regulate.ensures.state)
    (source-last s place source event there c.regulate.ensures.valid))
