use Rattle.std.proofs.Common.{◌≡◌, Some, ap, ◌∙◌, sym, subst, slice_set}
use Rattle.reverse.specs.Sending.{replied}
use Rattle.nodes.specs.rules.EndSystem.{taken_in}
use Rattle.nodes.specs.Words.{EndSystemState, received, reception_at}
use Rattle.nodes.specs.declared.change.Change.TheVariants as change
use Rattle.nodes.proofs.EndSystemLemmas.{reception-found}
use Rattle.nodes.proofs.end_system.EndSystem.take.Goals as goal

found : (c : goal.After-self-1) → reception_at c.args.self.now c.args.frame.now.vl c.args.frame.now.net ≡ Some (record { place = c.in-Some.place; entry = c.index_mut-reception.result.now })
found c =
    let frame = c.args.frame.now in
    reception-found c.args.self.now _ frame.vl frame.net c.in-Some.place c.index_mut-reception.result.now (ap (λ (s : EndSystemState). s.receptions) c.self.view_is) c.in-Some.ensures.place c.index_mut-reception.ensures.value

pub returns-clause-state : goal.returns-clause-state
returns-clause-state c =
    let i = c.self.inside in
    let place = c.in-Some.place in
    let frame = c.args.frame.now in
    let reception = c.index_mut-reception.result.now in
    subst (λ (s : EndSystemState).
    record { sources = i.sources.items; receptions = slice_set i.receptions.items place (record reception { receiving = c.receive.new.self }); ports = i.ports }
    ≡ record s { receptions = slice_set s.receptions place (record reception { receiving = received c.args.at frame reception.receiving }) }) c.self.view_is
    (λ t. record { sources = i.sources.items; receptions = slice_set i.receptions.items place (record reception { receiving = c.receive.ensures.state t }); ports = i.ports })
    ∙ ap (λ found. (taken_in c.args.at frame c.args.self.now found).state) (sym (found c))

pub returns-clause-reply : goal.returns-clause-reply
returns-clause-reply c =
    c.receive.ensures.reply ∙ ap (λ found. replied c.args.out.now (taken_in c.args.at c.args.frame.now c.args.self.now found).reply) (sym (found c))

pub returns-clause-change : goal.returns-clause-change
returns-clause-change c =
    ap (λ kept. change.Reception c.in-Some.place kept) c.receive.ensures.kept ∙ ap (λ found. (taken_in c.args.at c.args.frame.now c.args.self.now found).change) (sym (found c))
