use Rattle.std.proofs.Common.{◌≡◌, length, replicate, sym, ap, ◌∙◌, arith}
use Rattle.std.proofs.lemmas.List.{length-map}
use Rattle.halves.specs.declared.LeftHalf.{LeftHalf}
use Rattle.process_exchange.specs.declared.mark.Standing.{Standing}
use Rattle.journal.specs.declared.fault.PoolFault.TheVariants.{OutOfMemory}
use Rattle.process_exchange.specs.Views.{unplaced}
use Rattle.process_exchange.proofs.Outcomes.{if-err}
use Rattle.journal.proofs.Refused.{err-if-ok}
use Rattle.process_exchange.proofs.exchange.Exchange.open.Goals as goal

pub at_start-requires-clause-processes : goal.at_start-requires-clause-processes
at_start-requires-clause-processes g c = c.process_number-count.ensures ∙ (c.len.ensures ∙ (c.args.actors.ok.0 ∙ c.requires.opens.actors_open.count))

pub at_start-requires-clause-names : goal.at_start-requires-clause-names
at_start-requires-clause-names g c = c.pairs.view_is ∙ c.requires.names

pub at_start-requires-clause-blanks : goal.at_start-requires-clause-blanks
at_start-requires-clause-blanks g c =
    let many = sym (length-map c.pairs.inside.lefts.items (λ (b : LeftHalf Standing). b.name)) ∙ (ap length (c.pairs.view_is ∙ c.requires.names) ∙ c.requires.each) in
    c.pairs.invariant.1 ∙ ap (λ n. replicate n unplaced) many

pub returns-in_err-exchange-clause-exchange : goal.returns-in_err-exchange-clause-exchange
returns-in_err-exchange-clause-exchange g c = err-if-ok _ _ c.from_residual.result c.from_residual.ensures.1

pub returns-in_err-exchange-clause-count : goal.returns-in_err-exchange-clause-count
returns-in_err-exchange-clause-count g c = err-if-ok _ _ c.from_residual.result c.from_residual.ensures.1

pub returns-in_err-exchange-clause-helds : goal.returns-in_err-exchange-clause-helds
returns-in_err-exchange-clause-helds g c = err-if-ok _ _ c.from_residual.result c.from_residual.ensures.1

pub returns-in_err-helds-clause-exchange : goal.returns-in_err-helds-clause-exchange
returns-in_err-helds-clause-exchange g c = err-if-ok _ _ c.from_residual-in_err-helds.result c.from_residual-in_err-helds.ensures.1

pub returns-in_err-helds-clause-count : goal.returns-in_err-helds-clause-count
returns-in_err-helds-clause-count g c = err-if-ok _ _ c.from_residual-in_err-helds.result c.from_residual-in_err-helds.ensures.1

pub returns-in_err-helds-clause-helds : goal.returns-in_err-helds-clause-helds
returns-in_err-helds-clause-helds g c = err-if-ok _ _ c.from_residual-in_err-helds.result c.from_residual-in_err-helds.ensures.1

pub returns-clause-memory : goal.returns-clause-memory
returns-clause-memory g c = tt

pub process_number-count-requires : goal.process_number-count-requires
process_number-count-requires g c = omega (arith, c.len.ensures, c.args.actors.ok.0, c.requires.opens.actors_open.count, c.requires.few)

pub at_start-requires-clause-offers : goal.at_start-requires-clause-offers
at_start-requires-clause-offers g c = c.requires.opens.offered

pub at_start-requires-clause-until : goal.at_start-requires-clause-until
at_start-requires-clause-until g c = c.requires.until

pub at_start-requires-clause-end : goal.at_start-requires-clause-end
at_start-requires-clause-end g c = c.requires.end

pub at_start-requires-clause-layout : goal.at_start-requires-clause-layout
at_start-requires-clause-layout g c = c.requires.layout

pub at_start-requires-clause-keeps : goal.at_start-requires-clause-keeps
at_start-requires-clause-keeps g c = c.requires.keeps

pub at_start-requires-clause-some : goal.at_start-requires-clause-some
at_start-requires-clause-some g c = c.requires.some

pub at_start-requires-clause-most : goal.at_start-requires-clause-most
at_start-requires-clause-most g c = c.requires.most

pub helds_of-requires-clause-count : goal.helds_of-requires-clause-count
helds_of-requires-clause-count g c = c.requires.opens.actors_open.count

pub helds_of-requires-clause-each : goal.helds_of-requires-clause-each
helds_of-requires-clause-each g c = c.requires.opens.actors_open.each

pub helds_of-requires-clause-layout : goal.helds_of-requires-clause-layout
helds_of-requires-clause-layout g c = c.requires.layout

pub helds_of-requires-clause-names : goal.helds_of-requires-clause-names
helds_of-requires-clause-names g c = c.pairs.invariant.0 ∙ (c.pairs.view_is ∙ c.requires.names)

pub helds_of-requires-clause-each_name : goal.helds_of-requires-clause-each_name
helds_of-requires-clause-each_name g c = c.requires.each

pub helds_of-requires-clause-blanks : goal.helds_of-requires-clause-blanks
helds_of-requires-clause-blanks g c = c.pairs.invariant.2

pub helds_of-requires-clause-few : goal.helds_of-requires-clause-few
helds_of-requires-clause-few g c = c.requires.few

pub returns-clause-exchange : goal.returns-clause-exchange
returns-clause-exchange g c = c.in_ok-exchange.ensures.opened

pub returns-clause-count : goal.returns-clause-count
returns-clause-count g c = c.in_ok-helds.ensures.count

pub returns-clause-helds : goal.returns-clause-helds
returns-clause-helds g c = c.in_ok-helds.ensures.each

pub returns-in_err-exchange-clause-memory : goal.returns-in_err-exchange-clause-memory
returns-in_err-exchange-clause-memory g c = if-err (λ fault. fault ≡ OutOfMemory) _ c.from_residual.result c.from_residual.ensures.1 c.in_err-exchange.ensures.memory

pub returns-in_err-helds-clause-memory : goal.returns-in_err-helds-clause-memory
returns-in_err-helds-clause-memory g c = if-err (λ fault. fault ≡ OutOfMemory) _ c.from_residual-in_err-helds.result c.from_residual-in_err-helds.ensures.1 c.in_err-helds.ensures.memory
