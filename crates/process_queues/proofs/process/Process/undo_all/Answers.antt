use Rattle.std.proofs.Common.{sym, ◌∙◌, subst}
use Rattle.std.specs.Prelude.{⊤}
use Rattle.virtual_time.proofs.WellStep.{undo_all-well}
use Rattle.reverse.specs.Rules.{rules_of}
use Rattle.process_queues.specs.Queues.{StandsFor}
use Rattle.process_queues.proofs.process.Process.undo_all.Goals as goal

pub returns-clause-undone : goal.returns-clause-undone
returns-clause-undone g c opening part h =
    let r = rules_of g.R.Reversible.plain in
    let k = subst (λ q. StandsFor r g.R.Reversible.is_value opening part q.queues) (sym c.self.view_is) h in
    c.undo_all.ensures _ part.done _ k.past.past_of ∙ sym (undo_all-well r (λ s. ⊤) opening (λ s e t. g.met.R.Reversible.undoes s e) part h.well)

pub returns-clause-committed : goal.returns-clause-committed
returns-clause-committed g c opening part h =
    let k = subst (λ q. StandsFor (rules_of g.R.Reversible.plain) g.R.Reversible.is_value opening part q.queues) (sym c.self.view_is) h in
    c.undo_all.ensures _ part.done _ k.past.past_of
