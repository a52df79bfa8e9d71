use Rattle.std.proofs.Common.{◌≡◌, Some, None, slice_get, sym, ◌∙◌, subst}
use Rattle.process_queues.proofs.Arrivals.{none-stands, none-answer}
use Rattle.process_queues.proofs.Passing.{err-if-ok, err-on-ok}
use Rattle.process_queues.proofs.process.Process.arrive.Goals as goal

pub returns-in_default-clause-arrived : goal.returns-in_default-clause-arrived
returns-in_default-clause-arrived g c opening part h =
    let none = subst (λ q. slice_get q.queues.tray 0 ≡ None) c.self.view_is (sym c.front_of.ensures ∙ c.in_default.is) in
    none-stands h none

pub returns-in_default-clause-answer : goal.returns-in_default-clause-answer
returns-in_default-clause-answer g c opening part h =
    let none = subst (λ q. slice_get q.queues.tray 0 ≡ None) c.self.view_is (sym c.front_of.ensures ∙ c.in_default.is) in
    none-answer h none

pub arrive_first-requires : goal.arrive_first-requires
arrive_first-requires g c =
    subst (λ q. slice_get q.queues.tray 0 ≡ Some c.in-Some.letter) c.self.view_is (sym c.front_of.ensures ∙ c.in-Some.is)

pub returns-in_err-undone-clause-arrived : goal.returns-in_err-undone-clause-arrived
returns-in_err-undone-clause-arrived g c = err-on-ok _ _ c.from_residual.result c.from_residual.ensures.1

pub returns-in_err-undone-clause-answer : goal.returns-in_err-undone-clause-answer
returns-in_err-undone-clause-answer g c = err-if-ok _ _ c.from_residual.result c.from_residual.ensures.1
