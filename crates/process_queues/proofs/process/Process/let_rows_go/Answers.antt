use Rattle.std.proofs.Common.{refl, arith}
use Rattle.process_queues.proofs.Reading.{sealed-within}
use Rattle.process_queues.proofs.Standing.{gone-stands, keeps}
use Rattle.process_queues.proofs.process.Process.let_rows_go.Goals as goal

pub forget_rows-requires : goal.forget_rows-requires
forget_rows-requires g c = let k = sealed-within c.self.invariant.2 in omega arith

pub returns-clause-stands : goal.returns-clause-stands
returns-clause-stands g c = λ opening part h.
    let k = rw (← c.self.view_is) at h in
    gone-stands k c.min-gone.result (omega arith) (rw c.forget_rows.ensures refl)

pub invariant_of-self : goal.invariant_of-self
invariant_of-self g c = keeps c.self.view_is c.self.invariant (returns-clause-stands g c) (λ opening part h s. rw c.forget_rows.ensures c.self.invariant.3)
