use Rattle.std.proofs.Common.{refl}
use Rattle.virtual_time.specs.Law.{emptied}
use Rattle.process_queues.proofs.Standing.{emptied-stands}
use Rattle.process_queues.proofs.Passing.{err-on-ok}
use Rattle.process_queues.proofs.process.Process.post.Goals as goal

pub invariant_of-self : goal.invariant_of-self
invariant_of-self g c = rw c.in_err-post.ensures.kept c.self.invariant

pub invariant_of-self-2 : goal.invariant_of-self-2
invariant_of-self-2 g c =
    let i = c.self.invariant in
    (i.0, emptied i.1, emptied-stands i.2 (rw (c.in_ok-post.ensures.emptied) refl), i.3)

pub returns-in_err-post-clause-emptied : goal.returns-in_err-post-clause-emptied
returns-in_err-post-clause-emptied g c = err-on-ok _ _ c.from_residual.result c.from_residual.ensures.1

pub returns-in_err-post-clause-posted : goal.returns-in_err-post-clause-posted
returns-in_err-post-clause-posted g c = err-on-ok _ _ c.from_residual.result c.from_residual.ensures.1

pub returns-in_err-post-clause-queues : goal.returns-in_err-post-clause-queues
returns-in_err-post-clause-queues g c = err-on-ok _ _ c.from_residual.result c.from_residual.ensures.1
