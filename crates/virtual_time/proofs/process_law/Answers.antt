use Rattle.std.proofs.Common.{◌≡◌, true}
use Rattle.virtual_time.proofs.Well.{act-well, act-sends}
use Rattle.virtual_time.proofs.WellStep.{opened-well, undo_all-well}
use Rattle.virtual_time.proofs.Numbers.{sent-once}
use Rattle.virtual_time.proofs.process_law.Goals as goal

pub returns-clause-opened : goal.returns-clause-opened
returns-clause-opened g c r good opening = opened-well r (λ s. good s ≡ true) opening

pub returns-clause-acts : goal.returns-clause-acts
returns-clause-acts g c r O good law opening part a w n = act-well r O (λ s. good s ≡ true) law opening a part w n

pub returns-clause-sends : goal.returns-clause-sends
returns-clause-sends g c r O good law opening part a w n e m = act-sends r O (λ s. good s ≡ true) law opening a part w n e m

pub returns-clause-undone : goal.returns-clause-undone
returns-clause-undone g c r good law opening part w = undo_all-well r (λ s. good s ≡ true) opening law part w

pub returns-clause-sent_once : goal.returns-clause-sent_once
returns-clause-sent_once g c r O numbered counter_grows opening ms m =
    sent-once r O (λ s. Unit {0}) (λ s e u. tt) (λ s u e. numbered s e) (λ s u e. counter_grows s e) opening tt ms m
