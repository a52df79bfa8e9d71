use Rattle.std.proofs.Common.{refl}
use Rattle.journal.proofs.Refused.{err-on-ok}
use Rattle.group_exchange.proofs.posting.reserve_post.Goals as goal

pub returns-then-is_err-clause-waits : goal.returns-then-is_err-clause-waits
returns-then-is_err-clause-waits g c = tt

pub returns-then-is_err-clause-boxes : goal.returns-then-is_err-clause-boxes
returns-then-is_err-clause-boxes g c = refl

pub returns-then-is_err-clause-owners : goal.returns-then-is_err-clause-owners
returns-then-is_err-clause-owners g c = refl

pub returns-then-is_err-clause-box_room : goal.returns-then-is_err-clause-box_room
returns-then-is_err-clause-box_room g c = tt

pub returns-then-is_err-clause-steps : goal.returns-then-is_err-clause-steps
returns-then-is_err-clause-steps g c = refl

pub returns-then-is_err-clause-keeps : goal.returns-then-is_err-clause-keeps
returns-then-is_err-clause-keeps g c = refl

pub returns-then-is_err-clause-step_room : goal.returns-then-is_err-clause-step_room
returns-then-is_err-clause-step_room g c = tt

pub returns-then-is_err-clause-memory : goal.returns-then-is_err-clause-memory
returns-then-is_err-clause-memory g c = refl

pub returns-in_err-reserve-clause-waits : goal.returns-in_err-reserve-clause-waits
returns-in_err-reserve-clause-waits g c = err-on-ok _ _ c.from_residual.result c.from_residual.ensures.1

pub returns-in_err-reserve-clause-boxes : goal.returns-in_err-reserve-clause-boxes
returns-in_err-reserve-clause-boxes g c = c.reserve.ensures.boxes

pub returns-in_err-reserve-clause-owners : goal.returns-in_err-reserve-clause-owners
returns-in_err-reserve-clause-owners g c = c.reserve.ensures.owners

pub returns-in_err-reserve-clause-box_room : goal.returns-in_err-reserve-clause-box_room
returns-in_err-reserve-clause-box_room g c = err-on-ok _ _ c.from_residual.result c.from_residual.ensures.1

pub returns-in_err-reserve-clause-steps : goal.returns-in_err-reserve-clause-steps
returns-in_err-reserve-clause-steps g c = refl

pub returns-in_err-reserve-clause-keeps : goal.returns-in_err-reserve-clause-keeps
returns-in_err-reserve-clause-keeps g c = refl

pub returns-in_err-reserve-clause-step_room : goal.returns-in_err-reserve-clause-step_room
returns-in_err-reserve-clause-step_room g c = err-on-ok _ _ c.from_residual.result c.from_residual.ensures.1

pub returns-clause-boxes : goal.returns-clause-boxes
returns-clause-boxes g c = c.reserve.ensures.boxes

pub returns-clause-owners : goal.returns-clause-owners
returns-clause-owners g c = c.reserve.ensures.owners

pub returns-clause-steps : goal.returns-clause-steps
returns-clause-steps g c = c.reserve-2.ensures.steps

pub returns-clause-keeps : goal.returns-clause-keeps
returns-clause-keeps g c = c.reserve-2.ensures.keeps

pub returns-clause-step_room : goal.returns-clause-step_room
returns-clause-step_room g c = c.reserve-2.ensures.room

pub returns-clause-memory : goal.returns-clause-memory
returns-clause-memory g c = c.reserve-2.ensures.memory
