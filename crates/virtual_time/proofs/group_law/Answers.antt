use Rattle.virtual_time.proofs.Groups.{blocks}
use Rattle.virtual_time.proofs.GroupApart.{done-apart}
use Rattle.virtual_time.proofs.SafeGroup.{group-safe}
use Rattle.virtual_time.proofs.group_law.Goals as goal

pub returns-clause-blocks : goal.returns-clause-blocks
returns-clause-blocks g c f ours seen xs w l o d = blocks f ours seen xs w l o d

pub returns-clause-safe : goal.returns-clause-safe
returns-clause-safe g c f L ours seen xs v s o d = group-safe f L ours seen xs v s o d

pub returns-clause-apart : goal.returns-clause-apart
returns-clause-apart g c f theirs xs v o p n = done-apart f theirs xs v o p n
