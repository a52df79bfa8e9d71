use Rattle.std.proofs.Common.{◌≡◌, take, All}
use Rattle.nodes.proofs.opening.meeting.group_len.Given as goal

abbrev pub invariant-loop-i : goal.invariant-loop-i
invariant-loop-i l = All (λ way. way.vl.0 ≡ l.vl.0) (take l.i l.ways)
