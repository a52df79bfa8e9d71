use Rattle.std.proofs.Common.{◌++◌, take, IsPermutation}
use Rattle.actor_run.proofs.waiting.Waiting.push_all.Given as goal

abbrev pub invariant-loop-message : goal.invariant-loop-message
invariant-loop-message l = IsPermutation (l.initial.self ++ take l.message-index l.messages) l.self
