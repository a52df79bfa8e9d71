use Rattle.std.proofs.Common.{◌≡◌, ◌+◌, length}
use Rattle.group_exchange.proofs.pairs.Pairs.add_all.Given as goal

abbrev pub invariant-loop-made : goal.invariant-loop-made
invariant-loop-made l = length l.self ≡ length l.fn.self + l.made
