use Rattle.std.proofs.Common.{◌≡◌, length}
use Rattle.process_exchange.proofs.pairs.Pairs.new.Given as goal

abbrev pub invariant-loop-made : goal.invariant-loop-made
invariant-loop-made l = length l.pairs ≡ l.made
