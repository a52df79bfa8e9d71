use Rattle.std.proofs.Common.{◌≡◌, length}
use Rattle.network.specs.Words.{has_double}
use Rattle.network_paths.proofs.trees.has_double.Given as goal

abbrev pub invariant-loop-first : goal.invariant-loop-first
invariant-loop-first l = has_double l.rest ≡ has_double l.numbers

abbrev pub decreases-loop-first : goal.decreases-loop-first
decreases-loop-first l = length l.rest
