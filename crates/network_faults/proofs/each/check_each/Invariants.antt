use Rattle.std.proofs.Common.{◌≡◌, [], take}
use Rattle.network.specs.Words.{each}
use Rattle.network_faults.proofs.each.check_each.Given as goal

abbrev pub invariant-loop-i : goal.invariant-loop-i
invariant-loop-i g l = record {
  none : each (g.R.Review.faults l.review) (take l.i l.rows) ≡ [];
  saw : g.R.Review.saw l.review l.seen (take l.i l.rows);
}
