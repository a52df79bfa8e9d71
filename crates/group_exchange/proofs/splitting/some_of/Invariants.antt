use Rattle.std.proofs.Common.{◌≡◌, Some, map}
use Rattle.group_exchange.proofs.splitting.some_of.Given as goal

abbrev pub invariant-loop-item : goal.invariant-loop-item
invariant-loop-item g l = record {
  can : (goal.iterator-loop-item g).can_next l.item-iterator;
  ends : (goal.iterator-loop-item g).is_finite l.item-iterator;
  slots : l.slots.items ≡ map (λ x. Some x) l.yielded;
}
