use Rattle.std.proofs.Common.{◌≡◌, ℕ, ◌<◌, ◌≤◌, drop, length, map, replicate, slice_get, Some, vec_capacity}
use Rattle.process_exchange.specs.Views.{unplaced, opened_held}
use Rattle.process_exchange.proofs.opening.helds_of.Given as goal

abbrev pub invariant-loop-actor : goal.invariant-loop-actor
invariant-loop-actor g l = record {
  can : (goal.iterator-loop-actor g).can_next l.actor-iterator;
  ends : (goal.iterator-loop-actor g).is_finite l.actor-iterator;
  count : length l.helds.items ≡ length l.yielded;
  room : g.J.ActorRun.setting.processes ≤ vec_capacity l.helds;
  names : map (λ s. s.name) l.marks.items ≡ drop (length l.yielded) g.J.ActorRun.names;
  blanks : map (λ s. s.value) l.marks.items ≡ replicate (length l.marks.items) unplaced;
  each : (p : ℕ) → p < length l.yielded → slice_get l.helds.items p ≡ Some (opened_held g.J.ActorRun.setting.opening p);
}
