use Rattle.std.proofs.Common.{◌≡◌, ◌≤◌, ℕ, [], map, vec_len, vec_capacity}
use Rattle.group_boxes.specs.Boxing.{box_of}
use Rattle.group_boxes.proofs.boxes.Boxes.with_offers.Given as goal

abbrev pub invariant-loop-group : goal.invariant-loop-group
invariant-loop-group l = record {
  made : vec_len l.boxes ≡ l.group;
  room : l.groups ≤ vec_capacity l.boxes;
  none : (g : ℕ) → box_of (map (λ x. x.items) l.boxes.items) g ≡ [];
}
