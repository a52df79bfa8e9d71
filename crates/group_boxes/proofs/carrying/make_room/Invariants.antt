use Rattle.std.proofs.Common.{◌≡◌, ℕ, ◌<◌, ◌≤◌, map, length, get_or, vec_len, vec_capacity}
use Rattle.group_boxes.specs.Boxing.{room_in}
use Rattle.group_boxes.proofs.carrying.make_room.Given as goal

abbrev pub invariant-loop-group : goal.invariant-loop-group
invariant-loop-group l = record {
  items : map (λ x. x.items) l.boxes.items ≡ map (λ x. x.items) l.initial.boxes.items;
  count : length l.boxes.items ≡ length l.initial.boxes.items;
  room : (g d : ℕ) → g < l.group → g < length l.boxes.items → l.more ≤ get_or (map (λ x. room_in (vec_capacity x) (vec_len x)) l.boxes.items) g d;
}
