use Rattle.std.proofs.Common.{◌≡◌, ℕ, ◌-◌, ◌<◌, ◌++◌, map, length, take, vec_len, vec_capacity}
use Rattle.vlink.specs.Order.{message_order}
use Rattle.group_boxes.specs.Boxing.{AreShort, HasRoom, box_of, for_group, room_in}
use Rattle.group_boxes.proofs.carrying.put_all.Given as goal

abbrev pub invariant-loop-letter : goal.invariant-loop-letter
invariant-loop-letter l = record {
  count : length l.boxes.items ≡ length l.initial.boxes.items;
  put : (g : ℕ) → g < length l.initial.boxes.items → box_of (map (λ x. x.items) l.boxes.items) g
      ≡ box_of (map (λ x. x.items) l.initial.boxes.items) g ++ for_group message_order l.owners g (take l.letter-index l.letters);
  room : HasRoom (length l.letters - l.letter-index) (map (λ x. room_in (vec_capacity x) (vec_len x)) l.boxes.items);
  short : AreShort (map (λ x. x.items) l.initial.boxes.items) → AreShort (map (λ x. x.items) l.boxes.items);
}
