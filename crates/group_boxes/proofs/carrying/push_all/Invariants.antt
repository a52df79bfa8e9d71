use Rattle.std.proofs.Common.{◌≡◌, ℕ, ◌<◌, ◌++◌, map, length, take}
use Rattle.vlink.specs.Order.{message_order}
use Rattle.virtual_time.specs.Law.{plus_of}
use Rattle.group_boxes.specs.Boxing.{AreShort, box_of, for_group}
use Rattle.group_boxes.proofs.carrying.push_all.Given as goal

abbrev pub invariant-loop-message : goal.invariant-loop-message
invariant-loop-message l = record {
  count : length l.boxes.items ≡ length l.initial.boxes.items;
  put : (g : ℕ) → g < length l.initial.boxes.items → box_of (map (λ x. x.items) l.boxes.items) g
      ≡ box_of (map (λ x. x.items) l.initial.boxes.items) g ++ for_group message_order l.owners g (map plus_of (take l.message-index l.messages));
  short : AreShort (map (λ x. x.items) l.initial.boxes.items) → AreShort (map (λ x. x.items) l.boxes.items);
}
