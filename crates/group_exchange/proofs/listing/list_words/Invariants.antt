use Rattle.std.proofs.Common.{◌≡◌, ◌+◌, ◌++◌, length, map, take, vec_len, vec_capacity}
use Rattle.virtual_time.specs.Law.{behind}
use Rattle.group_queues.specs.Block.{steps_told}
use Rattle.group_boxes.specs.Boxing.{waiting_for}
use Rattle.group_exchange.proofs.listing.list_words.Given as goal

abbrev pub invariant-loop-did : goal.invariant-loop-did
invariant-loop-did l = record {
  items : l.steps.items ≡ l.initial.steps.items ++ map (behind (waiting_for l.boxes)) (steps_told (take l.did-index l.words));
  len : vec_len l.steps ≡ vec_len l.initial.steps + length (steps_told (take l.did-index l.words));
  capacity : vec_capacity l.steps ≡ vec_capacity l.initial.steps;
}
