use Rattle.std.proofs.Common.{◌∙◌, arith, length-set, vec_len, vec_capacity}
use Rattle.group_boxes.specs.Boxing.{room_in}
use Rattle.group_boxes.proofs.Lists.{box-same, room-more}
use Rattle.group_boxes.proofs.carrying.make_room.Goals as goal

pub returns-in_err-grow-clause-items : goal.returns-in_err-grow-clause-items
returns-in_err-grow-clause-items c =
    box-same (λ x. x.items) c.loop-group.boxes.items c.loop-group.group c.index_mut.result.now c.grow.new.items c.index_mut.ensures.value c.grow.ensures.items
    ∙ c.loop-group.invariant.items

pub loop-group-preserved : goal.loop-group-preserved
loop-group-preserved c =
    let boxes = c.loop-group.boxes.items in
    let at = c.loop-group.group in
    let new = c.grow.new.items in
    record {
      items = box-same (λ x. x.items) boxes at c.index_mut.result.now new c.index_mut.ensures.value c.grow.ensures.items ∙ c.loop-group.invariant.items;
      count = length-set boxes at new ∙ c.loop-group.invariant.count;
      room = λ g d below within. room-more (λ x. room_in (vec_capacity x) (vec_len x)) boxes at new c.args.more
          (let a = c.in_ok-grow.ensures.room in omega arith) c.loop-group.invariant.room g d below
          (let a = length-set boxes at new in omega arith);
    }
