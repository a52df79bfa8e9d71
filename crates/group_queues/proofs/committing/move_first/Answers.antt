use Rattle.std.proofs.Common.{◌<◌, length, arith}
use Rattle.group_queues.proofs.Moved.{first-next}
use Rattle.group_queues.proofs.committing.move_first.Goals as goal

pub loop-place-preserved : goal.loop-place-preserved
loop-place-preserved g c =
    let i = c.loop-place.invariant in
    let l : c.loop-place.place < length c.args.items.now.items = omega (arith, c.loop-place-test.true, c.requires.enough) in
    record {
      moved = first-next c.args.items.now.items c.loop-place.taken.items c.push_reserved.new.self.items c.loop-place.place c.item.result.now c.push_reserved.ensures.items c.args.taken.now.items l c.item.ensures i.moved;
      room = omega (arith, i.room, c.push_reserved.ensures.len, c.push_reserved.ensures.capacity);
    }
