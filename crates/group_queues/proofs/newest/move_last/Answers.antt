use Rattle.std.proofs.Common.{◌<◌, length, arith}
use Rattle.group_queues.proofs.Moved.{last-next}
use Rattle.group_queues.proofs.newest.move_last.Goals as goal

pub loop-place-preserved : goal.loop-place-preserved
loop-place-preserved g c =
    let i = c.loop-place.invariant in
    let l : c.loop-place.place < length c.args.items.now.items = omega (arith, c.loop-place-test.true, c.len-all.ensures) in
    record {
      moved = last-next c.args.items.now.items c.loop-place.taken.items c.push_back_reserved.new.self.items c.loop-place.place c.item.result.now c.push_back_reserved.ensures.items _ l c.item.ensures i.moved;
      room = omega (arith, i.room, c.push_back_reserved.ensures.room);
    }
