use Rattle.std.proofs.Common.{◌≡◌, ◌<◌, ◌-◌, ◌++◌, drop, reverse, get_or, length, sym, ◌+◌, ◌∙◌, subst, arith}
use Rattle.group_queues.proofs.Moved.{back-next}
use Rattle.group_queues.proofs.newest.take_back.Goals as goal

pub loop-taken-preserved : goal.loop-taken-preserved
loop-taken-preserved g c =
    let i = c.loop-taken.invariant in
    let xs = c.args.sends.now.items in
    let all = c.len-all.ensures in
    let l : c.loop-taken.taken < length xs = omega (arith, c.loop-taken-test.true, c.requires.enough) in
    let at = subst (λ n. c.item.result.now ≡ get_or xs (n - 1 - c.loop-taken.taken) c.item.result.now) all c.item.ensures in
    let was = subst (λ n. c.loop-taken.back.items ≡ c.args.back.now.items ++ reverse (drop (n - c.loop-taken.taken) xs)) all i.taken in
    record {
      taken = subst (λ n. c.push_reserved.new.self.items ≡ c.args.back.now.items ++ reverse (drop (n - (c.loop-taken.taken + 1)) xs)) (sym all)
          (back-next xs c.loop-taken.back.items c.push_reserved.new.self.items c.loop-taken.taken c.item.result.now c.push_reserved.ensures.items c.args.back.now.items l at was);
      room = omega (arith, i.room, c.push_reserved.ensures.len, c.push_reserved.ensures.capacity);
      capacity = c.push_reserved.ensures.capacity ∙ i.capacity;
    }
