use Rattle.std.proofs.Common.{◌<◌, ◌++◌, ◌∷◌, [], length, map, ap, ◌∙◌, arith}
use Rattle.std.proofs.lemmas.List.{map-append}
use Rattle.group_queues.proofs.Moved.{first-next}
use Rattle.group_queues.proofs.rows.move_first.Goals as goal

pub loop-place-preserved : goal.loop-place-preserved
loop-place-preserved c =
    let i = c.loop-place.invariant in
    let l : c.loop-place.place < length c.args.there.now.items = omega (arith, c.loop-place-test.true, c.requires.enough) in
    let more = ap (λ xs. map (λ s. s.value) xs) c.push_reserved.ensures.items ∙ (map-append (λ s. s.value) c.loop-place.left.items (c.of.result ∷ []) ∙
    ap (λ d. map (λ s. s.value) c.loop-place.left.items ++ d ∷ []) c.of.ensures) in
    record {
      moved = first-next c.args.there.now.items (map (λ s. s.value) c.loop-place.left.items) (map (λ s. s.value) c.push_reserved.new.self.items) c.loop-place.place _ more
          (map (λ s. s.value) c.args.left.now.items) l c.index.ensures i.moved;
      room = omega (arith, i.room, c.push_reserved.ensures.len, c.push_reserved.ensures.capacity);
    }
