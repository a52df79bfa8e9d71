use Rattle.std.proofs.Common.{◌≡◌, ◌+◌, ◌++◌, map, flat_map, length, IfSome, sym, ap, ◌∙◌, subst, arith, length-append}
use Rattle.virtual_time.specs.Law.{behind}
use Rattle.group_queues.specs.Block.{steps_told}
use Rattle.group_exchange.specs.declared.steps.Steps.TheInside.{Inside}
use Rattle.group_boxes.specs.Boxing.{waiting_for}
use Rattle.group_exchange.specs.Telling.{steps_by}
use Rattle.group_exchange.proofs.Words.{length_behind, told-longer}
use Rattle.group_exchange.proofs.steps.Steps.post.Goals.{in-Some, in_default}
use Rattle.group_exchange.proofs.steps.Steps.post.Goals as goal

pub invariant_of-self : goal.invariant_of-self
invariant_of-self c =
    let xs = map (behind (waiting_for c.args.boxes.now)) (steps_told c.args.words.now.words) in
    let was = flat_map (λ t. steps_by t.value) c.self.inside.told.items in
    let now = flat_map (λ t. steps_by t.value) c.push_reserved.new.self.items in
    let longer : now ≡ was ++ xs =
    ap (flat_map (λ t. steps_by t.value)) c.push_reserved.ensures.items ∙
    told-longer c.self.inside.told.items c.of-3.result xs (ap steps_by c.of-3.ensures ∙ (λ i. map (behind (waiting_for (c.of-2.ensures i))) (steps_told (c.of.ensures i).words))) in
    let count : c.self.inside.count + c.args.count ≡ length now =
    omega (arith, c.self.invariant.0, ap length longer, length-append was xs, length_behind (waiting_for c.args.boxes.now) (steps_told c.args.words.now.words), c.requires.count) in
    elim c.match-self.branch [
      | in-Some w ↦ subst (λ (z : Inside). (z.count ≡ length (flat_map (λ t. steps_by t.value) z.told.items)) × IfSome z.kept (λ k. k.items ≡ flat_map (λ t. steps_by t.value) z.told.items))
          (sym w.self-inside-is) (count, w.list_block.ensures ∙ (ap (λ ys. ys ++ xs) (rw w.in-Some.is at c.self.invariant.1) ∙ sym longer))
      | in_default w ↦ subst (λ (z : Inside). (z.count ≡ length (flat_map (λ t. steps_by t.value) z.told.items)) × IfSome z.kept (λ k. k.items ≡ flat_map (λ t. steps_by t.value) z.told.items))
          (sym w.self-inside-is) (count, subst (λ o. IfSome o (λ k. k.items ≡ now)) (sym w.in_default.is) tt)
    ]
