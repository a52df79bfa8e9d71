use Rattle.std.proofs.Common.{◌≡◌, ◌<◌, [], Some, map, length, slice_get, ap, sym, ◌∙◌, arith}
use Rattle.std.proofs.lemmas.List.{length-map}
use Rattle.virtual_time.specs.Law.{received_by}
use Rattle.vlink.specs.Order.{message_order}
use Rattle.group_boxes.specs.Boxing.{box_at, box_of}
use Rattle.group_boxes.proofs.Lists.{box-at, some-of}
use Rattle.group_boxes.proofs.boxes.Boxes.waiting_count.Goals.{In-Some, After-index}
use Rattle.group_boxes.proofs.boxes.Boxes.waiting_count.Goals as goal

-- there is a box for the group of the process
within : (c : In-Some) → c.in-Some.owner < length c.self.inside.boxes.items
within c = rw c.in-Some.is at (some-of (λ owner. owner < length c.self.inside.boxes.items) c.self.inside.owners.items c.self.invariant.0 c.args.process c.owner_of.result
    (c.owner_of.ensures ∙ ap (λ os. slice_get os c.args.process) c.deref.ensures.value))

-- which is this one
box : (c : After-index) → c.in-Some.owner < length c.self.inside.boxes.items → box_of (map (λ x. x.items) c.self.inside.boxes.items) c.from.result ≡ c.index.result.now.items
box c h = box-at (λ x. x.items) c.self.inside.boxes.items c.from.result c.index.result.now (omega (arith, h, c.from.ensures)) c.index.ensures

pub index-requires : goal.index-requires
index-requires c = let h = within (goal.at.index-requires c).In-Some in omega (arith, h, c.from.ensures)

pub count_for-requires : goal.count_for-requires
count_for-requires c =
    let at = goal.at.count_for-requires c in
    let boxes = c.self.inside.boxes.items in
    let h = within at.In-Some in
    let few = c.self.invariant.1 c.from.result [] (omega (arith, h, c.from.ensures, length-map boxes (λ x. x.items))) in
    record { few = omega (arith, few, ap length (box at.After-index h), ap length c.deref-in-Some.ensures.value) }

pub returns-in-Some : goal.returns-in-Some
returns-in-Some c =
    let at = goal.at.returns-in-Some c in
    let boxes = map (λ x. x.items) c.self.inside.boxes.items in
    rw (sym c.self.view_is) (c.count_for.ensures ∙ ap (λ ls. length (received_by message_order c.args.process ls))
    (c.deref-in-Some.ensures.value ∙ (sym (box at.After-index (within at.In-Some)) ∙ ap (box_at boxes)
    (ap (λ i. Some i) c.from.ensures ∙ (sym c.in-Some.is ∙ (c.owner_of.ensures ∙ ap (λ os. slice_get os c.args.process) c.deref.ensures.value))))))

pub returns-in-None : goal.returns-in-None
returns-in-None c =
    rw (sym c.self.view_is) (ap (λ o. length (received_by message_order c.args.process (box_at (map (λ x. x.items) c.self.inside.boxes.items) o)))
    (sym c.in-None.is ∙ (c.owner_of.ensures ∙ ap (λ os. slice_get os c.args.process) c.deref.ensures.value)))
