use Rattle.std.proofs.Common.{◌<◌, length, slice_get, ap, sym, ◌∙◌, subst, IfSome}
use Rattle.std.proofs.lemmas.List.{length-map}
use Rattle.group_boxes.proofs.Lists.{some-of}
use Rattle.group_boxes.proofs.boxes.Boxes.owner.Goals as goal

pub returns-clause-within : goal.returns-clause-within
returns-clause-within c =
    let count = sym (length-map c.self.inside.boxes.items (λ x. x.items)) ∙ ap (λ v. length v.boxes) c.self.view_is in
    subst (λ n. IfSome c.owner_of.result (λ group. group < n)) count
    (some-of (λ owner. owner < length c.self.inside.boxes.items) c.self.inside.owners.items c.self.invariant.0 c.args.process c.owner_of.result (c.owner_of.ensures ∙ ap (λ os. slice_get os c.args.process) c.deref.ensures.value))
