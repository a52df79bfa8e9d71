use Rattle.std.proofs.Common.{◌<◌, All, length, sym, ap, ◌∙◌, subst, arith, length-set}
use Rattle.std.proofs.lemmas.List.{length-map}
use Rattle.group_boxes.specs.Boxing.{box_of}
use Rattle.group_boxes.proofs.Lists.{box-here, box-other, short-set}
use Rattle.group_boxes.proofs.boxes.Boxes.clear.Goals as goal

pub invariant_of-self : goal.invariant_of-self
invariant_of-self c =
    let boxes = c.self.inside.boxes.items in (
      subst (λ n. All (λ owner. owner < n) c.self.inside.owners.items) (sym (length-set boxes c.from.result c.clear_box.new.items)) c.self.invariant.0,
      short-set (λ x. x.items) boxes c.from.result c.clear_box.new.items (omega (arith, ap length c.clear_box.ensures.items)) c.self.invariant.1,
    )

pub returns-clause-cleared : goal.returns-clause-cleared
returns-clause-cleared c =
    rw c.from.ensures (box-here (λ x. x.items) c.self.inside.boxes.items c.args.group c.clear_box.new.items (omega (arith, c.requires, length-map c.self.inside.boxes.items (λ x. x.items), ap (λ v. length v.boxes) c.self.view_is)) ∙ c.clear_box.ensures.items)

pub returns-clause-others : goal.returns-clause-others
returns-clause-others c = λ g n.
    rw c.from.ensures (box-other (λ x. x.items) c.self.inside.boxes.items c.args.group g c.clear_box.new.items n ∙ ap (λ v. box_of v.boxes g) c.self.view_is)
