use Rattle.std.proofs.Common.{◌≡◌, ap, sym, ◌∙◌, subst}
use Rattle.nodes.specs.Words.{NodeState, after, undone, IsPlacedEquipment, node-undoes}
use Rattle.nodes.specs.declared.node.NodeRecord.{NodeRecord}
use Rattle.nodes.proofs.node.NodeReversible.undo.Goals as goal

-- the node is back where it was when the message came
pub invariant_of-self : goal.invariant_of-self
invariant_of-self c =
    let m = c.args._event.now in
    let s = c.requires.0 in
    let back : c.take_back-2.new.self ≡ s.equipment =
    c.take_back-2.ensures
    ∙ ap (λ (now : NodeState). undone c.args.kept.change now.equipment) (c.self.view_is ∙ c.requires.2)
    ∙ ap (λ (k : NodeRecord). undone k.change (after s m).equipment) c.requires.3
    ∙ ap (λ (now : NodeState). now.equipment) (node-undoes s m) in
    subst IsPlacedEquipment (sym back) c.requires.1.0
