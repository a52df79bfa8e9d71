use Rattle.std.proofs.Common.{ap, sym, ◌∙◌, subst}
use Rattle.reverse.specs.Sending.{Sender}
use Rattle.nodes.specs.Words.{NodeState, handled, IsPlacedEquipment, place-stays}
use Rattle.nodes.proofs.node.Node.step.Goals as goal

pub invariant_of-self : goal.invariant_of-self
invariant_of-self c =
    let now : NodeState = record { sender = c.self.inside.sender; equipment = c.self.inside.equipment } in
    subst IsPlacedEquipment (sym (c.handle-change.ensures.state ∙ ap (λ (s : Sender). (handled s.number c.args.event.now c.self.inside.equipment).equipment) c.open.ensures.sender))
    (place-stays now c.args.event.now c.self.invariant)
