use Rattle.std.proofs.Common.{arith, refl, subst}
use Rattle.group_choice.proofs.Used.{AreElsewhere, next-used}
use Rattle.group_choice.proofs.groups.have_nodes.Goals as goal

pub loop-group-preserved : goal.loop-group-preserved
loop-group-preserved c =
    next-used c.args.owners.now c.loop-group.group c.loop-group.invariant
    (subst (λ g. ¬ (AreElsewhere g c.args.owners.now)) c.from.ensures (c.if-is_without_node.ensures refl))

pub returns-clause-used : goal.returns-clause-used
returns-clause-used c = λ yes g less. c.loop-group.invariant g (omega arith)
