use Rattle.std.proofs.Common.{sym, subst}
use Rattle.nodes.specs.Words.{IsPlacedEquipment}
use Rattle.nodes.proofs.OpeningLaws.{opening-placed}
use Rattle.nodes.proofs.node.Node.new.Goals as goal

pub of_equipment-requires-clause-placed : goal.of_equipment-requires-clause-placed
of_equipment-requires-clause-placed c =
    subst IsPlacedEquipment (sym c.in_ok-equipment.ensures) (opening-placed c.args.network.now c.accepted_law.ensures c.args.process c.requires)
