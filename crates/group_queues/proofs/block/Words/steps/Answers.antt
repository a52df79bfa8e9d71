use Rattle.std.proofs.Common.{length, map, arith}
use Rattle.std.proofs.lemmas.List.{length-map}
use Rattle.group_queues.proofs.Steps.{long-few}
use Rattle.group_queues.proofs.block.Words.steps.Goals as goal

pub overflow_add-result : goal.overflow_add-result
overflow_add-result c =
    let few = long-few (map (λ s. s.value) c.self.inside.told.items) (length c.self.inside.told.items) c.self.inside.long (length-map c.self.inside.told.items (λ s. s.value)) c.self.invariant.1 in
    let len = c.self.inside.told.ok.0 in
    let within = c.self.inside.told.ok.1 in
    let small = c.self.inside.told.small in
    let counted = c.len.ensures in
    omega arith
