-- A group from which only rows have left.
use Rattle.std.proofs.Common.{◌∙◌, ap}
use Rattle.group_exchange.specs.Views.{GroupState}
use Rattle.group_end.specs.Together.{OnlyRowsLeft}

pub left_both : {S K : Type 0} (first between last : GroupState S K) → OnlyRowsLeft first between → OnlyRowsLeft between last → OnlyRowsLeft first last
left_both first between last p q = q ∙ ap (λ (z : GroupState _ _). record z { held = record z.held { rows = last.held.rows }; gone = last.gone }) p
