use Rattle.output_port.proofs.Limit.{stays_within}
use Rattle.output_port.proofs.Starts.{starts_in_order}
use Rattle.output_port.proofs.Busy.{put_starts_nothing, high_starts_first, works_on}
use Rattle.output_port.proofs.strict_priority.order.Goals as goal

pub returns-clause-uninterrupted : goal.returns-clause-uninterrupted
returns-clause-uninterrupted c = put_starts_nothing

pub returns-clause-high_first : goal.returns-clause-high_first
returns-clause-high_first c = high_starts_first

pub returns-clause-in_order : goal.returns-clause-in_order
returns-clause-in_order c = starts_in_order

pub returns-clause-within : goal.returns-clause-within
returns-clause-within c = stays_within

pub returns-clause-works_on : goal.returns-clause-works_on
returns-clause-works_on c = works_on
