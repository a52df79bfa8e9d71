use Rattle.trace_tables.proofs.DropCountLemmas.{drops-counted, drops-ascending, drops-positive}
use Rattle.trace_tables.proofs.laws.drop_counts_law.Goals as goal

pub returns-clause-counted : goal.returns-clause-counted
returns-clause-counted c plan rows loss = drops-counted plan rows loss

pub returns-clause-ascending : goal.returns-clause-ascending
returns-clause-ascending c plan rows = drops-ascending plan rows

pub returns-clause-positive : goal.returns-clause-positive
returns-clause-positive c plan rows = drops-positive plan rows
