use Rattle.trace_segments.specs.Words.{gathered}
use Rattle.trace_tables.proofs.PlaceLemmas.{same-tables}
use Rattle.trace_segments.proofs.GatherLemmas.{same-gathered}
use Rattle.trace_tables.proofs.laws.tables_by_place_law.Goals as goal

pub returns-clause-by_place : goal.returns-clause-by_place
returns-clause-by_place c plan xs ys same = same-tables plan xs ys same

pub returns-clause-gathered : goal.returns-clause-gathered
returns-clause-gathered c plan rows processes rows_of same none =
    same-tables plan (gathered processes rows_of) rows (same-gathered processes rows_of rows same none)
