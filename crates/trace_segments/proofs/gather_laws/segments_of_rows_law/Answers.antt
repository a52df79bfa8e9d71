use Rattle.trace_segments.proofs.GatheredLemmas.{none-of-rows}
use Rattle.trace_segments.proofs.TakenLemmas.{waits-of-rows, gives-of-rows, batch-of-rows}
use Rattle.trace_segments.proofs.gather_laws.segments_of_rows_law.Goals as goal

pub returns-clause-none : goal.returns-clause-none
returns-clause-none c run processes until rows_of = record { segments = none-of-rows until processes rows_of }

pub returns-clause-waits : goal.returns-clause-waits
returns-clause-waits c = waits-of-rows

pub returns-clause-gives : goal.returns-clause-gives
returns-clause-gives c = gives-of-rows

pub returns-clause-batch : goal.returns-clause-batch
returns-clause-batch c = batch-of-rows
