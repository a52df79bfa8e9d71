use Rattle.trace_segments.proofs.RowOrderLemmas.{same-by-event, same-by-place, events-by-place}
use Rattle.trace_segments.proofs.row_laws.rows_by_place_law.Goals as goal

pub returns-clause-by_event : goal.returns-clause-by_event
returns-clause-by_event c xs ys up up' same = same-by-event c.message_order_law.ensures.total xs ys up up' same

pub returns-clause-by_place : goal.returns-clause-by_place
returns-clause-by_place c xs ys here up up' same = same-by-place c.message_order_law.ensures.total c.message_order_law.ensures.exact xs ys here up up' same

pub returns-clause-events : goal.returns-clause-events
returns-clause-events c xs ys here same m = events-by-place c.message_order_law.ensures.total c.message_order_law.ensures.exact xs ys here same m
