use Rattle.std.proofs.Common.{rules, ap}
use Rattle.std.proofs.lemmas.Result.{on_ok_weaker}
use Rattle.virtual_time.specs.Law.{rows_at}
use Rattle.trace_segments.proofs.RowOrderLemmas.{sorted-rows, stable-rows, ordered-at, same-at, by-result}
use Rattle.trace_segments.proofs.ordering.put_in_message_order.Goals as goal

pub returns-clause-ascending : goal.returns-clause-ascending
returns-clause-ascending c =
    on_ok_weaker c.sort_by.result (λ up. sorted-rows c.message_order_law.ensures.total c.sort_by.new.self.items up (λ a r f' k. search rules)) c.sort_by.ensures.sorted

pub returns-clause-each_event : goal.returns-clause-each_event
returns-clause-each_event c =
    stable-rows c.message_order_law.ensures.total c.args.rows.now.items c.sort_by.new.self.items c.sort_by.ensures.stable (λ a r f' k. search rules)

pub returns-clause-each_process : goal.returns-clause-each_process
returns-clause-each_process c p up =
    by-result c.sort_by.result (returns-clause-ascending c) c.sort_by.ensures.err
    (λ up'. same-at c.message_order_law.ensures.total p c.sort_by.new.self.items c.args.rows.now.items (ordered-at c.message_order_law.ensures.total p c.sort_by.new.self.items up') up (returns-clause-each_event c))
    (λ same. ap (rows_at p) same)
