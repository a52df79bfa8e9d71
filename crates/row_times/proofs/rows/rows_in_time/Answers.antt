use Rattle.std.proofs.Common.{sym}
use Rattle.row_times.proofs.Between.{window}
use Rattle.row_times.proofs.rows.rows_in_time.Goals as goal

pub returns : goal.returns
returns c =
    sym (window (λ row. row.message.time) c.args.from c.args.to c.args.rows.now c.count_before-begin.result c.count_before.result c.max-end.result
    c.count_before-begin.ensures.point c.count_before.ensures.point c.count_before.ensures.within c.max-end.ensures)
