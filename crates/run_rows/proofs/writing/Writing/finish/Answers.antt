use Rattle.run_rows.proofs.FinishedRun.{Finishes, finished-whole, finished-beginning, finished-kept, finished-well, finished-device}
use Rattle.run_rows.proofs.Written.{is-written, failed-once, end-told}
use Rattle.run_rows.proofs.writing.Writing.finish.Goals as goal

pub returns : goal.returns
returns g c =
    let plan = g.J.NetworkRun.plan in
    let start = g.K.TraceRun.taken in
    let failed = g.K.TraceRun.failures in
    let self = c.args.self in
    let old = self.writer in
    let end = c.finish-end.result.0 in
    let taken = g.S.Sink.taken c.finish-end.result.1 in
    let failures = g.S.Sink.failures c.finish-end.result.1 in
    let said = c.finish-end.ensures in
    let splits = c.batches_in_order_law.ensures.beginning in
    let F : Finishes old end taken failures = record {
      refused = said.refused;
      whole = said.whole;
      same = said.same;
      no_failure = said.no_failure;
      written = said.written;
      went_well = said.went_well;
      out = said.out;
      device = said.device;
      one_failed = said.failed;
      kept = said.kept;
      kept_failures = said.kept_failures;
    } in
    let once = finished-device plan start failed splits old self.lawful self.of_run end taken failures F in
    is-written plan start failed taken failures self.outcome c.args.gathering end
    (finished-beginning plan start failed splits old self.lawful self.of_run end taken failures F)
    c.outcome_of.result c.outcome_of.ensures.device c.outcome_of.ensures.other
    (λ e. failed-once old end said.refused failures failed once (self.broken e)) self.known c.requires
    (finished-whole plan start failed splits old self.lawful self.of_run end taken failures F)
    once (finished-kept plan start failed splits old self.lawful self.of_run end taken failures F)
    (finished-well plan start failed splits old self.lawful self.of_run end taken failures F)
    (end-told old end said.refused said.whole said.out)
