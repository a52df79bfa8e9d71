use Rattle.std.proofs.Common.{◌∙◌, ◌≢◌, ◌<◌, ℕ, rules, sym, subst, Option, Result, IfSome, IfErr, length}
use mathlib.Core.Logic.{∥∥₁_elim, ∥∥₁_map, ∥∥₁_map₂}
use Rattle.std.proofs.Props.{props}
use Rattle.network.specs.Words.{process_count}
use Rattle.group_exchange.specs.Rows.{rows_of_group}
use Rattle.group_exchange.specs.Views.{is_of}
use Rattle.trace_segments.specs.declared.segment_fault.SegmentFault.{SegmentFault}
use Rattle.trace_segments.specs.declared.segment_fault.SegmentFault.TheVariants.{OutOfMemory}
use Rattle.trace_segments.specs.Words.{gathered, segment_fault, Gives, rows_within, IsInOrder, BatchRows}
use Rattle.worker_pool.proofs.GroupSegments.{one-group}
use Rattle.run_rows.proofs.Nothing.{none-of}
use Rattle.worker_pool.proofs.GatheredRun.{own-rows, segment-gathered, given-batch}
use Rattle.run_rows.specs.Written.{IsPlaceFault}
use Rattle.run_rows.proofs.Written.{segment-told}
use Rattle.worker_pool.proofs.desk.Desk.add_segment.Goals as goal

pub invariant_of-self : goal.invariant_of-self
invariant_of-self g c =
    let plan = g.J.NetworkRun.plan in
    let owners = g.J.NetworkRun.owners in
    let groups = length g.J.NetworkRun.names in
    let own = own-rows plan owners groups c.args.segment c.requires.of_run in
    let law = c.segments_of_rows_law.ensures in
    let said = c.take.ensures in
    record {
      of_run = ∥∥₁_map c.args.self.now.of_run (λ G. segment-gathered plan owners groups c.args.self.now.gather c.take.new.self c.args.segment G c.take.result
          said.refused said.unchanged said.waits said.gives
          (λ none waits rows r. law.waits c.args.self.now.gather c.take.new.self c.args.segment (λ n. rows_of_group owners n rows) (G.rows_are rows r) none (own rows r) waits)
          (λ none batch gives rows r. law.gives c.args.self.now.gather c.take.new.self c.args.segment batch (λ n. rows_of_group owners n rows) (G.rows_are rows r) none (own rows r) gives));
      lawful = c.args.self.now.lawful;
      known = c.args.self.now.known;
    }

pub new-requires : goal.new-requires
new-requires g c =
    let plan = g.J.NetworkRun.plan in
    let owners = g.J.NetworkRun.owners in
    let groups = length g.J.NetworkRun.names in
    let old = c.args.self.now.gather in
    let new = c.take.new.self in
    let segment = c.args.segment in
    let batch = c.in-Some.batch in
    let gives = subst (λ (given : Option BatchRows). IfSome given (λ b. Gives old segment b new)) c.in-Some.is c.in_ok-batch.ensures.gives in
    let none = none-of (segment_fault old segment) (λ fault e. let f = c.in_ok-batch.ensures.refused fault e in absurd (cc)) in
    ∥∥₁_map₂ c.args.self.now.of_run c.args.self.now.lawful (λ G lawful. given-batch plan owners groups old new segment G batch gives (λ rows r.
    let at = λ (n : ℕ). rows_of_group owners n rows in
    c.batches_in_order_law.ensures.batch groups batch.from batch.to at rows batch.rows
    (c.batches_in_order_law.ensures.by_group (is_of owners) groups (process_count plan) rows (lawful rows r).received (lawful rows r).ordered (lawful rows r).none_outside
    (one-group (process_count plan) groups owners G.grouped))
    (subst (λ n. IsInOrder (gathered n (λ g. rows_within batch.from batch.to (at g))) batch.rows) G.count
    (c.segments_of_rows_law.ensures.batch old new segment batch at (G.rows_are rows r) none (own-rows plan owners groups segment c.requires.of_run rows r) gives))))

pub returns-in_err-batch-clause-place : goal.returns-in_err-batch-clause-place
returns-in_err-batch-clause-place g c =
    let old = c.args.self.now in
    let run = ∥∥₁_elim old.of_run (hlevel props) (λ G. c.requires.run ∙ sym G.run_is) in
    let within = ∥∥₁_elim old.of_run (hlevel props) (λ G. subst (λ n. c.args.segment.process < n) (sym G.count) c.requires.group) in
    let all = segment-told old.gather c.args.segment run within c.take.result c.take.ensures.refused c.take.ensures.memory in
    let known = subst (λ (r : Result (Option BatchRows) SegmentFault). IfErr r (λ fault. fault ≢ OutOfMemory → IsPlaceFault fault)) c.in_err-batch.was all in
    search (rules, known, c.from_residual.ensures) parts 8
