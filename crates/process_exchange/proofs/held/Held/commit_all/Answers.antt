use Rattle.std.proofs.Common.{◌+◌, ap}
use Rattle.virtual_time.specs.declared.moved.Move.TheVariants.{Committed}
use Rattle.reverse.specs.Rules.{rules_of}
use Rattle.reverse.specs.Setting.{simulation_of}
use Rattle.process_exchange.specs.declared.mark.Mark.{Mark}
use Rattle.process_exchange.specs.Views.{HeldState}
use Rattle.process_exchange.specs.Effects.{StopsAtCommit}
use Rattle.process_exchange.proofs.Moves.{moved-more}
use Rattle.process_exchange.proofs.Outcomes.{if-err}
use Rattle.journal.proofs.Refused.{err-on-ok}
use Rattle.process_exchange.proofs.Worked.{not-committed, stops-commit}
use Rattle.process_exchange.proofs.held.Held.commit_all.Goals as goal

pub commit_oldest-requires : goal.commit_oldest-requires
commit_oldest-requires g c =
    (not-committed (simulation_of (rules_of g.R.Reversible.plain) g.J.ActorRun.setting) c.args.self.now c.loop-seen.self
    (ap (λ (z : HeldState g.row.R.Denot). z.mark.seen) c.loop-seen.invariant.1) c.mark-seen.result.seen (ap (λ (m : Mark). m.seen) c.mark-seen.ensures) c.loop-seen-test.ensures).0

pub loop-seen-preserved : goal.loop-seen-preserved
loop-seen-preserved g c =
    let f = simulation_of (rules_of g.R.Reversible.plain) g.J.ActorRun.setting in
    let i = c.loop-seen.invariant in
    (i.0 + 1, moved-more f i.0 Committed c.args.self.now c.loop-seen.self c.commit_oldest.new.self i.1 c.in_ok-commit_oldest.ensures.committed)

pub returns-in_err-commit_oldest-clause-some : goal.returns-in_err-commit_oldest-clause-some
returns-in_err-commit_oldest-clause-some g c =
    let f = simulation_of (rules_of g.R.Reversible.plain) g.J.ActorRun.setting in
    let i = c.loop-seen.invariant in
    let fault = c.in_err-commit_oldest.field-0.0 in
    if-err (StopsAtCommit f c.args.self.now c.commit_oldest.new.self) fault c.from_residual.result c.from_residual.ensures.1
    (stops-commit f i.0 c.args.self.now c.loop-seen.self c.commit_oldest.new.self fault i.1
    (not-committed f c.args.self.now c.loop-seen.self (ap (λ (z : HeldState g.row.R.Denot). z.mark.seen) i.1) c.mark-seen.result.seen (ap (λ (m : Mark). m.seen) c.mark-seen.ensures) c.loop-seen-test.ensures).1
    c.in_err-commit_oldest.ensures.unchanged c.in_err-commit_oldest.ensures.memory)

pub returns-in_err-commit_oldest-clause-committed : goal.returns-in_err-commit_oldest-clause-committed
returns-in_err-commit_oldest-clause-committed g c = err-on-ok _ _ c.from_residual.result c.from_residual.ensures.1
