use Rattle.std.proofs.Common.{sym, ◌∙◌, arith}
use Rattle.process_exchange.proofs.Listed.{step-here, step-later}
use Rattle.process_exchange.proofs.exchange.Exchange.step_at.Goals as goal

pub returns-then-left-count : goal.returns-then-left-count
returns-then-left-count g c =
    c.step.ensures ∙
    sym (c.loop-at.invariant ∙ step-here c.args.self.now.entries c.loop-at.at c.entry_at-entry.result.now c.loop-at.left c.entry_at-entry.ensures.told (omega arith))

pub loop-at-preserved : goal.loop-at-preserved
loop-at-preserved g c =
    c.loop-at.invariant ∙ step-later c.args.self.now.entries c.loop-at.at c.entry_at-entry.result.now c.loop-at.left _ c.entry_at-entry.ensures.told (omega arith)
