use Rattle.std.proofs.Common.{◌≤◌, ◌∙◌, length, ap, arith, take_all}
use Rattle.virtual_time.specs.Law.{steps}
use Rattle.process_exchange.proofs.Listed.{steps-more}
use Rattle.journal.proofs.Refused.{err-if-ok}
use Rattle.process_exchange.proofs.exchange.Exchange.step_list.Goals as goal

pub loop-at-preserved : goal.loop-at-preserved
loop-at-preserved g c = steps-more c.args.self.now.entries c.loop-at.at c.entry_at.result.now c.entry_at.ensures.told _ _ c.loop-at.invariant c.in_ok-add_steps.ensures

pub returns-in_err-list-clause-list : goal.returns-in_err-list-clause-list
returns-in_err-list-clause-list g c = err-if-ok _ _ c.from_residual.result c.from_residual.ensures.1

pub returns-in_err-add_steps-clause-list : goal.returns-in_err-add_steps-clause-list
returns-in_err-add_steps-clause-list g c = err-if-ok _ _ c.from_residual-in_err-add_steps.result c.from_residual-in_err-add_steps.ensures.1

pub returns-clause-list : goal.returns-clause-list
returns-clause-list g c =
    let all : length c.args.self.now.entries ≤ c.loop-at.at = (let t = c.loop-at-test.false in omega arith) in
    c.loop-at.invariant ∙ ap steps (take_all c.loop-at.at c.args.self.now.entries all)
