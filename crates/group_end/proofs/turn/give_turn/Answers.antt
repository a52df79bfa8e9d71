use Rattle.std.proofs.Common.{ap, ◌∙◌, Err, refl}
use Rattle.std.proofs.lemmas.Result.{on_ok_weaker}
use Rattle.vlink.specs.Order.{message_order}
use Rattle.reverse.specs.Rules.{rules_of}
use Rattle.reverse.specs.Setting.{simulation_of}
use Rattle.group_exchange.specs.Views.{GroupState}
use Rattle.group_end.proofs.Places.{rested-left}
use Rattle.group_end.proofs.Longer.{memory-alone, not-numbers, passed}
use Rattle.group_end.proofs.Turning.{collect-limit, number4, post-limit, rested, turn}
use Rattle.group_end.proofs.turn.give_turn.Goals as goal

pub returns-clause-turn : goal.returns-clause-turn
returns-clause-turn g c =
    on_ok_weaker c.let_go.result
    (λ left.
    turn (simulation_of (rules_of g.R.Reversible.plain) g.J.GroupRun.setting) g.J.GroupRun.owners c.stands_law.ensures.laws c.args.turn c.args.window c.in_ok-_count._count
    c.requires.some c.requires.ahead c.args.exchange.now c.post.new.exchange c.collect.new.exchange c.post-2.new.exchange
    c.args.group.now c.post.new.group c.collect.new.group c.worked.new.group c.post-2.new.group c.in_ok-collect.field-0
    c.stands_law.ensures.by c.stands_law.ensures.inside c.in_ok-post.ensures.ok c.in_ok-collect.ensures.ok c.in_ok-_count.ensures.ok c.in_ok-post-2.ensures.ok
    c.stands_law-2.ensures.waits c.stands_law-2.ensures.done c.stands_law-2.ensures.cleared)
    c.let_go.ensures.rows

pub returns-clause-rested : goal.returns-clause-rested
returns-clause-rested g c =
    on_ok_weaker c.let_go.result
    (λ left.
    rested-left message_order g.J.GroupRun.setting.until _ c.post-2.new.group c.let_go.new.group left
    (rested (simulation_of (rules_of g.R.Reversible.plain) g.J.GroupRun.setting) g.J.GroupRun.owners c.stands_law.ensures.laws c.args.turn c.args.window c.in_ok-_count._count
    c.requires.some c.requires.ahead c.args.exchange.now c.post.new.exchange c.collect.new.exchange c.post-2.new.exchange
    c.args.group.now c.post.new.group c.collect.new.group c.worked.new.group c.post-2.new.group c.in_ok-collect.field-0
    c.stands_law.ensures.by c.stands_law.ensures.inside c.in_ok-post.ensures.ok c.in_ok-collect.ensures.ok c.in_ok-_count.ensures.ok c.in_ok-post-2.ensures.ok
    c.stands_law-2.ensures.waits c.stands_law-2.ensures.done c.stands_law-2.ensures.cleared c.stands_law-2.ensures.in_time))
    c.let_go.ensures.rows

pub returns-clause-number : goal.returns-clause-number
returns-clause-number g c =
    on_ok_weaker c.let_go.result
    (λ left.
    ap (λ (z : GroupState _ _). z.number) left ∙
    number4 (simulation_of (rules_of g.R.Reversible.plain) g.J.GroupRun.setting) g.J.GroupRun.owners c.stands_law.ensures.laws c.args.turn c.args.window c.in_ok-_count._count
    c.requires.some c.requires.ahead c.args.exchange.now c.post.new.exchange c.collect.new.exchange c.post-2.new.exchange
    c.args.group.now c.post.new.group c.collect.new.group c.worked.new.group c.post-2.new.group c.in_ok-collect.field-0
    c.stands_law.ensures.by c.stands_law.ensures.inside c.in_ok-post.ensures.ok c.in_ok-collect.ensures.ok c.in_ok-_count.ensures.ok c.in_ok-post-2.ensures.ok
    c.stands_law-2.ensures.waits c.stands_law-2.ensures.done c.stands_law-2.ensures.cleared)
    c.let_go.ensures.rows

-- more steps can be done than the limit allows, which no step of the turn changes
pub returns-in_err-post-clause-long : goal.returns-in_err-post-clause-long
returns-in_err-post-clause-long g c =
    passed (simulation_of (rules_of g.R.Reversible.plain) g.J.GroupRun.setting) _ _ refl _ c.from_residual.result c.from_residual.ensures.1 (λ e. c.in_err-post.ensures.long (ap (λ z. Err z) e))

pub returns-in_err-collect-clause-long : goal.returns-in_err-collect-clause-long
returns-in_err-collect-clause-long g c =
    passed (simulation_of (rules_of g.R.Reversible.plain) g.J.GroupRun.setting) _ _
    (post-limit (simulation_of (rules_of g.R.Reversible.plain) g.J.GroupRun.setting) g.J.GroupRun.owners c.args.exchange.now c.args.group.now c.post.new.exchange c.post.new.group c.in_ok-post.ensures.ok) _
    c.from_residual-in_err-collect.result c.from_residual-in_err-collect.ensures.1 (λ e. c.in_err-collect.ensures.long (ap (λ z. Err z) e))

pub returns-in_err-_count-clause-long : goal.returns-in_err-_count-clause-long
returns-in_err-_count-clause-long g c =
    passed (simulation_of (rules_of g.R.Reversible.plain) g.J.GroupRun.setting) _ _ refl _ c.from_residual-in_err-_count.result c.from_residual-in_err-_count.ensures.1 (λ e. absurd (not-numbers _ c.in_err-_count.ensures.faults e))

pub returns-in_err-post-2-clause-long : goal.returns-in_err-post-2-clause-long
returns-in_err-post-2-clause-long g c =
    passed (simulation_of (rules_of g.R.Reversible.plain) g.J.GroupRun.setting) _ _
    (collect-limit (simulation_of (rules_of g.R.Reversible.plain) g.J.GroupRun.setting) g.J.GroupRun.owners c.post.new.exchange c.post.new.group c.collect.new.exchange c.collect.new.group c.in_ok-collect.field-0 c.in_ok-collect.ensures.ok
    ∙ post-limit (simulation_of (rules_of g.R.Reversible.plain) g.J.GroupRun.setting) g.J.GroupRun.owners c.args.exchange.now c.args.group.now c.post.new.exchange c.post.new.group c.in_ok-post.ensures.ok) _
    c.from_residual-in_err-post-2.result c.from_residual-in_err-post-2.ensures.1 (λ e. c.in_err-post-2.ensures.long (ap (λ z. Err z) e))

pub returns-clause-long : goal.returns-clause-long
returns-clause-long g c = λ e. absurd (memory-alone c.let_go.result c.let_go.ensures.memory e)
