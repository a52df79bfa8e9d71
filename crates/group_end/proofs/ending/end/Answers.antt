use Rattle.std.proofs.Common.{◌≡◌, ◌<◌, Err, false, is_le, nat_cmp, ap, refl, subst, sym, ◌∙◌, arith}
use Rattle.std.proofs.lemmas.Bool.Decides.{nat_tests}
use Rattle.std.proofs.lemmas.Result.{on_ok_weaker}
use Rattle.vlink.specs.Order.{message_order}
use Rattle.reverse.specs.Rules.{rules_of}
use Rattle.reverse.specs.Setting.{simulation_of}
use Rattle.group_exchange.specs.Effects.{CanDoMore}
use Rattle.group_end.proofs.Longer.{passed}
use Rattle.group_end.proofs.Places.{all-over}
use Rattle.group_end.proofs.Rounds.{finished, now-published, publish-limit}
use Rattle.group_end.proofs.ending.end.Goals as goal

pub loop-until-init : goal.loop-until-init
loop-until-init g c = record {
  in_place = c.requires.in_place;
  limit = publish-limit (simulation_of (rules_of g.R.Reversible.plain) g.J.GroupRun.setting) c.requires.laws g.J.GroupRun.owners c.args.exchange.now c.set_gvt.new.exchange c.in_ok-gvt.gvt c.in_ok-gvt.ensures.ok;
  published = now-published (simulation_of (rules_of g.R.Reversible.plain) g.J.GroupRun.setting) c.requires.laws g.J.GroupRun.owners c.args.exchange.now c.set_gvt.new.exchange c.in_ok-gvt.gvt c.in_ok-gvt.ensures.ok;
}

pub returns-clause-finished : goal.returns-clause-finished
returns-clause-finished g c =
    let h : is_le (nat_cmp c.loop-until.gvt c.args.until) ≡ false = sym c.le.ensures ∙ c.loop-until-test.false in
    let past : c.args.until < c.loop-until.gvt = grind (arith, nat_tests) in
    let until = c.requires.until in
    on_ok_weaker c.take_turns.result
    (λ t. finished (simulation_of (rules_of g.R.Reversible.plain) g.J.GroupRun.setting) c.requires.laws g.J.GroupRun.owners c.loop-until.exchange.steps c.take_turns.new.exchange.steps c.loop-until.gvt
    c.loop-until.invariant.published (omega arith) t)
    c.take_turns.ensures.round

pub returns-clause-over : goal.returns-clause-over
returns-clause-over g c =
    let h : is_le (nat_cmp c.loop-until.gvt c.args.until) ≡ false = sym c.le.ensures ∙ c.loop-until-test.false in
    let past : c.args.until < c.loop-until.gvt = grind (arith, nat_tests) in
    let until = c.requires.until in
    let gvt = c.loop-until.invariant.published.is in
    on_ok_weaker c.take_turns.result
    (λ r. all-over message_order c.requires.laws.order g.J.GroupRun.setting.until _ (omega arith) c.take_turns.new.groups r)
    c.take_turns.ensures.rested

pub loop-until-preserved : goal.loop-until-preserved
loop-until-preserved g c = record {
  in_place = c.in_ok-gvt-2.ensures.in_place;
  limit = c.raise.ensures.limit ∙ c.loop-until.invariant.limit;
  published = c.in_ok-gvt-2.ensures.published;
}

-- more steps can be done than the limit allows, which no round changes
pub returns-in_err-gvt-clause-long : goal.returns-in_err-gvt-clause-long
returns-in_err-gvt-clause-long g c =
    passed (simulation_of (rules_of g.R.Reversible.plain) g.J.GroupRun.setting) _ _ refl _ c.from_residual.result c.from_residual.ensures.1 (λ e. c.in_err-gvt.ensures.long (ap (λ z. Err z) e))

pub returns-in_err-gvt-2-clause-long : goal.returns-in_err-gvt-2-clause-long
returns-in_err-gvt-2-clause-long g c =
    passed (simulation_of (rules_of g.R.Reversible.plain) g.J.GroupRun.setting) _ _ c.loop-until.invariant.limit _ c.from_residual-in_err-gvt-2.result c.from_residual-in_err-gvt-2.ensures.1 (λ e. c.in_err-gvt-2.ensures.long (ap (λ z. Err z) e))

pub returns-clause-long : goal.returns-clause-long
returns-clause-long g c = λ e. subst (CanDoMore (simulation_of (rules_of g.R.Reversible.plain) g.J.GroupRun.setting)) c.loop-until.invariant.limit (c.take_turns.ensures.long e)
