use Rattle.std.proofs.Common.{◌≡◌, ◌<◌, ◌≤◌, Err, false, is_lt, nat_cmp, ap, sym, ◌∙◌, subst, arith}
use Rattle.std.proofs.lemmas.Bool.Decides.{nat_tests}
use Rattle.virtual_time.specs.Law.{run, start}
use Rattle.ends.specs.Left.{rank}
use Rattle.reverse.specs.Rules.{rules_of}
use Rattle.reverse.specs.Setting.{simulation_of}
use Rattle.group_end.specs.Together.{IsPublished}
use Rattle.group_end.proofs.Longer.{passed}
use Rattle.group_end.proofs.Rounds.{now-published, publish-limit, round-falls}
use Rattle.group_end.proofs.ending.raise.Given.{Over}
use Rattle.group_end.proofs.ending.raise.Goals.{Else-lt}
use Rattle.group_end.proofs.ending.raise.Goals as goal

pub returns-then-lt-clause-published : goal.returns-then-lt-clause-published
returns-then-lt-clause-published g c =
    now-published (simulation_of (rules_of g.R.Reversible.plain) g.J.GroupRun.setting) c.requires.laws g.J.GroupRun.owners c.take_turns.new.exchange c.set_gvt.new.exchange c.in_ok-new.new c.in_ok-new.ensures.ok

-- the new one is not later
not-later : (g : Over) (c : Else-lt g) → c.in_ok-new.new ≤ c.args.gvt
not-later g c = let h : is_lt (nat_cmp c.args.gvt c.in_ok-new.new) ≡ false = sym c.lt.ensures ∙ c.if-lt.false in grind (arith, nat_tests)

fallen : (g : Over) (c : Else-lt g) → (c.in_ok-new.new ≡ c.args.gvt)
    × (rank (simulation_of (rules_of g.R.Reversible.plain) g.J.GroupRun.setting) (run (simulation_of (rules_of g.R.Reversible.plain) g.J.GroupRun.setting) c.set_gvt.new.exchange.steps (start (simulation_of (rules_of g.R.Reversible.plain) g.J.GroupRun.setting)))
    < rank (simulation_of (rules_of g.R.Reversible.plain) g.J.GroupRun.setting) (run (simulation_of (rules_of g.R.Reversible.plain) g.J.GroupRun.setting) c.loop-exchange.exchange.steps (start (simulation_of (rules_of g.R.Reversible.plain) g.J.GroupRun.setting))))
fallen g c =
    round-falls (simulation_of (rules_of g.R.Reversible.plain) g.J.GroupRun.setting) c.requires.laws g.J.GroupRun.owners c.loop-exchange.exchange.steps c.take_turns.new.exchange c.set_gvt.new.exchange
    c.args.gvt c.in_ok-new.new c.loop-exchange.invariant.published c.requires.before c.in_ok-take_turns.ensures.round c.in_ok-new.ensures.ok (not-later g c)

pub loop-exchange-smaller : goal.loop-exchange-smaller
loop-exchange-smaller g c = (fallen g c).1

pub loop-exchange-preserved : goal.loop-exchange-preserved
loop-exchange-preserved g c = record {
  in_place = c.in_ok-take_turns.ensures.in_place;
  limit = publish-limit (simulation_of (rules_of g.R.Reversible.plain) g.J.GroupRun.setting) c.requires.laws g.J.GroupRun.owners c.take_turns.new.exchange c.set_gvt.new.exchange c.in_ok-new.new c.in_ok-new.ensures.ok
      ∙ (c.take_turns.ensures.limit ∙ c.loop-exchange.invariant.limit);
  published = subst (λ x. IsPublished (simulation_of (rules_of g.R.Reversible.plain) g.J.GroupRun.setting) c.set_gvt.new.exchange.steps x) (fallen g c).0
      (now-published (simulation_of (rules_of g.R.Reversible.plain) g.J.GroupRun.setting) c.requires.laws g.J.GroupRun.owners c.take_turns.new.exchange c.set_gvt.new.exchange c.in_ok-new.new c.in_ok-new.ensures.ok);
}

-- more steps can be done than the limit allows, which no round changes
pub returns-in_err-take_turns-clause-long : goal.returns-in_err-take_turns-clause-long
returns-in_err-take_turns-clause-long g c =
    passed (simulation_of (rules_of g.R.Reversible.plain) g.J.GroupRun.setting) _ _ c.loop-exchange.invariant.limit _ c.from_residual.result c.from_residual.ensures.1 (λ e. c.in_err-take_turns.ensures.long (ap (λ z. Err z) e))

pub returns-in_err-new-clause-long : goal.returns-in_err-new-clause-long
returns-in_err-new-clause-long g c =
    passed (simulation_of (rules_of g.R.Reversible.plain) g.J.GroupRun.setting) _ _ (c.take_turns.ensures.limit ∙ c.loop-exchange.invariant.limit) _
    c.from_residual-in_err-new.result c.from_residual-in_err-new.ensures.1 (λ e. c.in_err-new.ensures.long (ap (λ z. Err z) e))
