use Rattle.std.proofs.Common.{Err, length, sym, ap, ◌∙◌, subst, arith}
use Rattle.std.proofs.lemmas.Option.{slice_get_read}
use Rattle.vlink.specs.Order.{message_order}
use Rattle.reverse.specs.Rules.{rules_of}
use Rattle.reverse.specs.Setting.{simulation_of}
use Rattle.group_exchange.specs.Views.{GroupState, is_of}
use Rattle.group_end.specs.Together.{HasRested, TookTurn}
use Rattle.group_end.proofs.Longer.{passed}
use Rattle.group_end.proofs.Places.{places-set, rested-set}
use Rattle.group_end.proofs.Rounds.{Took, took-gvt, took-more, took-round}
use Rattle.group_end.proofs.turn.take_turns.Goals as goal

pub loop-place-preserved : goal.loop-place-preserved
loop-place-preserved g c =
    let f = simulation_of (rules_of g.R.Reversible.plain) g.J.GroupRun.setting in
    let groups = c.loop-place.groups in
    let place = c.loop-place.place in
    let at = slice_get_read groups (length groups) place c.index-groups-place.result (omega arith) (omega arith) c.index-groups-place.is in
    let number = c.loop-place.invariant.in_place place c.index-groups-place.result at in
    record {
      in_place = places-set groups place c.index-groups-place.result c.give_turn.new.group c.loop-place.invariant.in_place at (c.in_ok-give_turn.ensures.number ∙ sym (ap (λ (z : GroupState _ _). z.number) c.index-groups-place.is));
      limit = c.give_turn.ensures.limit ∙ c.loop-place.invariant.limit;
      rested = rested-set message_order g.J.GroupRun.setting.until _ groups place c.index-groups-place.result c.give_turn.new.group c.loop-place.invariant.rested at
          (subst (λ n. HasRested message_order g.J.GroupRun.setting.until n c.give_turn.new.group)
          (took-gvt f c.requires.laws g.J.GroupRun.owners place c.args.exchange.now.steps c.loop-place.exchange.steps c.loop-place.invariant.took) c.in_ok-give_turn.ensures.rested);
      took = took-more f c.requires.laws g.J.GroupRun.owners place c.args.exchange.now.steps c.loop-place.exchange.steps c.give_turn.new.exchange.steps c.loop-place.invariant.took
          (subst (λ n. TookTurn f (is_of g.J.GroupRun.owners n) c.loop-place.exchange.steps c.give_turn.new.exchange.steps) (sym (ap (λ (z : GroupState _ _). z.number) c.index-groups-place.is) ∙ number) c.in_ok-give_turn.ensures.turn);
    }

pub returns-clause-round : goal.returns-clause-round
returns-clause-round g c =
    let f = simulation_of (rules_of g.R.Reversible.plain) g.J.GroupRun.setting in
    took-round f g.J.GroupRun.owners c.groups-groups.result c.args.exchange.now.steps c.loop-place.exchange.steps c.groups-groups.ensures.grouped
    (subst (λ n. Took f g.J.GroupRun.owners n c.args.exchange.now.steps c.loop-place.exchange.steps) (omega arith) c.loop-place.invariant.took)

pub returns-in_err-give_turn-clause-long : goal.returns-in_err-give_turn-clause-long
returns-in_err-give_turn-clause-long g c =
    passed (simulation_of (rules_of g.R.Reversible.plain) g.J.GroupRun.setting) _ _ c.loop-place.invariant.limit _ c.from_residual.result c.from_residual.ensures.1 (λ e. c.in_err-give_turn.ensures.long (ap (λ z. Err z) e))
