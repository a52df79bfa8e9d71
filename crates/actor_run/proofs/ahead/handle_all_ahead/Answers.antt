use Rattle.std.proofs.Common.{◌≡◌, ◌∙◌, refl, ap, sym, suc, true, false, Ok, arith, []}
use Rattle.reverse.specs.Rules.{rules_of}
use Rattle.reverse.specs.Setting.{simulation_of}
use Rattle.actor_run.specs.RunningAhead.{is_marked}
use Rattle.actor_run.proofs.Advancing.{never, none-yet, one-more, opened, whole}
use Rattle.actor_run.proofs.Errors.{passed-on}
use Rattle.actor_run.proofs.ahead.handle_all_ahead.Goals as goal

pub events-init : goal.events-init
events-init g c = record {
  stands = λ x L from R s.
      let f = simulation_of (rules_of g.A.Reversible.plain) x in
      let ahead = is_marked c.args.ahead.now in
      (0, [], c.requires.rows, opened f ahead _ _ s, none-yet f ahead);
  purpose = refl;
  unseen = omega arith;
  watched = g.met.W.Watch.stays c.args.watch.now;
}

pub handle_next-requires-clause-marks : goal.handle_next-requires-clause-marks
handle_next-requires-clause-marks g c =
    let (x, L, from, R, s) = c.requires.opens in
    let now = c.events.invariant.stands x L from R s in
    c.requires.marks ∙ (s.states.count ∙ sym now.3.states.count)

pub handle_next-requires-clause-runs : goal.handle_next-requires-clause-runs
handle_next-requires-clause-runs g c =
    let (x, L, from, R, s) = c.requires.opens in
    let now = c.events.invariant.stands x L from R s in
    (now.1, now.2, (x, L, from, R, now.0, now.3))

pub returns-in_err-handle_next-clause-exhausted : goal.returns-in_err-handle_next-clause-exhausted
returns-in_err-handle_next-clause-exhausted g c = λ e x L from R s.
    let k = passed-on c.from_residual.result c.from_residual.ensures.1 c.in_err-handle_next.was e in
    let now = c.events.invariant.stands x L from R s in
    c.handle_next.ensures.exhausted k now.1 now.2 x L from R now.0 now.3

pub events-preserved : goal.events-preserved
events-preserved g c =
    let k : c.handle_next.result ≡ Ok true = c.in_ok-handle_next.was ∙ ap (λ z. Ok z) c.if-branch.true in
    record {
      stands = λ x L from R s.
          let now = c.events.invariant.stands x L from R s in
          let f = simulation_of (rules_of g.A.Reversible.plain) x in
          let ahead = is_marked c.args.ahead.now in
          let handled = c.handle_next.ensures.handled k now.1 now.2 x L from R now.0 now.3 in
          (suc now.0, handled.0, handled.1, handled.2, one-more f ahead now.0 now.4 handled.3);
      purpose = c.in_ok-handle_next.ensures.purpose ∙ c.events.invariant.purpose;
      unseen = c.show_events-unseen.ensures.few;
      watched = g.met.W.Watch.goes_on _ _ _ c.events.invariant.watched c.show_events-unseen.ensures.watched;
    }

pub returns-clause-whole : goal.returns-clause-whole
returns-clause-whole g c = λ x L from R s.
    let now = c.events.invariant.stands x L from R s in
    let k : c.handle_next.result ≡ Ok false = c.in_ok-handle_next.was ∙ ap (λ z. Ok z) c.if-branch.false in
    let over = c.handle_next.ensures.over k now.1 now.2 x L from R now.0 now.3 in
    let f = simulation_of (rules_of g.A.Reversible.plain) x in
    (now.1, over.0, whole f L (is_marked c.args.ahead.now) from R now.0 _ _ _ over.1 over.2)

pub returns-clause-purpose : goal.returns-clause-purpose
returns-clause-purpose g c = c.in_ok-handle_next.ensures.purpose ∙ c.events.invariant.purpose

pub returns-clause-numbers : goal.returns-clause-numbers
returns-clause-numbers g c = λ x L from R s.
    let now = c.events.invariant.stands x L from R s in
    let k : c.handle_next.result ≡ Ok false = c.in_ok-handle_next.was ∙ ap (λ z. Ok z) c.if-branch.false in
    let over = c.handle_next.ensures.over k now.1 now.2 x L from R now.0 now.3 in
    never (simulation_of (rules_of g.A.Reversible.plain) x) L (is_marked c.args.ahead.now) from R now.0 now.4 over.2
