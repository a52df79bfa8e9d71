use Rattle.std.proofs.Common.{◌≡◌, ◌∙◌, refl, ap, suc, true, false, Ok, Err, arith}
use Rattle.actor_run.specs.declared.fault.SimFault.TheVariants.{Exhausted}
use Rattle.reverse.specs.Rules.{rules_of}
use Rattle.reverse.specs.Setting.{simulation_of}
use Rattle.actor_run.proofs.Errors.{after-error, passed-on}
use Rattle.actor_run.proofs.Handling.{none-yet, one-more, never}
use Rattle.actor_run.proofs.running.handle_all.Goals as goal

pub events-init : goal.events-init
events-init g c = record { stands = λ rows taken x L n h. (n, rows, taken, h, none-yet (simulation_of (rules_of g.A.Reversible.plain) x) n); purpose = refl; unseen = omega arith; watched = g.met.W.Watch.stays c.args.watch.now }

pub handle_first-requires : goal.handle_first-requires
handle_first-requires g c =
    let (rows, taken, (x, L, n, h)) = c.requires in
    let now = c.events.invariant.stands rows taken x L n h in
    (now.1, now.2, (x, L, now.0, now.3))

pub returns-in_err-handle_first-clause-exhausted : goal.returns-in_err-handle_first-clause-exhausted
returns-in_err-handle_first-clause-exhausted g c = λ e rows taken x L n h.
    let k = passed-on c.from_residual.result c.from_residual.ensures.1 c.in_err-handle_first.was e in
    let now = c.events.invariant.stands rows taken x L n h in
    (now.0, c.handle_first.ensures.exhausted k now.1 now.2 x L now.0 now.3)

pub returns-in_err-handle_first-clause-left : goal.returns-in_err-handle_first-clause-left
returns-in_err-handle_first-clause-left g c = after-error (λ rows taken x L n h.
    let now = c.events.invariant.stands rows taken x L n h in
    c.in_err-handle_first.ensures.left now.1 now.2 x L now.0 now.3)
    c.from_residual.result

pub events-preserved : goal.events-preserved
events-preserved g c =
    let k : c.handle_first.result ≡ Ok true = c.in_ok-handle_first.was ∙ ap (λ z. Ok z) c.if-branch.true in
    record {
      stands = λ rows taken x L n h.
          let now = c.events.invariant.stands rows taken x L n h in
          let handled = c.handle_first.ensures.handled k now.1 now.2 x L now.0 now.3 in
          let f = simulation_of (rules_of g.A.Reversible.plain) x in (
            suc now.0,
            handled.0,
            handled.1,
            handled.2,
            one-more f n now.0 now.4 (λ z. let u : c.handle_first.result ≡ Err Exhausted = c.handle_first.ensures.used_up now.1 now.2 x L now.0 now.3 z in cc),
          );
      purpose = c.in_ok-handle_first.ensures.purpose ∙ c.events.invariant.purpose;
      unseen = c.show_events-unseen.ensures.few;
      watched = g.met.W.Watch.goes_on _ _ _ c.events.invariant.watched c.show_events-unseen.ensures.watched;
    }

pub returns-clause-whole : goal.returns-clause-whole
returns-clause-whole g c = λ rows taken x L n h.
    let now = c.events.invariant.stands rows taken x L n h in
    let k : c.handle_first.result ≡ Ok false = c.in_ok-handle_first.was ∙ ap (λ z. Ok z) c.if-branch.false in
    let over = c.handle_first.ensures.over k now.1 now.2 x L now.0 now.3 in
    (now.1, over.0, (now.0, over.2, over.1.rows_are, over.1.states))

pub returns-clause-purpose : goal.returns-clause-purpose
returns-clause-purpose g c = c.in_ok-handle_first.ensures.purpose ∙ c.events.invariant.purpose

pub returns-in_err-handle_first-clause-memory : goal.returns-in_err-handle_first-clause-memory
returns-in_err-handle_first-clause-memory g c = λ e rows taken x L n h.
    let k = passed-on c.from_residual.result c.from_residual.ensures.1 c.in_err-handle_first.was e in
    let now = c.events.invariant.stands rows taken x L n h in
    (now.0, c.handle_first.ensures.memory k now.1 now.2 x L now.0 now.3)

pub returns-clause-numbers : goal.returns-clause-numbers
returns-clause-numbers g c = λ rows taken x L n h.
    let now = c.events.invariant.stands rows taken x L n h in
    let k : c.handle_first.result ≡ Ok false = c.in_ok-handle_first.was ∙ ap (λ z. Ok z) c.if-branch.false in
    let over = c.handle_first.ensures.over k now.1 now.2 x L now.0 now.3 in
    never (simulation_of (rules_of g.A.Reversible.plain) x) n now.0 now.4 over.2
