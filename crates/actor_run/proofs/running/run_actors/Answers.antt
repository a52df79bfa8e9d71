use Rattle.std.proofs.Common.{inl, inr, refl, subst, sym, List, []}
use Rattle.reverse.specs.Rules.{rules_of}
use Rattle.vlink.specs.Letters.{Row}
use Rattle.reverse.specs.Setting.{simulation_of}
use Rattle.actor_run.specs.Running.{IsWholeRun}
use Rattle.actor_run.proofs.Handling.{begun, started}
use Rattle.actor_run.proofs.Errors.{after-error, passed-on}
use Rattle.actor_run.proofs.running.run_actors.Goals as goal

pub handle_all-requires : goal.handle_all-requires
handle_all-requires g c = (
  [],
  c.none-all.ensures,
  (
    c.requires.0,
    c.requires.2,
    0,
    started (rules_of g.A.Reversible.plain) c.requires.0 _ c.args.offers.now _ [] c.requires.1 c.in_ok-waiting.ensures.offered refl,
  ),
)

pub returns-in_err-waiting-clause-left : goal.returns-in_err-waiting-clause-left
returns-in_err-waiting-clause-left g c = after-error (λ x o L. begun (rules_of g.A.Reversible.plain) x _ c.args.offers.now o) c.from_residual.result

pub returns-in_err-handle_all-clause-exhausted : goal.returns-in_err-handle_all-clause-exhausted
returns-in_err-handle_all-clause-exhausted g c = λ e x o L.
    let k = passed-on c.from_residual-in_err-handle_all.result c.from_residual-in_err-handle_all.ensures.1 c.in_err-handle_all.was e in
    c.handle_all.ensures.exhausted k [] c.none-all.ensures x L 0
    (started (rules_of g.A.Reversible.plain) x _ c.args.offers.now _ [] o c.in_ok-waiting.ensures.offered refl)

pub returns-in_err-handle_all-clause-left : goal.returns-in_err-handle_all-clause-left
returns-in_err-handle_all-clause-left g c = after-error (λ x o L.
    c.in_err-handle_all.ensures.left [] c.none-all.ensures x L 0
    (started (rules_of g.A.Reversible.plain) x _ c.args.offers.now _ [] o c.in_ok-waiting.ensures.offered refl))
    c.from_residual-in_err-handle_all.result

pub returns-clause-whole : goal.returns-clause-whole
returns-clause-whole g c = λ x o L.
    let f = simulation_of (rules_of g.A.Reversible.plain) x in
    let whole = c.in_ok-handle_all.ensures.whole [] c.none-all.ensures x L 0
    (started (rules_of g.A.Reversible.plain) x _ c.args.offers.now _ [] o c.in_ok-waiting.ensures.offered refl) in
    subst (λ (rows : List Row). IsWholeRun f rows c.handle_all.new.actors) (sym whole.1) whole.2

pub returns-in_err-waiting-clause-memory : goal.returns-in_err-waiting-clause-memory
returns-in_err-waiting-clause-memory g c = λ e x o L. inl refl

pub returns-in_err-handle_all-clause-memory : goal.returns-in_err-handle_all-clause-memory
returns-in_err-handle_all-clause-memory g c = λ e x o L.
    let k = passed-on c.from_residual-in_err-handle_all.result c.from_residual-in_err-handle_all.ensures.1 c.in_err-handle_all.was e in
    inr (c.handle_all.ensures.memory k [] c.none-all.ensures x L 0
    (started (rules_of g.A.Reversible.plain) x _ c.args.offers.now _ [] o c.in_ok-waiting.ensures.offered refl))

pub returns-clause-numbers : goal.returns-clause-numbers
returns-clause-numbers g c = λ x o L.
    c.in_ok-handle_all.ensures.numbers [] c.none-all.ensures x L 0
    (started (rules_of g.A.Reversible.plain) x _ c.args.offers.now _ [] o c.in_ok-waiting.ensures.offered refl)
