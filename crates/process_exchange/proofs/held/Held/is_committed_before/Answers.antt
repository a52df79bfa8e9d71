use Rattle.std.proofs.Common.{sym, arith}
use Rattle.reverse.specs.Rules.{rules_of}
use Rattle.process_exchange.proofs.Oldest.{oldest-tells}
use Rattle.process_exchange.proofs.held.Held.is_committed_before.Goals as goal

pub returns-then-ns : goal.returns-then-ns
returns-then-ns g c =
    let h = c.self.invariant.0 in
    let told = oldest-tells (rules_of g.R.Reversible.plain) c.actor_rules_law.ensures.order c.args.moment _ h.safe.well.ascending
    c.oldest.result (c.oldest.ensures _ _ h.stands) c.is_none_before.result c.is_none_before.ensures in
    rw (sym c.self.view_is) (λ none. (omega arith, told.0 none), λ both. told.1 both.1)
