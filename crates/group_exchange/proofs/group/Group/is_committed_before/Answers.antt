use Rattle.std.proofs.Common.{◌≡◌, Bool, true, false, not, refl, sym, ◌∙◌}
use Rattle.group_exchange.proofs.group.Group.is_committed_before.Goals as goal

is-false : (b : Bool) → not b ≡ true → b ≡ false
is-false true e = sym e
is-false false e = refl

pub returns-then-ns-clause-each : goal.returns-then-ns-clause-each
returns-then-ns-clause-each g c =
    let h = c.self.invariant.0 in
    rw (sym c.self.view_is) (λ none p o. c.is_done_before.ensures.members (is-false c.is_done_before.result none) g.J.GroupRun.setting _ h.stands p (h.ours p ∙ o))
