use Rattle.std.proofs.Common.{map, refl, sym, ap, ◌∙◌, subst}
use Rattle.reverse.specs.Rules.{rules_of}
use Rattle.process_queues.specs.Queues.{StandsFor}
use Rattle.process_queues.proofs.Counting.{of-messages}
use Rattle.process_queues.proofs.Stragglers.{next-beside, next-left}
use Rattle.process_queues.proofs.Pasts.{messages-of}
use Rattle.process_queues.proofs.Seals.{first-sealed, sealed-zero}
use Rattle.process_queues.proofs.Standing.{commit-stands, commit-stays, keeps}
use Rattle.process_queues.proofs.process.Process.seal_oldest.Goals as goal

pub returns-then-not-can_seal-clause-sealed : goal.returns-then-not-can_seal-clause-sealed
returns-then-not-can_seal-clause-sealed g c = λ opening part h. commit-stays h (sym (c.if-not-can_seal.ensures opening part h))

pub forget_oldest-noted-requires : goal.forget_oldest-noted-requires
forget_oldest-noted-requires g c =
    let i = c.self.invariant in
    let first = first-sealed i.2 (sym (c.if-not-can_seal.ensures i.0 i.1 (subst (λ q. StandsFor (rules_of g.R.Reversible.plain) g.R.Reversible.is_value i.0 i.1 q.queues) c.self.view_is i.2))) in
    (_, first.1, _, _, first.3)

pub returns-clause-sealed : goal.returns-clause-sealed
returns-clause-sealed g c opening part h =
    let R = of-messages g.R.Reversible.plain c.actor_rules_law.ensures.order c.actor_rules_law.ensures.undoes in
    let k = rw (← c.self.view_is) at h in
    let can = sym (c.if-not-can_seal.ensures opening part h) in
    let first = first-sealed k can in
    let noted = c.from.ensures ∙ c.forget_oldest-noted.ensures.noted _ first.1 _ _ first.3 in
    commit-stands R k first.0 first.1 c.forget_oldest-noted.new.self c.self.inside.tally first.2 can
    (c.forget_oldest-noted.ensures.forgotten _ first.1 _ _ first.3) c.forget_oldest-noted.ensures.state refl (rw noted refl)

pub invariant_of-self : goal.invariant_of-self
invariant_of-self g c =
    let R = of-messages g.R.Reversible.plain c.actor_rules_law.ensures.order c.actor_rules_law.ensures.undoes in
    let t = c.self.inside.tally in
    keeps c.self.view_is c.self.invariant (returns-clause-sealed g c) (λ opening part h s.
    let can = sym (c.if-not-can_seal.ensures opening part (subst (λ q. StandsFor (rules_of g.R.Reversible.plain) g.R.Reversible.is_value opening part q.queues) c.self.view_is h)) in
    let first = first-sealed h can in
    let done = (c.forget_oldest-noted.ensures.forgotten _ first.1 _ _ first.3).done in
    c.self.invariant.3 ∙ (next-left R h t refl first.0 first.1 _ first.2 (sealed-zero R h t refl first.0 first.1 first.2 can)
    (ap (map (λ e. e.message)) done ∙ messages-of (rules_of g.R.Reversible.plain) _ first.1) ∙ sym (next-beside R s t refl)))
