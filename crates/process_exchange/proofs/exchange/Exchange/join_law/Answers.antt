use Rattle.std.proofs.Common.{◌≡◌, map, sym, ◌∙◌, arith}
use Rattle.halves.specs.declared.LeftHalf.{LeftHalf}
use Rattle.process_exchange.specs.declared.mark.Standing.{Standing}
use Rattle.process_exchange.specs.Views.{standing_of}
use Rattle.halves.proofs.InLists.{half-within}
use Rattle.process_exchange.proofs.Marks.{half-told}
use Rattle.process_exchange.proofs.Joining.{marks-agree, all-joined}
use Rattle.process_exchange.proofs.exchange.Exchange.join_law.Given.{Over}
use Rattle.process_exchange.proofs.exchange.Exchange.join_law.Goals.{After-agree_law}
use Rattle.process_exchange.proofs.exchange.Exchange.join_law.Goals as goal

pub index-half-requires : goal.index-half-requires
index-half-requires g c = omega (arith, half-within c.self.inside.marks.items c.self.invariant.2.marked.count c.held.invariant.0.number_is, c.from.ensures)

-- the standing in hand is the one that the exchange has of it
same-standing : (g : Over) (c : After-agree_law g) → c.held.inside.standing ≡ standing_of (map (λ (b : LeftHalf Standing). b.value) c.self.inside.marks.items) c.held.inside.number
same-standing g c =
    let marks = c.self.inside.marks.items in
    let within = half-within marks c.self.invariant.2.marked.count c.held.invariant.0.number_is in
    sym (c.agree_law.ensures ∙ c.held.invariant.1.value) ∙ half-told marks c.from.result c.held.inside.number c.from.ensures _ within c.index-half.ensures

pub returns-clause-same : goal.returns-clause-same
returns-clause-same g c = rw (sym c.self.view_is, sym c.held.view_is) (marks-agree c.self.invariant.2 c.held.invariant.0 (same-standing g (goal.at.returns-clause-same g c).After-agree_law))

pub returns-clause-part : goal.returns-clause-part
returns-clause-part g c = rw (sym c.self.view_is, sym c.held.view_is) (all-joined c.self.invariant.2 c.held.invariant.0 (same-standing g (goal.at.returns-clause-part g c).After-agree_law)).part

pub returns-clause-enabled : goal.returns-clause-enabled
returns-clause-enabled g c = rw (sym c.self.view_is, sym c.held.view_is) (all-joined c.self.invariant.2 c.held.invariant.0 (same-standing g (goal.at.returns-clause-enabled g c).After-agree_law)).enabled

pub returns-clause-own : goal.returns-clause-own
returns-clause-own g c = rw (sym c.self.view_is, sym c.held.view_is) (all-joined c.self.invariant.2 c.held.invariant.0 (same-standing g (goal.at.returns-clause-own g c).After-agree_law)).own
