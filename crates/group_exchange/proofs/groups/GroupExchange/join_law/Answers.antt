use Rattle.std.proofs.Common.{◌≡◌, Some, map, slice_get, sym, ◌∙◌, arith}
use Rattle.halves.specs.declared.LeftHalf.{LeftHalf}
use Rattle.halves.proofs.InLists.{half-within}
use Rattle.group_exchange.specs.declared.mark.Standing.{Standing}
use Rattle.group_exchange.proofs.Halves.{half-told, mark-told, it-stands, seen-low, enabled-now, parts-now}
use Rattle.group_exchange.proofs.groups.GroupExchange.join_law.Given.{Over}
use Rattle.group_exchange.proofs.groups.GroupExchange.join_law.Goals.{After-agree_law}
use Rattle.group_exchange.proofs.groups.GroupExchange.join_law.Goals as goal

pub index-half-requires : goal.index-half-requires
index-half-requires g c = omega (arith, half-within c.self.inside.marks.items c.self.invariant.3.marked.count c.group.invariant.0.number_is, c.from.ensures)

-- the standing in hand is the one that the exchange has of it
same-standing : (g : Over) (c : After-agree_law g) → slice_get (map (λ (b : LeftHalf Standing). b.value) c.self.inside.marks.items) c.group.inside.number ≡ Some c.group.inside.standing
same-standing g c =
    let marks = c.self.inside.marks.items in
    let within = half-within marks c.self.invariant.3.marked.count c.group.invariant.0.number_is in
    half-told marks c.from.result c.group.inside.number c.from.ensures _ _ within c.index-half.ensures (c.agree_law.ensures ∙ c.group.invariant.1.value)

pub returns-clause-same : goal.returns-clause-same
returns-clause-same g c = rw (sym c.self.view_is, sym c.group.view_is)
    (sym (mark-told _ c.group.inside.number c.group.inside.standing (same-standing g (goal.at.returns-clause-same g c).After-agree_law) c.group.invariant.3))

pub returns-clause-within : goal.returns-clause-within
returns-clause-within g c = rw (sym c.group.view_is) c.group.invariant.0.number_is

pub returns-clause-seen : goal.returns-clause-seen
returns-clause-seen g c = rw (sym c.self.view_is, sym c.group.view_is)
    (seen-low c.self.invariant.3 c.group.inside.number c.group.inside.standing (same-standing g (goal.at.returns-clause-seen g c).After-agree_law))

pub returns-clause-stands : goal.returns-clause-stands
returns-clause-stands g c = rw (sym c.self.view_is, sym c.group.view_is)
    (it-stands c.self.invariant.3 c.group.inside.number c.group.inside.standing (same-standing g (goal.at.returns-clause-stands g c).After-agree_law)).same

pub returns-clause-enabled : goal.returns-clause-enabled
returns-clause-enabled g c = rw (sym c.self.view_is, sym c.group.view_is)
    (enabled-now c.self.invariant.3 c.group.inside.number c.group.inside.standing (same-standing g (goal.at.returns-clause-enabled g c).After-agree_law) c.group.invariant.0)

pub returns-clause-parts : goal.returns-clause-parts
returns-clause-parts g c = rw (sym c.self.view_is, sym c.group.view_is)
    (parts-now c.self.invariant.3 c.group.inside.number c.group.inside.standing (same-standing g (goal.at.returns-clause-parts g c).After-agree_law) c.group.invariant.0)
