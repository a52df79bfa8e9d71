use Rattle.std.proofs.Common.{refl, subst, Ordering}
use Rattle.std.specs.List.Sorted.{IsStrictlySortedBy}
use Rattle.std.specs.BTreeMap.{keys}
use Rattle.antimessages.specs.declared.occurrence.Occurrence.{Occurrence}
use Rattle.antimessages.specs.Occurrences.{occurrence_cmp}
use Rattle.antimessages.proofs.Beginning.{begins-one, begins-taken}
use Rattle.antimessages.proofs.occurrences.take_first.Goals as goal

ordered : (c : goal.In-Some) → IsStrictlySortedBy occurrence_cmp (keys c.args.signs.now)
ordered c = subst (λ (f : Occurrence → Occurrence → Ordering). IsStrictlySortedBy f (keys c.args.signs.now)) c.occurrence_order_law.ensures.written c.len-len.ensures.ordered

pub returns-clause-one : goal.returns-clause-one
returns-clause-one c = λ _.
    let w = c.occurrence_order_law.ensures in
    begins-one w.total w.occurrences w.exact c.args.message.now c.args.signs.now.entries c.requires (ordered c) (c.if-not-begins_with_one.ensures refl)

pub returns-clause-tallied : goal.returns-clause-tallied
returns-clause-tallied c =
    let w = c.occurrence_order_law.ensures in
    (begins-taken w.total w.occurrences w.exact c.args.message.now c.args.signs.now.entries c.requires (ordered c) (c.if-not-begins_with_one.ensures refl)
    w.messages c.in-Some._first c.pop_first.new.self.entries c.in-Some.ensures.removal w.written c.in-Some.ensures.updates.0).0

pub returns-clause-counts : goal.returns-clause-counts
returns-clause-counts c = λ _.
    let w = c.occurrence_order_law.ensures in
    (begins-taken w.total w.occurrences w.exact c.args.message.now c.args.signs.now.entries c.requires (ordered c) (c.if-not-begins_with_one.ensures refl)
    w.messages c.in-Some._first c.pop_first.new.self.entries c.in-Some.ensures.removal w.written c.in-Some.ensures.updates.0).1
