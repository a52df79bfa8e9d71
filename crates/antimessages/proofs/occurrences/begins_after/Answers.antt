use Rattle.std.proofs.Common.{sym, ◌∙◌, subst, Ordering}
use Rattle.std.specs.List.Sorted.{IsStrictlySortedBy}
use Rattle.std.specs.BTreeMap.{keys}
use Rattle.antimessages.specs.declared.occurrence.Occurrence.{Occurrence}
use Rattle.antimessages.proofs.Beginning.{before-first}
use Rattle.antimessages.proofs.occurrences.begins_after.Goals as goal

pub returns-in-Some : goal.returns-in-Some
returns-in-Some c = λ t.
    let w = c.occurrence_order_law.ensures in
    let up = subst (λ (f : Occurrence → Occurrence → Ordering). IsStrictlySortedBy f (keys c.args.signs.now)) w.written c.len-len.ensures.ordered in
    before-first w.total w.occurrences w.exact c.args.message.now c.in-Some.first.now c.in-Some.field-0-1.now c.args.signs.now.entries c.requires up
    c.in-Some.ensures.first (sym c.is_before.ensures ∙ t)
