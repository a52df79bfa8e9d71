use Rattle.std.proofs.Common.{sym, ap, ◌∙◌, subst, Ordering}
use Rattle.std.specs.List.Sorted.{IsStrictlySortedBy}
use Rattle.std.specs.BTreeMap.{keys}
use Rattle.antimessages.specs.declared.occurrence.Occurrence.{Occurrence}
use Rattle.vlink.specs.Order.{message_order}
use Rattle.antimessages.specs.Counting.{signed_count}
use Rattle.antimessages.specs.Occurrences.{letters_of}
use Rattle.antimessages.proofs.Told.{one-tally}
use Rattle.antimessages.proofs.tally.Tally.counts_law.Goals as goal

pub returns-clause-told : goal.returns-clause-told
returns-clause-told c = λ other t h.
    let w = c.occurrence_order_law.ensures in
    let up = subst (λ (f : Occurrence → Occurrence → Ordering). IsStrictlySortedBy f (keys c.self.inside.signs)) w.written c.len-len.ensures.ordered in
    sym c.self.view_is ∙ (ap letters_of (one-tally w.occurrences w.exact c.self.inside.signs t.0 up t.2 c.self.invariant t.3
    (λ m. ap (signed_count message_order m) c.self.view_is ∙ (h m ∙ ap (signed_count message_order m) (sym t.1)))) ∙ t.1)
