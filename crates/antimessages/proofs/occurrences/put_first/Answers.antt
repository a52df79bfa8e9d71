use Rattle.std.proofs.Common.{◌≡◌, Some, None, refl, sym, ap, ◌∙◌, subst, IsSome, Ordering}
use Rattle.std.specs.List.Sorted.{IsStrictlySortedBy}
use Rattle.std.specs.Map.{lookup}
use Rattle.std.specs.BTreeMap.{is_at, insert_entry, keys}
use Rattle.antimessages.specs.declared.occurrence.Occurrence.{Occurrence}
use Rattle.antimessages.specs.Occurrences.{occurrence_of, occurrence_cmp, AreTallied}
use Rattle.antimessages.proofs.Beginning.{restored, none-counts, none-with}
use Rattle.antimessages.proofs.Entering.{put-both}
use Rattle.antimessages.proofs.occurrences.put_first.Goals as goal

-- none stood at the ordinal 0, and so none counted
pub returns-in-None-clause-none : goal.returns-in-None-clause-none
returns-in-None-clause-none c = λ _.
    none-counts c.args.message.now c.args.signs.now.entries c.requires
    (subst (λ (f : Occurrence → Occurrence → Ordering). lookup (is_at (f (occurrence_of c.args.message.now 0))) c.args.signs.now.entries ≡ None) c.occurrence_order_law.ensures.written
    (sym c.in_ok-insert.ensures.old ∙ c.in-None.is))

pub returns-in-None-clause-tallied : goal.returns-in-None-clause-tallied
returns-in-None-clause-tallied c =
    let w = c.occurrence_order_law.ensures in
    (put-both w.total w.exact w.messages c.args.message.now 0 c.args.sign c.args.signs.now.entries c.insert.new.self.entries
    w.written c.requires (returns-in-None-clause-none c refl ∙ none-with c.args.sign) c.in_ok-insert.ensures.entries c.in_ok-insert.ensures.updates.0).0

pub returns-in-None-clause-counts : goal.returns-in-None-clause-counts
returns-in-None-clause-counts c = λ _.
    let w = c.occurrence_order_law.ensures in
    (put-both w.total w.exact w.messages c.args.message.now 0 c.args.sign c.args.signs.now.entries c.insert.new.self.entries
    w.written c.requires (returns-in-None-clause-none c refl ∙ none-with c.args.sign) c.in_ok-insert.ensures.entries c.in_ok-insert.ensures.updates.0).1

pub put_back-requires : goal.put_back-requires
put_back-requires c =
    let there = subst (λ (f : Occurrence → Occurrence → Ordering). lookup (is_at (f (occurrence_of c.args.message.now 0))) c.insert.new.self.entries ≡ Some c.args.sign)
    c.occurrence_order_law.ensures.written c.in_ok-insert.ensures.updates.1 in
    subst IsSome (sym there) refl

pub returns-in-Some-clause-stays : goal.returns-in-Some-clause-stays
returns-in-Some-clause-stays c = λ _.
    let w = c.occurrence_order_law.ensures in
    let q = occurrence_of c.args.message.now 0 in
    let es = c.args.signs.now.entries in
    let s = c.in-Some.tallied in
    let there = subst (λ (f : Occurrence → Occurrence → Ordering). lookup (is_at (f q)) es ≡ Some s) w.written (sym c.in_ok-insert.ensures.old ∙ c.in-Some.is) in
    let e = subst (λ (f : Occurrence → Occurrence → Ordering). c.insert.new.self.entries ≡ insert_entry f es q c.args.sign) w.written c.in_ok-insert.ensures.entries in
    let up = subst (λ (f : Occurrence → Occurrence → Ordering). IsStrictlySortedBy f (keys c.args.signs.now)) w.written c.in_ok-insert.ensures.was_ordered in
    c.put_back.ensures ∙ (ap (λ gs. insert_entry occurrence_cmp gs q s) e ∙ restored w.occurrences es q c.args.sign s up there)

pub returns-in-Some-clause-tallied : goal.returns-in-Some-clause-tallied
returns-in-Some-clause-tallied c = subst AreTallied (sym (returns-in-Some-clause-stays c refl)) c.requires
