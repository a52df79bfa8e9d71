use Rattle.std.proofs.Common.{◌≡◌, List, Some, sym, ap, ◌∙◌, subst, arith, option_copied, option_map, find, Ordering}
use Rattle.std.specs.List.Sorted.{IsStrictlySortedBy}
use Rattle.std.specs.declared.ops.Bound.TheVariants.{Unbounded}
use Rattle.std.specs.Map.{lookup}
use Rattle.std.specs.BTreeMap.{is_at, keys}
use Rattle.std.specs.BTreeMap.Range.{entries_between}
use Rattle.std.proofs.lemmas.Map.Entries.{btree_map_get_place}
use Rattle.virtual_time.specs.declared.letter.Sign.{Sign}
use Rattle.antimessages.specs.declared.occurrence.Occurrence.{Occurrence}
use Rattle.virtual_time.specs.Law.{is_plus}
use Rattle.antimessages.specs.Occurrences.{occurrence_cmp}
use Rattle.antimessages.proofs.First.{found, found-head}
use Rattle.antimessages.proofs.occurrences.next_after.Goals as goal

pub returns : goal.returns
returns c =
    let w = c.occurrence_order_law.ensures in
    let signs = c.args.signs.now in
    let newest = option_copied c.args.newest in
    let up = subst (λ (f : Occurrence → Occurrence → Ordering). IsStrictlySortedBy f (keys signs)) w.written c.len-len.ensures.ordered in
    let range = subst (λ (f : Occurrence → Occurrence → Ordering). c.range.result ≡ entries_between f c.behind.result Unbounded signs.entries) w.written (c.range.ensures.between tt) in
    let there = range ∙ ap (λ b. entries_between occurrence_cmp b Unbounded signs.entries) c.behind.ensures in
    c.first_plus.ensures ∙
    (ap (λ (es : List (Occurrence × Sign)). option_map (λ e. e.0.message) (find (λ e. is_plus e.1) es)) there ∙
    found w.exact w.messages signs.entries c.requires up (let l = c.len-len.ensures.len in let t = c.len-len.ensures.small in omega arith) newest
    (λ i k s is. btree_map_get_place w.occurrences signs i k s up is))

pub returns-then-is_after : goal.returns-then-is_after
returns-then-is_after c =
    let w = c.occurrence_order_law.ensures in
    let signs = c.args.signs.now in
    let up = subst (λ (f : Occurrence → Occurrence → Ordering). IsStrictlySortedBy f (keys signs)) w.written c.len-len.ensures.ordered in
    let o = c.in_ok-first.first.now in
    let s = c.in_ok-first.sign.now in
    let here = subst (λ (f : Occurrence → Occurrence → Ordering). lookup (is_at (f o)) signs.entries ≡ Some s) w.written c.in_ok-first.ensures.value in
    sym (found-head w.exact w.messages signs.entries c.requires up (let l = c.len-len.ensures.len in let t = c.len-len.ensures.small in omega arith)
    (option_copied c.args.newest) o s c.in_ok-first.ensures.first (sym c.if-is_plus.ensures) (sym c.if-is_after.ensures) here)
