use Rattle.std.proofs.Common.{◌≡◌, None, subst, IsSome, OnOk, OnErr, Ordering}
use Rattle.std.specs.Map.{lookup}
use Rattle.std.specs.BTreeMap.{is_at, insert_entry}
use Rattle.antimessages.specs.declared.occurrence.Occurrence.{Occurrence}
use Rattle.antimessages.specs.Occurrences.{occurrence_of, occurrence_cmp}
use Rattle.antimessages.proofs.Beginning.{settled}
use Rattle.antimessages.proofs.occurrences.put_back.Goals as goal

pub returns : goal.returns
returns c =
    let w = c.occurrence_order_law.ensures in
    let q = occurrence_of c.args.message.now 0 in
    let es = c.args.signs.now.entries in
    let fs = c.insert-sign.new.self.entries in
    settled c.insert-sign.result (fs ≡ insert_entry occurrence_cmp es q c.args.sign) (lookup (is_at (occurrence_cmp q)) es ≡ None)
    (subst (λ (f : Occurrence → Occurrence → Ordering). OnOk c.insert-sign.result (fs ≡ insert_entry f es q c.args.sign)) w.written c.insert-sign.ensures.entries)
    (subst (λ (f : Occurrence → Occurrence → Ordering). OnErr c.insert-sign.result (lookup (is_at (f q)) es ≡ None)) w.written c.insert-sign.ensures.absent)
    (λ n. let bad = subst IsSome n c.requires in cc)
