-- What stands at the other keys of a table once the entry of one key is gone.
use Rattle.std.proofs.Common.{◌≡◌, ℕ, false, cond, List, [], ◌∷◌, Option, Some, Ordering, Less, Equal, Greater, string_bytes, nat_cmp, is_eq, refl, ap, sym, ◌∙◌}
use Rattle.std.proofs.lemmas.Bool.{false≢true}
use Rattle.std.proofs.lemmas.Cmp.{nat_list_cmp_total}
use Rattle.std.specs.Cmp.Lexicographic.{slice_cmp}
use Rattle.std.specs.Map.{remove_entry}
use Rattle.std.specs.Ordering.{match_ordering, ordering_reverse}
use Rattle.std.specs.BTreeMap.{is_at}
use Rattle.toml.specs.Data.{Data, get_member, same_key}
use Rattle.toml.specs.View.{view, members_view}
use Rattle.toml.proofs.Views.{Entry, at_text}

passed_by : (o : Ordering) (rest found : Option Data) → is_eq o ≡ false → match_ordering o rest found rest ≡ rest
passed_by Less rest found e = refl
passed_by Equal rest found e = absurd (false≢true (sym e))
passed_by Greater rest found e = refl

is_eq-reverse : (o : Ordering) → is_eq (ordering_reverse o) ≡ is_eq o
is_eq-reverse Less = refl
is_eq-reverse Equal = refl
is_eq-reverse Greater = refl

-- a key that is apart from this one is apart from each key that is this one
apart_from : (k l m : List ℕ) → slice_cmp nat_cmp k m ≡ Equal → same_key k l ≡ false → is_eq (slice_cmp nat_cmp l m) ≡ false
apart_from k l m same apart =
    ap is_eq (nat_list_cmp_total.antisymm l m) ∙ is_eq-reverse (slice_cmp nat_cmp m l) ∙ ap is_eq (sym (nat_list_cmp_total.congr k m l same)) ∙ apart

removed_at : (o : Ordering) (k l : List ℕ) (e : Entry) (es left : List Entry) → slice_cmp nat_cmp k (string_bytes e.0) ≡ o → same_key k l ≡ false
    → get_member l (members_view left) ≡ get_member l (members_view es) → get_member l (members_view (cond (is_eq o) es (e ∷ left))) ≡ get_member l (members_view (e ∷ es))
removed_at Less k l e es left is apart ih = ap (λ rest. match_ordering (slice_cmp nat_cmp l (string_bytes e.0)) rest (Some (view e.1)) rest) ih
removed_at Equal k l e es left is apart ih =
    sym (passed_by (slice_cmp nat_cmp l (string_bytes e.0)) (get_member l (members_view es)) (Some (view e.1)) (apart_from k l (string_bytes e.0) is apart))
removed_at Greater k l e es left is apart ih = ap (λ rest. match_ordering (slice_cmp nat_cmp l (string_bytes e.0)) rest (Some (view e.1)) rest) ih

pub get_member-removed : (k l : List ℕ) (es : List Entry) → same_key k l ≡ false
    → get_member l (members_view (remove_entry (is_at (at_text k)) es)) ≡ get_member l (members_view es)
get_member-removed k l [] apart = refl
get_member-removed k l (e ∷ es) apart =
    removed_at (slice_cmp nat_cmp k (string_bytes e.0)) k l e es (remove_entry (is_at (at_text k)) es) refl apart (get_member-removed k l es apart)
