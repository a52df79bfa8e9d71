-- The first present message after another one, by what is true of it.
use Rattle.std.proofs.Common.{◌≡◌, true, false, ◌&&◌, List, map, filter, Option, Some, None, ap, arith}
use Rattle.std.proofs.lemmas.Bool.{and_parts, and_from}
use Rattle.virtual_time.specs.Law.{Order, IsOrder, times_in, IsIn, IsPresent, is_present}
use Rattle.virtual_time.specs.declared.letter.Letter.{Letter}
use Rattle.virtual_time.proofs.Lists.{in-filter, in-filter_from}
use Rattle.virtual_time.proofs.Least.{least-none, least-some, least-from}
use Rattle.virtual_time.proofs.Presence.{present-true, present-from, in-messages}
use Rattle.antimessages.specs.Counting.{is_after, present_after}

module _ {M : Type 0} (order : Order M) (O : IsOrder order) where
  -- m is present and comes after the newest, and nothing that does so comes before it
  pub record IsFirstAfter (newest : Option M) (tally : List (Letter M)) (m : M) : Type 0 where
    pub present : IsPresent order tally m
    pub after : is_after order newest m ≡ true
    pub first : (x : M) → IsPresent order tally x → is_after order newest x ≡ true → order.less x m ≡ false

  module _ (newest : Option M) (tally : List (Letter M)) where
    wanted-in : (m : M) → IsPresent order tally m → is_after order newest m ≡ true →
        IsIn order m (filter (λ m. is_present order tally m && is_after order newest m) (map (λ l. l.message) tally))
    wanted-in m h a =
        in-filter_from order O (λ m. is_present order tally m && is_after order newest m) m (map (λ l. l.message) tally)
        (and_from _ _ (present-from order O tally m h) a) (in-messages order O m tally (omega arith))

    pub first_after-is : (m : M) → present_after order newest tally ≡ Some m → IsFirstAfter newest tally m
    first_after-is m e =
        let l = least-some order O (filter (λ m. is_present order tally m && is_after order newest m) (map (λ l. l.message) tally)) m e in
        let i = in-filter order O (λ m. is_present order tally m && is_after order newest m) m (map (λ l. l.message) tally) l.inside in
        let a = and_parts (is_present order tally m) (is_after order newest m) i.0 in
        record {
          present = present-true order O tally m a.0;
          after = a.1;
          first = λ x h b. l.lowest x (wanted-in x h b);
        }

    pub first_after-from : (m : M) → IsFirstAfter newest tally m → present_after order newest tally ≡ Some m
    first_after-from m h =
        least-from order O (filter (λ m. is_present order tally m && is_after order newest m) (map (λ l. l.message) tally)) m
        (record {
          inside = wanted-in m h.present h.after;
          lowest = λ x i.
              let k = in-filter order O (λ m. is_present order tally m && is_after order newest m) x (map (λ l. l.message) tally) i in
              let a = and_parts (is_present order tally x) (is_after order newest x) k.0 in
              h.first x (present-true order O tally x a.0) a.1;
        })

    pub first_after-none : present_after order newest tally ≡ None → (m : M) → IsPresent order tally m → is_after order newest m ≡ true → ⊥
    first_after-none e m h a =
        let i = wanted-in m h a in
        let n = ap (times_in order m) (least-none order O (filter (λ m. is_present order tally m && is_after order newest m) (map (λ l. l.message) tally)) e) in
        omega arith
