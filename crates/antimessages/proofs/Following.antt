-- The first present message after another one, once one letter more is tallied.
use Rattle.std.proofs.Common.{◌≡◌, inl, inr, Bool, true, false, cond, List, ◌∷◌, Option, Some, None, pos, ◌-ℤ◌, refl, sym, ◌∙◌, subst, arith}
use Rattle.std.proofs.lemmas.Bool.{both_ways, cases_Bool, false_from_ne_true}
use Rattle.virtual_time.specs.Law.{Order, IsOrder, same, lesser, IsPresent, is_present}
use Rattle.virtual_time.specs.declared.letter.Letter.{Letter}
use Rattle.virtual_time.proofs.Letters.{counts-other}
use Rattle.virtual_time.proofs.Order.{same_cases, less-asym}
use Rattle.virtual_time.proofs.Presence.{present-true, present-from}
use Rattle.antimessages.specs.Counting.{change_by, change_between, is_after, present_after, HaveSameCounts}
use Rattle.antimessages.specs.declared.tally.Change.TheVariants.{BecamePresent, Same}
use Rattle.antimessages.proofs.After.{first_after-is, first_after-from, first_after-none}
use Rattle.antimessages.proofs.Agreeing.{present-same_count}

module _ {M : Type 0} (order : Order M) (O : IsOrder order) (newest : Option M) where
  -- where the same messages are present, of those that come after the newest, it is the same
  pub after-same : (a b : List (Letter M)) → ((m : M) → is_after order newest m ≡ true → is_present order b m ≡ is_present order a m) →
      present_after order newest a ≡ present_after order newest b
  after-same a b h = go (present_after order newest b) refl
    where
      there : (x : M) → is_after order newest x ≡ true → IsPresent order a x → IsPresent order b x
      there x k p = present-true order O b x (h x k ∙ present-from order O a x p)

      here : (x : M) → is_after order newest x ≡ true → IsPresent order b x → IsPresent order a x
      here x k p = present-true order O a x (sym (h x k) ∙ present-from order O b x p)

      none : (o : Option M) → present_after order newest a ≡ o → present_after order newest b ≡ None → o ≡ None
      none None e n = refl
      none (Some x) e n = absurd (let f = first_after-is order O newest a x e in first_after-none order O newest b n x (there x f.after f.present) f.after)

      go : (o : Option M) → present_after order newest b ≡ o → present_after order newest a ≡ o
      go None e = none (present_after order newest a) refl e
      go (Some x) e =
          let f = first_after-is order O newest b x e in
          first_after-from order O newest a x (record { present = here x f.after f.present; after = f.after; first = λ y p k. f.first y (there y k p) k })

  -- where one message more is present, it is that one or the one before
  module _ (m : M) (a b : List (Letter M)) (apart : (x : M) → same order x m ≡ false → is_present order b x ≡ is_present order a x)
      (was : is_present order a m ≡ false) (now : is_present order b m ≡ true) (behind : is_after order newest m ≡ true) where
    in-a : (x : M) → IsPresent order b x → same order x m ≡ false → IsPresent order a x
    in-a x p n = present-true order O a x (sym (apart x n) ∙ present-from order O b x p)

    in-b : (x : M) → IsPresent order a x → IsPresent order b x
    in-b x p = elim (same_cases order O x m) [
      | inl e ↦ present-true order O b x (subst (λ z. is_present order b z ≡ true) (sym e) now)
      | inr n ↦ present-true order O b x (apart x n ∙ present-from order O a x p)
    ]

    not-itself : (x : M) → x ≡ m → order.less x m ≡ false
    not-itself x e = subst (λ z. order.less z m ≡ false) (sym e) (O.irreflexive m)

    after-more : present_after order newest b ≡ lesser order m (present_after order newest a)
    after-more = go (present_after order newest a) refl
      where
        go : (o : Option M) → present_after order newest a ≡ o → present_after order newest b ≡ lesser order m o
        go None e = first_after-from order O newest b m (record {
          present = present-true order O b m now;
          after = behind;
          first = λ x p k. elim (same_cases order O x m) [
            | inl i ↦ not-itself x i
            | inr n ↦ absurd (first_after-none order O newest a e x (in-a x p n) k)
          ];
        })
        go (Some y) e = choose (order.less y m) refl
          where
            choose : (c : Bool) → order.less y m ≡ c → present_after order newest b ≡ cond c (Some y) (Some m)
            choose true w =
                let f = first_after-is order O newest a y e in
                first_after-from order O newest b y (record {
                  present = in-b y f.present;
                  after = f.after;
                  first = λ x p k. elim (same_cases order O x m) [
                    | inl i ↦ subst (λ z. order.less z y ≡ false) (sym i) (less-asym order O y m w)
                    | inr n ↦ f.first x (in-a x p n) k
                  ];
                })
            choose false w =
                let f = first_after-is order O newest a y e in
                first_after-from order O newest b m (record {
                  present = present-true order O b m now;
                  after = behind;
                  first = λ x p k. elim (same_cases order O x m) [
                    | inl i ↦ not-itself x i
                    | inr n ↦ false_from_ne_true _ (λ t. below x (f.first x (in-a x p n) k) t)
                  ];
                })
              where
                below : (x : M) → order.less x y ≡ false → order.less x m ≡ true → ⊥
                below x n t = elim (cases_Bool (order.less m y)) [
                  | inl l ↦ both_ways _ n (O.transitive x m y t l)
                  | inr l ↦ both_ways _ n (subst (λ z. order.less x z ≡ true) (O.total m y l w) t)
                ]

  module _ (l : Letter M) (a b : List (Letter M)) (h : HaveSameCounts order b (l ∷ a)) where
    -- the other messages are present as before
    others : (x : M) → same order x l.message ≡ false → is_present order b x ≡ is_present order a x
    others x n =
        let c = counts-other order O x l a n in
        present-same_count order x b a (h x ∙ (λ i. pos (c.0 i) -ℤ pos (c.1 i)))

    here-now : is_present order b l.message ≡ is_present order (l ∷ a) l.message
    here-now = present-same_count order l.message b (l ∷ a) (h l.message)

    pub next-same : change_by order l a ≡ Same → present_after order newest a ≡ present_after order newest b
    next-same e = after-same a b (λ x _. elim (same_cases order O x l.message) [
      | inl i ↦ subst (λ z. is_present order b z ≡ is_present order a z) (sym i) (here-now ∙ stays (is_present order a l.message) (is_present order (l ∷ a) l.message) e)
      | inr n ↦ others x n
    ])
      where
        stays : (c d : Bool) → change_between c d ≡ Same → d ≡ c
        stays c d e = grind arith

    pub next-more : change_by order l a ≡ BecamePresent → is_after order newest l.message ≡ true → present_after order newest b ≡ lesser order l.message (present_after order newest a)
    next-more e behind =
        let t = toggled (is_present order a l.message) (is_present order (l ∷ a) l.message) e in
        after-more l.message a b others t.0 (here-now ∙ t.1) behind
      where
        toggled : (c d : Bool) → change_between c d ≡ BecamePresent → (c ≡ false) × (d ≡ true)
        toggled c d e = (grind arith, grind arith)
