-- The moments that are listed for groups, one letter after another.
use Rattle.std.proofs.Common.{◌≡◌, ◌≢◌, ◌<◌, ◌≤◌, ◌+◌, ℕ, inl, inr, cond, min, List, [], ◌∷◌, ◌++◌, Option, None, Some, length, get_or, slice_get, take, option_map, refl, sym, ap, ◌∙◌, append-nil, eq-eqb, ne_eqb, ◌==◌}
use Rattle.std.proofs.lemmas.Bool.{cases_eq}
use Rattle.std.proofs.lemmas.List.{take_more}
use Rattle.std.proofs.lemmas.List.Elements.{filter-append}
use Rattle.std.proofs.lemmas.Option.{slice_get_past}
use Rattle.vlink.specs.Letters.{Letter}
use Rattle.vlink.specs.Order.{message_order}
use Rattle.virtual_time.specs.Law.{lowest, times_of}
use Rattle.group_boxes.specs.Boxing.{for_group, is_number, is_of}
use Rattle.group_boxes.proofs.Lists.{for-more, times-append}
use Rattle.group_turns.specs.Section.{AreListed}

-- of a group the moment was lowered by one letter more
lowered : (t : ℕ) (before after : List Letter) →
    ((d : ℕ) → lowest d (times_of message_order after) ≡ min t (lowest d (times_of message_order before))) → (first now new : Option ℕ) →
    now ≡ option_map (λ d. lowest d (times_of message_order before)) first → new ≡ option_map (min t) now →
    new ≡ option_map (λ d. lowest d (times_of message_order after)) first
lowered t before after e None now new a b = b ∙ ap (option_map (min t)) a
lowered t before after e (Some d) now new a b = b ∙ (ap (option_map (min t)) a ∙ ap (λ z. Some z) (sym (e d)))

-- beyond the last place nothing is lowered
pub past : (f : ℕ → ℕ) (xs : List ℕ) (p : ℕ) → length xs ≤ p → slice_get xs p ≡ option_map f (slice_get xs p)
past f xs p out = let none = slice_get_past xs p out in none ∙ ap (option_map f) (sym none)

-- no letter lowers a moment
pub none-listed : (owners first : List ℕ) → AreListed owners [] first first
none-listed owners first g = go (slice_get first g)
  where
    go : (d : Option ℕ) → d ≡ option_map (λ d. lowest d (times_of message_order [])) d
    go None = refl
    go (Some n) = refl

module _ (owners : List ℕ) (ls : List Letter) (i : ℕ) (l : Letter) (within : i < length ls) (is : l ≡ get_or ls i l) where
  taken : take (i + 1) ls ≡ take i ls ++ l ∷ []
  taken = take_more ls i l within ∙ ap (λ z. take i ls ++ z ∷ []) (sym is)

  -- a letter to a process of group o
  pub listed-more : (o : ℕ) → slice_get owners l.message.receiver ≡ Some o → (first now new : List ℕ) → AreListed owners (take i ls) first now →
      slice_get new o ≡ option_map (min l.message.time) (slice_get now o) → ((q : ℕ) → q ≢ o → slice_get new q ≡ slice_get now q) →
      AreListed owners (take (i + 1) ls) first new
  listed-more o owned first now new listed there others g =
      let before = for_group message_order owners g (take i ls) in
      let after = for_group message_order owners g (take (i + 1) ls) in
      let all : after ≡ before ++ cond (o == g) (l ∷ []) [] = ap (for_group message_order owners g) taken ∙ for-more owners l o owned g (take i ls) in
      elim (cases_eq g o) [
        | inl a ↦
            let goes : after ≡ before ++ l ∷ [] = all ∙ ap (λ b. before ++ cond b (l ∷ []) []) (eq-eqb o g (sym a)) in
            lowered l.message.time before after (λ d. ap (λ z. lowest d (times_of message_order z)) goes ∙ times-append d before (l ∷ []))
            (slice_get first g) (slice_get now g) (slice_get new g) (listed g)
            (ap (slice_get new) a ∙ (there ∙ ap (λ q. option_map (min l.message.time) (slice_get now q)) (sym a)))
        | inr n ↦
            let stays : after ≡ before = all ∙ (ap (λ b. before ++ cond b (l ∷ []) []) (ne_eqb o g (λ e. n (sym e))) ∙ append-nil before) in
            others g n ∙ (listed g ∙ ap (λ z. option_map (λ d. lowest d (times_of message_order z)) (slice_get first g)) (sym stays))
      ]

  -- a letter to a process that is of no group
  pub listed-none : slice_get owners l.message.receiver ≡ None → (first now : List ℕ) → AreListed owners (take i ls) first now → AreListed owners (take (i + 1) ls) first now
  listed-none alone first now listed g =
      let before = for_group message_order owners g (take i ls) in
      let all : for_group message_order owners g (take (i + 1) ls) ≡ before =
      ap (for_group message_order owners g) taken ∙ (filter-append (λ (x : Letter). is_of owners g x.message.receiver) (take i ls) (l ∷ []) ∙
      (ap (λ q. before ++ cond (is_number g q) (l ∷ []) []) alone ∙ append-nil before)) in
      listed g ∙ ap (λ z. option_map (λ d. lowest d (times_of message_order z)) (slice_get first g)) (sym all)
