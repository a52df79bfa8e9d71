-- Items that go from one list to the end of another, one after another.
use Rattle.std.proofs.Common.{◌≡◌, ℕ, ◌+◌, ◌-◌, ◌<◌, List, [], ◌∷◌, ◌++◌, length, take, drop, reverse, get_or, sym, ap, ◌∙◌, arith}
use Rattle.std.proofs.lemmas.List.{append_assoc, reverse-append, take_more, drop_more}

module _ {T : Type 0} (xs now later : List T) (k : ℕ) (x : T) (more : later ≡ now ++ x ∷ []) where
  -- the first ones
  pub first-next : (before : List T) → k < length xs → x ≡ get_or xs k x → now ≡ before ++ take k xs → later ≡ before ++ take (k + 1) xs
  first-next before l at i =
      more ∙ (ap (λ z. z ++ x ∷ []) i ∙ (append_assoc before (take k xs) (x ∷ []) ∙ ap (λ z. before ++ z) (ap (λ z. take k xs ++ z ∷ []) at ∙ sym (take_more xs k x l))))

  -- those from a place on
  pub last-next : (all : List T) → k < length xs → x ≡ get_or xs k x → now ++ drop k xs ≡ all → later ++ drop (k + 1) xs ≡ all
  last-next all l at i =
      ap (λ z. z ++ drop (k + 1) xs) more ∙ (append_assoc now (x ∷ []) (drop (k + 1) xs) ∙ (ap (λ z. now ++ z) (ap (λ z. z ∷ drop (k + 1) xs) at ∙ sym (drop_more xs k x l)) ∙ i))

  -- the last ones, the last first
  pub back-next : (before : List T) → k < length xs → x ≡ get_or xs (length xs - 1 - k) x → now ≡ before ++ reverse (drop (length xs - k) xs) → later ≡ before ++ reverse (drop (length xs - (k + 1)) xs)
  back-next before l at i =
      let j = length xs - 1 - k in
      let p : length xs - k ≡ j + 1 = omega arith in
      let q : j ≡ length xs - (k + 1) = omega arith in
      let within : j < length xs = omega arith in
      more ∙ (ap (λ z. z ++ x ∷ []) (i ∙ ap (λ n. before ++ reverse (drop n xs)) p) ∙ (append_assoc before (reverse (drop (j + 1) xs)) (x ∷ []) ∙
      ap (λ z. before ++ z) (sym (reverse-append (x ∷ []) (drop (j + 1) xs)) ∙ (ap (λ z. reverse (z ∷ drop (j + 1) xs)) at ∙
      (ap reverse (sym (drop_more xs j x within)) ∙ ap (λ n. reverse (drop n xs)) q)))))
