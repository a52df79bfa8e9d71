-- Digits at the front of a text, and the number that they write.
use Rattle.std.proofs.Common.{◌≡◌, ◌∙◌, ℕ, ◌+◌, ◌-◌, ◌*◌, ◌^◌, ◌<◌, ◌≤◌, ◌≢◌, false, cond, nat_lt, List, [], ◌∷◌, ◌++◌, length, get_or, drop, refl, sym, ap, subst, inl, inr, ◌⊎◌, append_assoc, arith, decimal, lt-ltb, le-ltb}
use Rattle.std.specs.Prelude.{⊤}
use Rattle.std.specs.Char.{digit_value, is_ascii_digit}
use Rattle.std.specs.Int.{IsInRange}
use Rattle.std.specs.Str.Parse.{AllDigits, digits_value}
use Rattle.std.proofs.lemmas.Bool.{cases_lt}
use Rattle.std.proofs.Math.Seq.{take-append_seam}
use Rattle.std.proofs.lemmas.List.{append_cancel_left, drop_more}
use Rattle.std.proofs.lemmas.Bool.Decides.{nat_tests}
use Rattle.std.proofs.lemmas.Int.Digits.{digits_value_push}
use Rattle.std.proofs.lemmas.Str.Parse.{IsNumeralModel, numerals_by_value, tells_digits, digits_value-take-le, digit_from_value}
use Rattle.std.proofs.lemmas.Fmt.{decimal_is_IsNumeral, digits_value-decimal, decimal_nonempty, decimal_digit, first_decimal, decimal-digits_value}
use Rattle.journal_text.specs.Text.{number_then}
use Rattle.journal_text.specs.Fronts.{LeadingDigit, BeginsWithNone}

-- no digit stands first
abbrev pub NoDigitFirst : List ℕ → Type 0
NoDigitFirst [] = ⊤
NoDigitFirst (c ∷ cs) = 10 ≤ digit_value c

-- the digits at the front of a text
abbrev pub digits_front : List ℕ → List ℕ
digits_front [] = []
digits_front (c ∷ cs) = cond (nat_lt (digit_value c) 10) (c ∷ digits_front cs) []

none_front : (rest : List ℕ) → NoDigitFirst rest → digits_front rest ≡ []
none_front [] h = refl
none_front (c ∷ cs) h = ap (λ t. cond t (c ∷ digits_front cs) []) (le-ltb (digit_value c) 10 h)

pub digits_front-append : (ds rest : List ℕ) → AllDigits 10 ds → NoDigitFirst rest → digits_front (ds ++ rest) ≡ ds
digits_front-append [] rest h n = none_front rest n
digits_front-append (d ∷ ds) rest h n =
    ap (λ t. cond t (d ∷ digits_front (ds ++ rest)) []) (lt-ltb (digit_value d) 10 h.0) ∙ ap (λ (x : List ℕ). d ∷ x) (digits_front-append ds rest h.1 n)

-- a text has one front of digits that no digit follows
pub one_front : (ds es r s : List ℕ) → AllDigits 10 ds → AllDigits 10 es → NoDigitFirst r → NoDigitFirst s → ds ++ r ≡ es ++ s → (ds ≡ es) × (r ≡ s)
one_front ds es r s h k n m e =
    let same : ds ≡ es = sym (digits_front-append ds r h n) ∙ ap digits_front e ∙ digits_front-append es s k m in
    (same, append_cancel_left ds r s (e ∙ ap (λ (x : List ℕ). x ++ s) (sym same)))

pub numerals : IsNumeralModel (AllDigits 10) (digits_value 10)
numerals = numerals_by_value (AllDigits 10) tells_digits

pub decimal_digits : (n : ℕ) → n < 2 ^ 32 → AllDigits 10 (decimal n)
decimal_digits n h = (decimal_is_IsNumeral n (omega arith)).0.1

pub decimal_value : (n : ℕ) → n < 2 ^ 32 → digits_value 10 (decimal n) ≡ n
decimal_value n h = digits_value-decimal numerals n (omega arith)

pub number_then-append : (end n : ℕ) (rest : List ℕ) → number_then end n ++ rest ≡ decimal n ++ end ∷ rest
number_then-append end n rest = append_assoc (decimal n) (end ∷ []) rest

-- the number at the front of a text is one, and so is what is behind it
pub one_number : (end m n : ℕ) (r s : List ℕ) → 10 ≤ digit_value end → m < 2 ^ 32 → n < 2 ^ 32 → number_then end m ++ r ≡ number_then end n ++ s → (m ≡ n) × (r ≡ s)
one_number end m n r s h small low e =
    let both = one_front (decimal m) (decimal n) (end ∷ r) (end ∷ s) (decimal_digits m small) (decimal_digits n low) h h
    (sym (number_then-append end m r) ∙ e ∙ number_then-append end n s) in
    (sym (decimal_value m small) ∙ ap (digits_value 10) both.0 ∙ decimal_value n low, cc both.1)

digit_value-is : (c : ℕ) → IsInRange 48 57 c → digit_value c ≡ c - 48
digit_value-is c h = grind (arith, nat_tests)

-- a text whose front digits write no number below 2 ^ 32, or end in another way, begins with no number
pub no_number : (end : ℕ) (ds behind : List ℕ) → 10 ≤ digit_value end → AllDigits 10 ds → NoDigitFirst behind → ((n : ℕ) → n < 2 ^ 32 → ds ≡ decimal n → (rest : List ℕ) → behind ≡ end ∷ rest → ⊥) →
    BeginsWithNone (λ n. n < 2 ^ 32) (number_then end) (ds ++ behind)
no_number end ds behind h digits none never n rest small e =
    let both = one_front ds (decimal n) behind (end ∷ rest) digits (decimal_digits n small) none h (e ∙ number_then-append end n rest) in
    never n small both.0 rest both.1

pub not_digit : (c : ℕ) → is_ascii_digit c ≡ false → 10 ≤ digit_value c
not_digit c h = grind (arith, nat_tests)

-- so much of a text was read: digits that write this value
pub record IsReadTo (text rest : List ℕ) (value : ℕ) : Type 0 where
  pub seen : List ℕ
  pub whole : text ≡ seen ++ rest
  pub digits : AllDigits 10 seen
  pub value_is : value ≡ digits_value 10 seen
  pub small : value < 2 ^ 32

one_longer : (seen : List ℕ) (b : ℕ) → AllDigits 10 seen → digit_value b < 10 → AllDigits 10 (seen ++ b ∷ [])
one_longer [] b h k = (k, tt)
one_longer (d ∷ ds) b h k = (h.0, one_longer ds b h.1 k)

value_longer : (seen : List ℕ) (b : ℕ) → digit_value b < 10 → digits_value 10 (seen ++ b ∷ []) ≡ digits_value 10 seen * 10 + (b - 48)
value_longer seen b h = omega (arith, digits_value_push 10 seen b, digit_value-is b (digit_from_value b h))

pub one_more : (text behind : List ℕ) (b value : ℕ) → IsReadTo text (b ∷ behind) value → digit_value b < 10 → value * 10 + (b - 48) < 2 ^ 32 → IsReadTo text behind (value * 10 + (b - 48))
one_more text behind b value read digit small = record {
  seen = read.seen ++ b ∷ [];
  whole = read.whole ∙ sym (append_assoc read.seen (b ∷ []) behind);
  digits = one_longer read.seen b read.digits digit;
  value_is = omega (arith, value_longer read.seen b digit, read.value_is);
  small = small;
}

-- where digits without a leading zero end, their number is read
pub number_ends : (end : ℕ) (text behind : List ℕ) (value : ℕ) → is_ascii_digit end ≡ false → LeadingDigit text → IsReadTo text (end ∷ behind) value → text ≡ number_then end value ++ behind
number_ends end text behind value h leading read =
    read.whole ∙ ap (λ (ds : List ℕ). ds ++ end ∷ behind) (sym (written read.seen (subst LeadingDigit read.whole leading) read.digits read.value_is)) ∙ sym (number_then-append end value behind)
  where
    written : (seen : List ℕ) → LeadingDigit (seen ++ end ∷ behind) → AllDigits 10 seen → value ≡ digits_value 10 seen → decimal value ≡ seen
    written [] first digits is = absurd (omega (arith, first.0, first.1, not_digit end h, digit_value-is end (omega (arith, first.0), first.1)))
    written (d ∷ ds) first digits is =
        ap decimal is ∙ decimal-digits_value numerals (d ∷ ds) digits (omega arith) (λ zero. absurd (omega (arith, zero, first.0))) (omega (arith, is, read.small))

-- where digits end in another way, no number is read
pub number_is_cut : (end : ℕ) (text rest : List ℕ) (value : ℕ) → is_ascii_digit end ≡ false → IsReadTo text rest value → NoDigitFirst rest → ((behind : List ℕ) → rest ≡ end ∷ behind → ⊥) →
    BeginsWithNone (λ n. n < 2 ^ 32) (number_then end) text
number_is_cut end text rest value h read none other =
    subst (BeginsWithNone (λ n. n < 2 ^ 32) (number_then end)) (sym read.whole)
    (no_number end read.seen rest (not_digit end h) read.digits none (λ n small e behind k. other behind k))

digits_front-longer : (ds rest : List ℕ) → AllDigits 10 ds → digits_front (ds ++ rest) ≡ ds ++ digits_front rest
digits_front-longer [] rest h = refl
digits_front-longer (d ∷ ds) rest h =
    ap (λ t. cond t (d ∷ digits_front (ds ++ rest)) []) (lt-ltb (digit_value d) 10 h.0) ∙ ap (λ (x : List ℕ). d ∷ x) (digits_front-longer ds rest h.1)

front_of_value : (ds more : List ℕ) → digits_value 10 ds ≤ digits_value 10 (ds ++ more)
front_of_value ds more =
    subst (λ (x : List ℕ). digits_value 10 x ≤ digits_value 10 (ds ++ more)) (take-append_seam ds more) (digits_value-take-le 10 (ds ++ more) (length ds) (omega arith))

-- where the digits write 2 ^ 32 or more, no number is read
pub number_is_great : (end : ℕ) (text behind : List ℕ) (b value : ℕ) → is_ascii_digit end ≡ false → IsReadTo text (b ∷ behind) value → digit_value b < 10 → 2 ^ 32 ≤ value * 10 + (b - 48) →
    BeginsWithNone (λ n. n < 2 ^ 32) (number_then end) text
number_is_great end text behind b value h read digit great n rest small e =
    let ds = read.seen ++ b ∷ [] in
    let whole : text ≡ ds ++ behind = read.whole ∙ sym (append_assoc read.seen (b ∷ []) behind) in
    let same : ds ++ digits_front behind ≡ decimal n =
    sym (digits_front-longer ds behind (one_longer read.seen b read.digits digit)) ∙ ap digits_front (sym whole ∙ e ∙ number_then-append end n rest)
    ∙ digits_front-append (decimal n) (end ∷ rest) (decimal_digits n small) (not_digit end h) in
    omega (arith, front_of_value ds (digits_front behind), ap (digits_value 10) same, decimal_value n small, value_longer read.seen b digit, read.value_is, great, small)

-- the same of what is left, as its first byte and what is behind that
module _ (end : ℕ) (text rest : List ℕ) (value : ℕ) (h : is_ascii_digit end ≡ false) (read : IsReadTo text rest value) (some : 0 < length rest) where
  pub first_read : IsReadTo text (get_or rest 0 0 ∷ drop 1 rest) value
  first_read = subst (λ (r : List ℕ). IsReadTo text r value) (drop_more rest 0 0 some) read

  pub ends_there : LeadingDigit text → get_or rest 0 0 ≡ end → text ≡ number_then end value ++ drop 1 rest
  ends_there leading e = number_ends end text (drop 1 rest) value h leading (subst (λ (b : ℕ). IsReadTo text (b ∷ drop 1 rest) value) e first_read)

  pub cut_there : get_or rest 0 0 ≢ end → 10 ≤ digit_value (get_or rest 0 0) → BeginsWithNone (λ n. n < 2 ^ 32) (number_then end) text
  cut_there other none = number_is_cut end text (get_or rest 0 0 ∷ drop 1 rest) value h first_read none (λ behind e. other (ap (λ (r : List ℕ). get_or r 0 0) e))

  pub great_there : digit_value (get_or rest 0 0) < 10 → 2 ^ 32 ≤ value * 10 + (get_or rest 0 0 - 48) → BeginsWithNone (λ n. n < 2 ^ 32) (number_then end) text
  great_there digit great = number_is_great end text (drop 1 rest) (get_or rest 0 0) value h first_read digit great

  pub more_there : digit_value (get_or rest 0 0) < 10 → value * 10 + (get_or rest 0 0 - 48) < 2 ^ 32 → IsReadTo text (drop 1 rest) (value * 10 + (get_or rest 0 0 - 48))
  more_there digit small = one_more text (drop 1 rest) (get_or rest 0 0) value first_read digit small

pub nothing_there : (end : ℕ) (text rest : List ℕ) (value : ℕ) → is_ascii_digit end ≡ false → IsReadTo text rest value → length rest < 1 → BeginsWithNone (λ n. n < 2 ^ 32) (number_then end) text
nothing_there end text [] value h read none = number_is_cut end text [] value h read tt (λ behind e. cc)
nothing_there end text (c ∷ cs) value h read none = absurd (omega (arith, none))

-- a text that begins with 0 begins with the number 0 or with none
pub zero_is_cut : (end : ℕ) (text behind : List ℕ) → text ≡ 48 ∷ behind → ((rest : List ℕ) → behind ≢ end ∷ rest) → BeginsWithNone (λ n. n < 2 ^ 32) (number_then end) text
zero_is_cut end text behind begins other n rest small e = go (cases_lt 0 n)
  where
    same : decimal n ++ end ∷ rest ≡ 48 ∷ behind
    same = sym (number_then-append end n rest) ∙ sym e ∙ begins

    first : (ds : List ℕ) → 0 < length ds → ds ++ end ∷ rest ≡ 48 ∷ behind → get_or ds 0 0 ≡ 48
    first [] some is = absurd (omega (arith, some))
    first (d ∷ ds) some is = ap (λ (x : List ℕ). get_or x 0 0) is

    go : (0 < n) ⊎ (n ≤ 0) → ⊥
    go (inl some) = omega (arith, first_decimal n some (omega arith), first (decimal n) (decimal_nonempty n (omega arith)) same)
    go (inr none) = other rest (sym (append_cancel_left (48 ∷ []) (end ∷ rest) behind (ap (λ (ds : List ℕ). ds ++ end ∷ rest) (sym zero) ∙ same)))
      where
        zero : decimal n ≡ 48 ∷ []
        zero = decimal_digit n (omega (arith, none)) ∙ ap (λ (d : ℕ). d ∷ []) (omega (arith, none))

pub zero_is_read : (end : ℕ) (text behind rest : List ℕ) → text ≡ 48 ∷ behind → behind ≡ end ∷ rest → text ≡ number_then end 0 ++ rest
zero_is_read end text behind rest begins ends =
    begins ∙ ap (λ (x : List ℕ). 48 ∷ x) ends ∙ ap (λ (ds : List ℕ). ds ++ end ∷ rest) (sym (decimal_digit 0 (omega arith))) ∙ sym (number_then-append end 0 rest)

-- a text that begins with no digit begins with no number
pub no_digit_first : (end : ℕ) (text : List ℕ) → (LeadingDigit text → ⊥) → ((behind : List ℕ) → text ≢ 48 ∷ behind) → BeginsWithNone (λ n. n < 2 ^ 32) (number_then end) text
no_digit_first end text no_leading no_zero n rest small e =
    go (decimal n) (decimal_nonempty n (omega arith)) (decimal_digits n small) (e ∙ number_then-append end n rest)
  where
    go : (ds : List ℕ) → 0 < length ds → AllDigits 10 ds → text ≡ ds ++ end ∷ rest → ⊥
    go [] some digits is = absurd (omega (arith, some))
    go (d ∷ ds) some digits is = at (cases_lt 48 d)
      where
        range : IsInRange 48 57 d
        range = digit_from_value d digits.0

        at : (48 < d) ⊎ (d ≤ 48) → ⊥
        at (inl more) = no_leading (subst LeadingDigit (sym is) (omega (arith, more), range.1))
        at (inr one) = no_zero (ds ++ end ∷ rest) (is ∙ ap (λ (x : ℕ). x ∷ ds ++ end ∷ rest) (omega (arith, one, range.0)))
