-- A step is read back from its line: no line is that of two steps.
use Rattle.std.proofs.Common.{◌≡◌, ◌∙◌, ℕ, ◌^◌, ◌<◌, ◌==◌, cond, List, [], ◌∷◌, ◌++◌, length, get_or, drop, refl, sym, ap, append_assoc, arith, decimal, drop_at}
use Rattle.std.specs.Str.Parse.{digits_value}
use Rattle.virtual_time.specs.declared.step.Step.{Step}
use Rattle.virtual_time.specs.declared.step.Step.TheVariants.{Take, Arrive, Run, Post, Gvt, Commit}
use Rattle.journal_text.specs.Text.{Fits, number_then, step_line}
use Rattle.journal_text.specs.Fronts.{BeginsWithNone}
use Rattle.journal_text.proofs.DigitLemmas.{one_number, NoDigitFirst, digits_front, digits_front-append, decimal_digits, decimal_value, number_then-append}

-- the number at the front of a text, and what is behind it and the byte that ends it
abbrev number_front : List ℕ → ℕ
number_front text = digits_value 10 (digits_front text)

abbrev number_behind : List ℕ → List ℕ
number_behind text = drop 1 (drop (length (digits_front text)) text)

number_front-is : (end n : ℕ) (rest : List ℕ) → NoDigitFirst (end ∷ rest) → n < 2 ^ 32 → number_front (number_then end n ++ rest) ≡ n
number_front-is end n rest h small =
    ap number_front (number_then-append end n rest) ∙ ap (digits_value 10) (digits_front-append (decimal n) (end ∷ rest) (decimal_digits n small) h) ∙ decimal_value n small

number_behind-is : (end n : ℕ) (rest : List ℕ) → NoDigitFirst (end ∷ rest) → n < 2 ^ 32 → number_behind (number_then end n ++ rest) ≡ rest
number_behind-is end n rest h small =
    ap number_behind (number_then-append end n rest)
    ∙ ap (λ (ds : List ℕ). drop 1 (drop (length ds) (decimal n ++ end ∷ rest))) (digits_front-append (decimal n) (end ∷ rest) (decimal_digits n small) h)
    ∙ ap (drop 1) (drop_at (decimal n) (end ∷ rest) (length (decimal n)) refl)

-- the step with this letter and these numbers
abbrev step_with : ℕ → ℕ → ℕ → Step
step_with letter process place =
    cond (letter == 84) (Take process place) (cond (letter == 65) (Arrive process) (cond (letter == 82) (Run process)
    (cond (letter == 80) (Post process) (cond (letter == 67) (Commit process) Gvt))))

abbrev pub step_at : List ℕ → Step
step_at line = step_with (get_or line 0 0) (number_front (drop 2 line)) (number_front (number_behind (drop 2 line)))

one : (end n : ℕ) → NoDigitFirst (end ∷ []) → n < 2 ^ 32 → number_front (number_then end n) ≡ n
one end n h small = digits_value-of (digits_front-append (decimal n) (end ∷ []) (decimal_digits n small) h)
  where
    digits_value-of : digits_front (number_then end n) ≡ decimal n → number_front (number_then end n) ≡ n
    digits_value-of e = ap (digits_value 10) e ∙ decimal_value n small

pub step_at-line : (step : Step) → Fits step → step_at (step_line step) ≡ step
step_at-line (Take process place) h =
    let first = number_front-is 32 process (number_then 10 place) (omega arith) h.0 in
    let behind = number_behind-is 32 process (number_then 10 place) (omega arith) h.0 in
    ap (λ (n : ℕ). Take n (number_front (number_behind (number_then 32 process ++ number_then 10 place)))) first
    ∙ ap (λ (n : ℕ). Take process n) (ap number_front behind ∙ one 10 place (omega arith) h.1)
step_at-line (Arrive process) h = ap (λ (n : ℕ). Arrive n) (one 10 process (omega arith) h)
step_at-line (Run process) h = ap (λ (n : ℕ). Run n) (one 10 process (omega arith) h)
step_at-line (Post process) h = ap (λ (n : ℕ). Post n) (one 10 process (omega arith) h)
step_at-line Gvt h = refl
step_at-line (Commit process) h = ap (λ (n : ℕ). Commit n) (one 10 process (omega arith) h)

-- behind `T`, a blank and a process no step is read where no place follows
pub no_place : (text behind : List ℕ) (process : ℕ) → process < 2 ^ 32 → text ≡ number_then 32 process ++ behind → BeginsWithNone (λ n. n < 2 ^ 32) (number_then 10) behind →
    BeginsWithNone Fits step_line (84 ∷ 32 ∷ text)
no_place text behind process small is none (Take p i) rest fits e =
    let same : number_then 32 process ++ behind ≡ number_then 32 p ++ (number_then 10 i ++ rest) = sym is ∙ cc e ∙ append_assoc (number_then 32 p) (number_then 10 i) rest in
    none i rest fits.1 (one_number 32 process p behind (number_then 10 i ++ rest) (omega arith) small fits.0 same).1
no_place text behind process small is none (Arrive p) rest fits e = omega (arith, ap (λ (x : List ℕ). get_or x 0 0) e)
no_place text behind process small is none (Run p) rest fits e = omega (arith, ap (λ (x : List ℕ). get_or x 0 0) e)
no_place text behind process small is none (Post p) rest fits e = omega (arith, ap (λ (x : List ℕ). get_or x 0 0) e)
no_place text behind process small is none Gvt rest fits e = omega (arith, ap (λ (x : List ℕ). get_or x 0 0) e)
no_place text behind process small is none (Commit p) rest fits e = omega (arith, ap (λ (x : List ℕ). get_or x 0 0) e)
