-- The lines of a text that begins with the line of a step.
use Rattle.std.proofs.Common.{◌≡◌, ◌∙◌, ℕ, ◌-◌, ◌^◌, ◌<◌, ◌≤◌, ◌==◌, Bool, true, false, cond, List, [], ◌∷◌, ◌++◌, length, refl, sym, ap, subst, arith, decimal, ne_eqb, eqb-true}
use Rattle.std.specs.List.{onto_first, concat}
use Rattle.std.specs.Str.Parse.{AllDigits}
use Rattle.std.proofs.lemmas.Bool.{cond-false}
use Rattle.std.proofs.lemmas.Str.Parse.{digit_from_value}
use Rattle.virtual_time.specs.declared.step.Step.{Step}
use Rattle.virtual_time.specs.declared.step.Step.TheVariants.{Take, Arrive, Run, Post, Gvt, Commit}
use Rattle.journal_text.specs.Text.{Fits, number_then, step_line}
use Rattle.journal_text.specs.Lines.{lines}
use Rattle.journal_text.proofs.DigitLemmas.{decimal_digits, number_then-append}

-- a line whose line feed is its last byte
abbrev pub IsLine : List ℕ → Type 0
IsLine line = (rest : List ℕ) → lines (line ++ rest) ≡ line ∷ lines rest

longer : (b : ℕ) (line : List ℕ) → (b == 10) ≡ false → IsLine line → IsLine (b ∷ line)
longer b line h is rest =
    cond-false (b == 10) ((10 ∷ []) ∷ lines (line ++ rest)) (onto_first b (lines (line ++ rest))) h ∙ ap (onto_first b) (is rest)

digits_longer : (ds line : List ℕ) → AllDigits 10 ds → IsLine line → IsLine (ds ++ line)
digits_longer [] line h is = is
digits_longer (d ∷ ds) line h is =
    let range = digit_from_value d h.0 in
    longer d (ds ++ line) (ne_eqb d 10 (λ e. omega (arith, range))) (digits_longer ds line h.1 is)

feed : IsLine (10 ∷ [])
feed rest = refl

number_line : (n : ℕ) → n < 2 ^ 32 → IsLine (number_then 10 n)
number_line n h = digits_longer (decimal n) (10 ∷ []) (decimal_digits n h) feed

letter_line : (letter : ℕ) (line : List ℕ) → (letter == 10) ≡ false → IsLine line → IsLine (letter ∷ 32 ∷ line)
letter_line letter line h is = longer letter (32 ∷ line) h (longer 32 line refl is)

take_line : (process place : ℕ) → process < 2 ^ 32 → place < 2 ^ 32 → IsLine (number_then 32 process ++ number_then 10 place)
take_line process place h k =
    subst IsLine (sym (number_then-append 32 process (number_then 10 place)))
    (digits_longer (decimal process) (32 ∷ number_then 10 place) (decimal_digits process h) (longer 32 (number_then 10 place) refl (number_line place k)))

pub step_line-is : (step : Step) → Fits step → IsLine (step_line step)
step_line-is (Take process place) h = letter_line 84 (number_then 32 process ++ number_then 10 place) refl (take_line process place h.0 h.1)
step_line-is (Arrive process) h = letter_line 65 (number_then 10 process) refl (number_line process h)
step_line-is (Run process) h = letter_line 82 (number_then 10 process) refl (number_line process h)
step_line-is (Post process) h = letter_line 80 (number_then 10 process) refl (number_line process h)
step_line-is Gvt h = longer 71 (10 ∷ []) refl feed
step_line-is (Commit process) h = letter_line 67 (number_then 10 process) refl (number_line process h)

-- the lines joined are the text
concat-onto_first : (b : ℕ) (ls : List (List ℕ)) → concat (onto_first b ls) ≡ b ∷ concat ls
concat-onto_first b [] = refl
concat-onto_first b (l ∷ ls) = refl

pub concat-lines : (text : List ℕ) → concat (lines text) ≡ text
concat-lines [] = refl
concat-lines (b ∷ bs) = go (b == 10) refl (concat-lines bs)
  where
    go : (t : Bool) → (b == 10) ≡ t → concat (lines bs) ≡ bs → concat (cond t ((10 ∷ []) ∷ lines bs) (onto_first b (lines bs))) ≡ b ∷ bs
    go true e same = let ten = eqb-true b 10 e in ap (λ (x : List ℕ). 10 ∷ x) same ∙ ap (λ (x : ℕ). x ∷ bs) (sym ten)
    go false e same = concat-onto_first b (lines bs) ∙ ap (λ (x : List ℕ). b ∷ x) same

onto_first-some : (b : ℕ) (ls : List (List ℕ)) → 1 ≤ length (onto_first b ls)
onto_first-some b [] = omega arith
onto_first-some b (l ∷ ls) = omega arith

pub lines-some : (text : List ℕ) → 0 < length text → 1 ≤ length (lines text)
lines-some [] h = absurd (omega arith)
lines-some (b ∷ bs) h = go (b == 10)
  where
    go : (t : Bool) → 1 ≤ length (cond t ((10 ∷ []) ∷ lines bs) (onto_first b (lines bs)))
    go true = omega arith
    go false = onto_first-some b (lines bs)

-- how many lines begin in the rest of a text, where it begins a line and where it goes on with one
abbrev pub lines_begun : Bool → List ℕ → ℕ
lines_begun true rest = length (lines rest)
lines_begun false rest = length (onto_first 0 (lines rest)) - 1
