-- The lines of a text of steps, and the first line that is none.
use Rattle.std.proofs.Common.{◌≡◌, ◌∙◌, ℕ, ◌+◌, ◌-◌, ◌<◌, ◌≤◌, List, [], ◌∷◌, ◌++◌, All, length, get_or, take, map, refl, sym, ap, subst, inl, inr, ◌⊎◌, append_assoc, length-append, arith, append-nil, length-take, take_at, get_or-take}
use Rattle.std.specs.List.{concat}
use Rattle.std.proofs.lemmas.List.{length-map, get_or-append_right, flat_map_more}
use Rattle.std.proofs.lemmas.List.Elements.{All-head, All-tail, All-map, All-weaker, All-get_or, All-push}
use Rattle.std.proofs.lemmas.Bool.{cases_order}
use Rattle.virtual_time.specs.declared.step.Step.{Step}
use Rattle.journal_text.specs.Text.{Fits, step_line, steps_text}
use Rattle.journal_text.specs.Lines.{lines, IsStepLine, IsFirstBad}
use Rattle.journal_text.specs.Fronts.{BeginsWithNone}
use Rattle.journal_text.proofs.StepLemmas.{step_at, step_at-line}
use Rattle.journal_text.proofs.LineLemmas.{step_line-is, concat-lines, lines-some}

-- the lines of the steps come first, and then those of the rest
pub lines-steps : (steps : List Step) (rest : List ℕ) → All Fits steps → lines (steps_text steps ++ rest) ≡ map step_line steps ++ lines rest
lines-steps [] rest fits = refl
lines-steps (s ∷ ss) rest fits =
    ap lines (append_assoc (step_line s) (steps_text ss) rest)
    ∙ step_line-is s (All-head Fits s ss fits) (steps_text ss ++ rest)
    ∙ ap (λ (ls : List (List ℕ)). step_line s ∷ ls) (lines-steps ss rest (All-tail Fits s ss fits))

pub lines-of : (steps : List Step) (text : List ℕ) → All Fits steps → steps_text steps ≡ text → lines text ≡ map step_line steps
lines-of steps text fits is = ap lines (sym is ∙ sym (append-nil (steps_text steps))) ∙ lines-steps steps [] fits ∙ append-nil (map step_line steps)

pub length-lines : (steps : List Step) (text : List ℕ) → All Fits steps → steps_text steps ≡ text → length (lines text) ≡ length steps
length-lines steps text fits is = ap length (lines-of steps text fits is) ∙ length-map steps step_line

-- the steps are read back from the lines of their text
steps-at : (steps : List Step) → All Fits steps → map step_at (map step_line steps) ≡ steps
steps-at [] fits = refl
steps-at (s ∷ ss) fits = rw (step_at-line s (All-head Fits s ss fits)) (ap (λ (x : List Step). s ∷ x) (steps-at ss (All-tail Fits s ss fits)))

-- no text is that of two lists of steps
pub same_steps : (steps others : List Step) → All Fits steps → All Fits others → steps_text steps ≡ steps_text others → steps ≡ others
same_steps steps others fits same e =
    sym (steps-at steps fits)
    ∙ ap (map step_at) (sym (lines-of steps (steps_text others) fits e) ∙ lines-of others (steps_text others) same refl)
    ∙ steps-at others same

-- each line of a text of steps is one of a step
pub all_step_lines : (steps : List Step) → All Fits steps → All IsStepLine (map step_line steps)
all_step_lines steps fits = All-map IsStepLine step_line steps (All-weaker Fits (λ s. IsStepLine (step_line s)) (λ s h. (s, h, refl)) steps fits)

-- the first line of a text that begins with none
first_line : (text : List ℕ) (ls : List (List ℕ)) → concat ls ≡ text → 1 ≤ length ls → BeginsWithNone Fits step_line text → IsStepLine (get_or ls 0 []) → ⊥
first_line text [] is some none line = omega arith
first_line text (l ∷ ls) is some none (s, fits, e) = none s (concat ls) fits (sym is ∙ ap (λ (x : List ℕ). x ++ concat ls) e)

-- one step more is read from the front of the rest
pub one_more : (steps new : List Step) (step : Step) (rest behind text : List ℕ) → new ≡ steps ++ step ∷ [] → Fits step × (rest ≡ step_line step ++ behind) →
    All Fits steps → steps_text steps ++ rest ≡ text → All Fits new × (steps_text new ++ behind ≡ text)
one_more steps new step rest behind text pushed (fit, front) fits whole = (
  subst (All Fits) (sym pushed) (All-push Fits steps step fits fit),
  ap (λ (ss : List Step). steps_text ss ++ behind) pushed
      ∙ ap (λ (bs : List ℕ). bs ++ behind) (sym (flat_map_more step_line [] steps step))
      ∙ append_assoc (steps_text steps) (step_line step) behind
      ∙ ap (λ (bs : List ℕ). steps_text steps ++ bs) (sym front)
      ∙ whole,
)

-- where such a rest is behind steps, its first line is the first bad one
pub bad_behind : (steps : List Step) (rest text : List ℕ) → All Fits steps → steps_text steps ++ rest ≡ text → 0 < length rest → BeginsWithNone Fits step_line rest →
    IsFirstBad text (length steps + 1)
bad_behind steps rest text fits is some none = record {
  from_one = omega arith;
  there = omega (arith, ap length split, length-append (map step_line steps) (lines rest), long, more);
  before = subst (All IsStepLine) (sym front) (all_step_lines steps fits);
  bad = λ line. first_line rest (lines rest) (concat-lines rest) more none (subst IsStepLine at line);
}
  where
    split : lines text ≡ map step_line steps ++ lines rest
    split = ap lines (sym is) ∙ lines-steps steps rest fits

    long : length (map step_line steps) ≡ length steps
    long = length-map steps step_line

    more : 1 ≤ length (lines rest)
    more = lines-some rest some

    front : take (length steps + 1 - 1) (lines text) ≡ map step_line steps
    front = ap (take (length steps + 1 - 1)) split ∙ take_at (map step_line steps) (lines rest) (length steps + 1 - 1) (omega (arith, long))

    at : get_or (lines text) (length steps + 1 - 1) [] ≡ get_or (lines rest) 0 []
    at =
        let none_over : length steps + 1 - 1 - length (map step_line steps) ≡ 0 = omega (arith, long) in
        ap (λ (ls : List (List ℕ)). get_or ls (length steps + 1 - 1) []) split
        ∙ get_or-append_right (map step_line steps) (lines rest) (length (map step_line steps)) (length steps + 1 - 1) [] refl (omega (arith, long))
        ∙ ap (λ (k : ℕ). get_or (lines rest) k []) none_over

-- no line of a text of steps is bad
pub none_bad : (steps : List Step) (text : List ℕ) (n : ℕ) → All Fits steps → steps_text steps ≡ text → IsFirstBad text n → ⊥
none_bad steps text n fits is first =
    let good : All IsStepLine (lines text) = subst (All IsStepLine) (sym (lines-of steps text fits is)) (all_step_lines steps fits) in
    let low : n - 1 < length (lines text) = omega (arith, first.from_one, first.there) in
    first.bad (All-get_or IsStepLine (lines text) (n - 1) [] low good)

-- only one line is the first bad one
not_before : (text : List ℕ) (m n : ℕ) → IsFirstBad text m → IsFirstBad text n → m < n → ⊥
not_before text m n first second lt =
    let low : m - 1 < n - 1 = omega (arith, first.from_one, lt) in
    let short : m - 1 < length (take (n - 1) (lines text)) = omega (arith, length-take (n - 1) (lines text), first.from_one, first.there, low) in
    first.bad (subst IsStepLine (get_or-take (n - 1) (lines text) (m - 1) [] low) (All-get_or IsStepLine (take (n - 1) (lines text)) (m - 1) [] short second.before))

pub one_first_bad : (text : List ℕ) (m n : ℕ) → IsFirstBad text m → IsFirstBad text n → m ≡ n
one_first_bad text m n first second = go (cases_order m n)
  where
    go : (m ≡ n) ⊎ ((m < n) ⊎ (n < m)) → m ≡ n
    go (inl e) = e
    go (inr (inl lt)) = absurd (not_before text m n first second lt)
    go (inr (inr lt)) = absurd (not_before text n m second first lt)
