-- What the answer of a reader says of the text tells which answer it is.
use Rattle.std.proofs.Common.{◌≡◌, ◌∙◌, ℕ, ◌≤◌, List, All, length, Result, Ok, Err, refl, sym, ap, inl, inr, arith, IfOk, IfErr}
use Rattle.std.specs.Global.{Vec}
use Rattle.virtual_time.specs.declared.step.Step.{Step}
use Rattle.journal_text.specs.declared.fault.LinesFault.{LinesFault}
use Rattle.journal_text.specs.declared.fault.LinesFault.TheVariants.{TooMany, BadLine, OutOfMemory}
use Rattle.journal_text.specs.Text.{Fits, steps_text}
use Rattle.journal_text.specs.Lines.{lines, IsFirstBad, HasCause, AreRead, IsRefused}
use Rattle.journal_text.proofs.TextLemmas.{length-lines, same_steps, none_bad, one_first_bad}

module _ (text : List ℕ) (most : ℕ) where
  pub accepted : (r : Result (Vec Step) LinesFault) → IfOk r (λ read. steps_text read.items ≡ text) → IfOk r (λ read. All Fits read.items) → IfErr r (HasCause text most) →
      (steps : List Step) → All Fits steps → steps_text steps ≡ text → length steps ≤ most → AreRead steps r
  accepted (Ok read) is fits cause steps small e low = same_steps read.items steps fits small (is ∙ sym e)
  accepted (Err TooMany) is fits cause steps small e low = absurd (omega (arith, cause, length-lines steps text small e, low))
  accepted (Err (BadLine n)) is fits cause steps small e low = absurd (none_bad steps text n small e cause.1)
  accepted (Err OutOfMemory) is fits cause steps small e low = refl

  pub refused : (r : Result (Vec Step) LinesFault) → IfOk r (λ read. steps_text read.items ≡ text) → IfOk r (λ read. All Fits read.items) → IfErr r (HasCause text most) →
      (n : ℕ) → length (lines text) ≤ most → IsFirstBad text n → IsRefused (BadLine n) r
  refused (Ok read) is fits cause n low first = none_bad read.items text n fits is first
  refused (Err TooMany) is fits cause n low first = absurd (omega (arith, cause, low))
  refused (Err (BadLine m)) is fits cause n low first = inl (ap BadLine (one_first_bad text m n cause.1 first))
  refused (Err OutOfMemory) is fits cause n low first = inr refl

  pub bounded : (r : Result (Vec Step) LinesFault) → IfOk r (λ read. steps_text read.items ≡ text) → IfOk r (λ read. All Fits read.items) → length (lines text) ≤ most →
      IfOk r (λ read. length read.items ≤ most)
  bounded (Ok read) is fits low = omega (arith, length-lines read.items text fits is, low)
  bounded (Err fault) is fits low = tt
