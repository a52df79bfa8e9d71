-- What a stream took, as its host tells it.
use Rattle.std.proofs.Common.{◌≡◌, ◌∙◌, ℕ, List, Option, sym, ap}
use Rattle.std.specs.Io.KnownBytes.{append_known}
use Rattle.commands.specs.Ending.{Took}
use Rattle.commands.specs.Files.{ShowsAlone, ShowsBoth}
use Rattle.commands.specs.Streams.{Says, Shows}
use Rattle.commands.specs.Outside.{IsHost, Outside}

module _ {S F O E : Type 0} (outside : Outside S F O E) {w : F → Option (List ℕ)} {x : F → ℕ} {taken : O → Option (List ℕ)} {failures : O → ℕ}
    {heard : E → Option (List ℕ)} {lost : E → ℕ} (law : IsHost outside w x taken failures heard lost) (old new : S) where
  -- standard output was lent, took a text, and is so at the end
  pub shows : (lent out : O) (text : List ℕ) → lent ≡ outside.output old → outside.output new ≡ out → Took taken lent out text → Shows outside old new text
  shows lent out text from to took =
      ap outside.showed to ∙ (law.output_took out ∙ (took ∙ ap (λ o. append_known o text) (ap taken from ∙ sym (law.output_took (outside.output old)))))

  -- the same of error output
  pub says : (lent out : E) (text : List ℕ) → lent ≡ outside.errors old → outside.errors new ≡ out → (lost out ≡ lost lent → Took heard lent out text) →
      Says outside old new text
  says lent out text from to took = λ same.
      let kept : lost out ≡ lost lent =
      sym (law.errors_failed out) ∙ (ap outside.errors_failures (sym to) ∙ (same ∙ (law.errors_failed (outside.errors old) ∙ ap lost (sym from)))) in
      ap outside.said to ∙ (law.errors_took out ∙ (took kept ∙ ap (λ o. append_known o text) (ap heard from ∙ sym (law.errors_took (outside.errors old)))))

  -- what happened to one stream alone happened to both
  pub both_shown : ShowsAlone outside old new → ShowsBoth outside old new
  both_shown shown = (shown.0, outside.errors new, shown.1 ∙ (sym (law.errors_same (outside.with_output old shown.0)) ∙ ap (λ e. outside.with_errors (outside.with_output old shown.0) e) (sym (ap outside.errors shown.1))))
