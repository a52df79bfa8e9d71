-- What is left behind: a file that took a text and was given back.
use Rattle.std.proofs.Common.{◌≡◌, ◌∙◌, ℕ, List, [], ◌++◌, Option, Some, None, sym, ap, subst, IfSome}
use Rattle.std.specs.Io.KnownBytes.{append_known}
use Rattle.commands.specs.Ending.{Took}
use Rattle.commands.specs.Files.{WritesFile}
use Rattle.commands.specs.Outside.{IsHost, Outside}

pub if_some : {P Q : List ℕ → Type 0} (o : Option (List ℕ)) → IfSome o P → ((bytes : List ℕ) → P bytes → Q bytes) → IfSome o Q
if_some None p f = tt
if_some (Some bytes) p f = f bytes p

-- what stands in a file that was empty and took a text
pub stands : (P : List ℕ → Type 0) (o : Option (List ℕ)) (text : List ℕ) → IfSome o (λ bytes. bytes ≡ []) → P text → IfSome (append_known o text) P
stands P None text none is = tt
stands P (Some bytes) text none is = subst (λ (front : List ℕ). P (front ++ text)) (sym none) is

module _ {S F O E : Type 0} (outside : Outside S F O E) where
  -- a file that was made, took a text and was given back is written
  pub written : {taken : F → Option (List ℕ)} {failures : F → ℕ} {t : O → Option (List ℕ)} {f : O → ℕ} {u : E → Option (List ℕ)} {h : E → ℕ} →
      IsHost outside taken failures t f u h → (path : List ℕ) (IsText : List ℕ → Type 0) (old begun new : S) (empty file : F) (text : List ℕ) →
      begun ≡ outside.made old path → IfSome (outside.wrote empty) (λ bytes. bytes ≡ []) → Took taken empty file text → IsText text →
      new ≡ outside.closed begun path file → WritesFile outside path IsText old new
  written law path IsText old begun new empty file text opened none took is given = (
    file,
    subst (λ o. IfSome o IsText) (sym (law.file_took file ∙ (took ∙ ap (λ o. append_known o text) (sym (law.file_took empty)))))
        (stands IsText (outside.wrote empty) text none is),
    given ∙ ap (λ host. outside.closed host path file) opened,
  )

  pub of_text : (path : List ℕ) (P Q : List ℕ → Type 0) (old new : S) → WritesFile outside path P old new → ((text : List ℕ) → P text → Q text) →
      WritesFile outside path Q old new
  of_text path P Q old new wrote f = (wrote.0, if_some (outside.wrote wrote.0) wrote.1 f, wrote.2)
