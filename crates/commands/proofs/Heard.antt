-- What error output heard of a run, as its host tells it.
use Rattle.std.proofs.Common.{◌≡◌, ◌∙◌, ℕ, Bool, true, false, List, Option, refl, sym, ap, subst, arith, flat_map}
use Rattle.std.specs.Io.KnownBytes.{append_known}
use Rattle.commands.specs.Streams.{IsHeard, heard_host}
use Rattle.commands.specs.Outside.{IsHost, Outside}
use Rattle.commands.specs.Progress.{HearsAsked, HearsLines}

module _ {S F O E : Type 0} (outside : Outside S F O E) {w : F → Option (List ℕ)} {x : F → ℕ} {shown : O → Option (List ℕ)} {output_failures : O → ℕ}
    {taken : E → Option (List ℕ)} {failures : E → ℕ} (law : IsHost outside w x shown output_failures taken failures) where
  told_so : (IsLine : List ℕ → Type 0) (a b : E) → HearsLines taken failures IsLine a b → HearsLines outside.said outside.errors_failures IsLine a b
  told_so IsLine a b h = record {
    failed = let f = h.failed in let g = law.errors_failed a in let k = law.errors_failed b in omega arith;
    lines = λ same.
        let kept : failures b ≡ failures a = sym (law.errors_failed b) ∙ (same ∙ law.errors_failed a) in
        let (lines, are, took) = h.lines kept in
        (lines, are, law.errors_took b ∙ (took ∙ ap (λ o. append_known o (flat_map (λ line. line) lines)) (sym (law.errors_took a))));
  }

  told : (asked : Bool) (IsLine : List ℕ → Type 0) (a b : E) → HearsAsked taken failures asked IsLine a b → HearsAsked outside.said outside.errors_failures asked IsLine a b
  told true IsLine a b h = told_so IsLine a b h
  told false IsLine a b h = h

  -- error output with what was said put back
  pub heard_same : (asked : Bool) (IsLine : List ℕ → Type 0) (t : E → Option (List ℕ)) (f : E → ℕ) (old : S) (said : E) → HearsAsked t f asked IsLine (outside.errors old) said →
      outside.with_errors old said ≡ heard_host outside old asked said
  heard_same true IsLine t f old said h = refl
  heard_same false IsLine t f old said h = ap (outside.with_errors old) h ∙ law.errors_same old

  -- a file that was made before is made on the host that heard
  pub made_there : (asked : Bool) (IsLine : List ℕ → Type 0) (old : S) (path : List ℕ) (said : E) → HearsAsked taken failures asked IsLine (outside.errors old) said →
      outside.with_errors (outside.made old path) said ≡ outside.made (heard_host outside old asked said) path
  made_there asked IsLine old path said h =
      law.errors_before_made old path said ∙ ap (λ host. outside.made host path) (heard_same asked IsLine taken failures old said h)

  -- a file was made, error output heard of the run meanwhile, and the file took a text and was given back
  module _ (asked was_asked : Bool) (IsLine : List ℕ → Type 0) (path : List ℕ) (old begun : S) (lent said : E) (is : was_asked ≡ asked) (made : begun ≡ outside.made old path)
      (from : lent ≡ outside.errors begun) (h : HearsAsked taken failures was_asked IsLine lent said) where
    there : HearsAsked taken failures asked IsLine (outside.errors old) said
    there =
        subst (λ e. HearsAsked taken failures asked IsLine e said) (from ∙ (ap outside.errors made ∙ law.errors_at_made old path))
        (subst (λ a. HearsAsked taken failures a IsLine lent said) is h)

    -- the host once error output was put back
    begins : outside.with_errors begun said ≡ outside.made (heard_host outside old asked said) path
    begins = ap (λ host. outside.with_errors host said) made ∙ made_there asked IsLine old path said there

    pub heard_beside : (new : S) → outside.errors new ≡ said → IsHeard outside old asked IsLine (outside.errors new)
    heard_beside new stays = subst (IsHeard outside old asked IsLine) (sym stays) (told asked IsLine (outside.errors old) said there)

    -- the file was given back
    module _ (file : F) (new : S) (given : new ≡ outside.closed (outside.with_errors begun said) path file) where
      stays : outside.errors new ≡ said
      stays = ap outside.errors given ∙ (law.errors_at_closed (outside.with_errors begun said) path file ∙ law.errors_stay begun said)

      pub heard_given : IsHeard outside old asked IsLine (outside.errors new)
      heard_given = heard_beside new stays

      pub begins_given : outside.with_errors begun said ≡ outside.made (heard_host outside old asked (outside.errors new)) path
      begins_given = begins ∙ ap (λ e. outside.made (heard_host outside old asked e) path) (sym stays)

  -- error output was lent, heard of the run and was put back
  module _ (asked was_asked : Bool) (IsLine : List ℕ → Type 0) (old : S) (lent said : E) (is : was_asked ≡ asked) (from : lent ≡ outside.errors old)
      (h : HearsAsked taken failures was_asked IsLine lent said) where
    here : HearsAsked taken failures asked IsLine (outside.errors old) said
    here = subst (λ e. HearsAsked taken failures asked IsLine e said) from (subst (λ a. HearsAsked taken failures a IsLine lent said) is h)

    pub heard_lent : IsHeard outside old asked IsLine (outside.errors (outside.with_errors old said))
    heard_lent = subst (IsHeard outside old asked IsLine) (sym (law.errors_stay old said)) (told asked IsLine (outside.errors old) said here)

    pub host_lent : outside.with_errors old said ≡ heard_host outside old asked (outside.errors (outside.with_errors old said))
    host_lent = heard_same asked IsLine taken failures old said here ∙ ap (heard_host outside old asked) (sym (law.errors_stay old said))

module _ {S F O E : Type 0} (outside : Outside S F O E) where
  -- what holds of the host once its error output had heard of a run holds at the end too, where it heard no more
  pub at_end : (asked : Bool) (old heard new : S) (P : S → Type 0) → heard ≡ heard_host outside old asked (outside.errors heard) →
      outside.errors new ≡ outside.errors heard → P heard → P (heard_host outside old asked (outside.errors new))
  at_end asked old heard new P is same p = subst P (is ∙ ap (heard_host outside old asked) (sym same)) p

module _ {S F O E : Type 0} (outside : Outside S F O E) {w : F → Option (List ℕ)} {x : F → ℕ} {shown : O → Option (List ℕ)} {output_failures : O → ℕ}
    {taken : E → Option (List ℕ)} {failures : E → ℕ} (law : IsHost outside w x shown output_failures taken failures) where
  -- what can be made can be made where error output heard of a run meanwhile
  pub makes_there : (asked : Bool) (old : S) (path : List ℕ) (said : E) (is_made : Bool) → outside.makes old path is_made →
      outside.makes (heard_host outside old asked said) path is_made
  makes_there true old path said is_made makes = law.makes_beside old path said is_made makes
  makes_there false old path said is_made makes = makes
