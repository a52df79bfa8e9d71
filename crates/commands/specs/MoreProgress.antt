-- Lines of progress followed by others are again lines of progress.
use Rattle.std.proofs.Common.{◌≡◌, ◌≤◌, ◌∙◌, ◌++◌, ◌∷◌, ℕ, Bool, true, false, List, [], Option, Some, None, refl, sym, ap, subst, append_assoc, arith, flat_map, append-nil}
use Rattle.std.specs.Io.KnownBytes.{append_known}
use Rattle.std.proofs.lemmas.Grind.{flat_map-append}
use Rattle.commands.specs.Ending.{Took}
use Rattle.commands.specs.Progress.{AreLines, HearsAsked, HearsLines, IsProgressLine}

both : (IsLine : List ℕ → Type 0) (xs ys : List (List ℕ)) → AreLines IsLine xs → AreLines IsLine ys → AreLines IsLine (xs ++ ys)
both IsLine [] ys a b = b
both IsLine (x ∷ xs) ys a b = (a.0, both IsLine xs ys a.1 b)

each_as : (P Q : List ℕ → Type 0) (xs : List (List ℕ)) → ((line : List ℕ) → P line → Q line) → AreLines P xs → AreLines Q xs
each_as P Q [] f a = tt
each_as P Q (x ∷ xs) f a = (f x a.0, each_as P Q xs f a.1)

appended : (o : Option (List ℕ)) (xs ys : List ℕ) → append_known (append_known o xs) ys ≡ append_known o (xs ++ ys)
appended None xs ys = refl
appended (Some zs) xs ys = ap Some (append_assoc zs xs ys)

nothing : (o : Option (List ℕ)) → o ≡ append_known o []
nothing None = refl
nothing (Some xs) = ap Some (sym (append-nil xs))

module _ {E : Type 0} (taken : E → Option (List ℕ)) (failures : E → ℕ) (IsLine : List ℕ → Type 0) where
  pub one_line : (old new : E) (line : List ℕ) → failures old ≤ failures new → IsLine line → (failures new ≡ failures old → Took taken old new line)
      → HearsLines taken failures IsLine old new
  one_line old new line more is took = record {
    failed = more;
    lines = λ same. (line ∷ [], (is, tt), took same ∙ ap (append_known (taken old)) (sym (append-nil line)));
  }

  pub no_line : (it : E) → HearsLines taken failures IsLine it it
  no_line it = record { failed = omega arith; lines = λ same. ([], tt, nothing (taken it)) }

  pub more_lines : (first next last : E) → HearsLines taken failures IsLine first next → HearsLines taken failures IsLine next last
      → HearsLines taken failures IsLine first last
  more_lines first next last f g = record {
    failed = let a = f.failed in let b = g.failed in omega arith;
    lines = λ same.
        let a = f.failed in
        let b = g.failed in
        let before : failures next ≡ failures first = omega arith in
        let after : failures last ≡ failures next = omega arith in
        let (xs, are, took) = f.lines before in
        let (ys, are_more, took_more) = g.lines after in (
          xs ++ ys,
          both IsLine xs ys are are_more,
          took_more ∙ (ap (λ o. append_known o (flat_map (λ line. line) ys)) took
              ∙ (appended (taken first) (flat_map (λ line. line) xs) (flat_map (λ line. line) ys) ∙ ap (append_known (taken first)) (sym (flat_map-append (λ line. line) xs ys)))),
        );
  }

  pub asked_none : (asked : Bool) (it : E) → HearsAsked taken failures asked IsLine it it
  asked_none true it = no_line it
  asked_none false it = refl

  pub asked_more : (asked : Bool) (first next last : E) → HearsAsked taken failures asked IsLine first next → HearsAsked taken failures asked IsLine next last
      → HearsAsked taken failures asked IsLine first last
  asked_more true first next last f g = more_lines first next last f g
  asked_more false first next last f g = g ∙ f

  -- lines of another kind, where each of those is one
  pub asked_as : (Other : List ℕ → Type 0) → ((line : List ℕ) → IsLine line → Other line) → (asked : Bool) (old new : E) → HearsAsked taken failures asked IsLine old new
      → HearsAsked taken failures asked Other old new
  asked_as Other f false old new h = h
  asked_as Other f true old new h = record {
    failed = h.failed;
    lines = λ same. let (lines, are, took) = h.lines same in (lines, each_as IsLine Other lines f are, took);
  }

module _ {E : Type 0} (taken : E → Option (List ℕ)) (failures : E → ℕ) (until : ℕ) where
  -- those of the beginning of a run, which began so, and those of its end
  pub one_behind_another : (asked : Bool) (first start next last end : E) (a b : Bool) (m n : ℕ) → a ≡ asked → m ≡ until → start ≡ first
      → HearsAsked taken failures a (IsProgressLine m) start next → b ≡ a → n ≡ m → HearsAsked taken failures b (IsProgressLine n) next last → end ≡ last
      → HearsAsked taken failures asked (IsProgressLine until) first end
  one_behind_another asked first start next last end a b m n is_asked is_until begins one same_asked same_until two ends =
      subst (λ e. HearsAsked taken failures asked (IsProgressLine until) first e) (sym ends)
      (asked_more taken failures (IsProgressLine until) asked first next last
      (subst (λ e. HearsAsked taken failures asked (IsProgressLine until) e next) begins (same start next a m is_asked is_until one))
      (same next last b n (same_asked ∙ is_asked) (same_until ∙ is_until) two))
    where
      same : (x y : E) (c : Bool) (k : ℕ) → c ≡ asked → k ≡ until → HearsAsked taken failures c (IsProgressLine k) x y
          → HearsAsked taken failures asked (IsProgressLine until) x y
      same x y c k p q h =
          subst (λ z. HearsAsked taken failures asked (IsProgressLine z) x y) q (subst (λ z. HearsAsked taken failures z (IsProgressLine k) x y) p h)
