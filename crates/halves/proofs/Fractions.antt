-- The fractions of a name: made, cut, lent, compared and changed. Assumes `Logic`.
use mathlib.Core.Path.{◌≡◌}
use mathlib.Core.List.{[], ◌∷◌}
use mathlib.Mathlib.Data.Part.{◌∈◌}
use Prim.Native.Nat.{ℕ}
use seplogic.Ra.Ura.{Ura}
use seplogic.Ra.Constructions.Prod
use seplogic.Ra.Instances.Ag
use base.Share
use base.Share.{halves}
use base.Fraction.{full_share}
use base.FractionLaws.{not-OpDef-full_share}
use base.SetCodes.{coded, SetCoded-set}
use base.Logic.{SProp, ent, sep, ex, emp, guard, upd, guard_i, via}
use base.Fml.{Lft, GName, Share, Fml, fbor}
use ghost.Rules.{Halves}
use types.Logic.{Logic, sem, lfts}
use types.Kit.{‵, raw, some, later, ◌$◌, ◌∵◌, !, qed, by, pick, show, use0, use1, use2, await, updating, now, done}
use types.Tokens.{bor_fracture}
use types.Owned.{basic, own_new, own_sum, own_join, own_step}
use denote.RattleType.{RattleType}
use denote.Sharing.{one}
use denote.Struct.Lending.{Lends}
use Rattle.halves.specs.Ownership.{value_algebra, fraction}

module _ {M : Type 1} {𝓤 : Ura M} (𝓛 : Logic 𝓤) (R : RattleType) where
  open 𝓛 use {H, A}

  abbrev Pr : Type 2
  Pr = SProp 𝓤

  abbrev ◌⊢◌ : Pr → Pr → Type 1
  P ⊢ Q = ent 𝓤 P Q

  abbrev ◌∗◌ : Pr → Pr → Pr
  P ∗ Q = sep 𝓤 P Q

  abbrev ⟦◌⟧ : Fml → Pr
  ⟦ P ⟧ = sem 𝓛 P

  infix 26 ◌⊢◌
  infixr 35 ◌∗◌
  abbrev left : Share
  left = Share.left full_share

  abbrev right : Share
  right = Share.right full_share

  sum : (x : R.Denot) (r e f : Share) → r ∈ Share.op e f → ◌∈◌ {α = Share × R.Denot} (r, x) ((value_algebra R).op (e, x) (f, x))
  sum x r e f m = Prod.mk-mem-op Share.op (Ag.op (SetCoded-set (coded R.coded))) {a = e} {a' = f} {x = r} {b = x} {b' = x} {y = x} m (Ag.idem (SetCoded-set (coded R.coded)) x)

  -- the fractions are cut and joined along the halves of a share
  pub fraction_halves : (γ : ℕ) (x : R.Denot) → Halves 𝓤 H A (fraction R γ x)
  fraction_halves γ x = record {
    cut = λ q. 𝓛.algebras.own_cut (value_algebra R) γ (Share.left q, x) (Share.right q, x) (q, x) (sum x q (Share.left q) (Share.right q) (halves q));
    join = λ q. own_join 𝓛 (value_algebra R) γ (Share.left q, x) (Share.right q, x) (q, x) (sum x q (Share.left q) (Share.right q) (halves q));
  }

  pub fraction_lends : (γ : ℕ) (x : R.Denot) (q : Share) (l : Lft) → Lends 𝓛 (fraction R γ x q) (one (fraction R γ x)) l
  fraction_lends γ x q l κ ts inc sp = qed 𝓛 (‵ (fbor κ (fraction R γ x q)) ∷ raw (lfts 𝓛 ts) ∷ []) ∵ updating ! $ bor_fracture ! tt (fraction R γ x) q $ now ! $ done !

  -- two fractions of one name are at one value
  pub fraction_agree : (γ : ℕ) (x y : R.Denot) (q r : Share) → ⟦ fraction R γ x q ⟧ ∗ ⟦ fraction R γ y r ⟧ ⊢ guard 𝓤 (x ≡ y) (⟦ fraction R γ x q ⟧ ∗ ⟦ fraction R γ y r ⟧)
  fraction_agree γ x y q r = let Z : Pr = ⟦ fraction R γ x q ⟧ ∗ ⟦ fraction R γ y r ⟧ in own_sum 𝓛 (value_algebra R) γ (q, x) (r, y) (guard 𝓤 (x ≡ y) Z) (λ c m. guard_i 𝓤 (x ≡ y) Z m.0.1)

  cut_whole : (γ : ℕ) (x : R.Denot) → ⟦ fraction R γ x full_share ⟧ ⊢ ⟦ fraction R γ x left ⟧ ∗ ⟦ fraction R γ x right ⟧
  cut_whole γ x = (fraction_halves γ x).cut full_share

  changes : (γ : ℕ) (x y : R.Denot) → ⟦ fraction R γ x full_share ⟧ ⊢ upd 𝓤 ⟦ fraction R γ y full_share ⟧
  changes γ x y = own_step 𝓛 (value_algebra R) γ (full_share, x) (full_share, y) (λ f d. absurd (not-OpDef-full_share f.0 d.0))

  -- both halves go to another value
  pub fraction_set : (γ : ℕ) (x y : R.Denot) → ⟦ fraction R γ x left ⟧ ∗ ⟦ fraction R γ x right ⟧ ⊢ H.⇛ (⟦ fraction R γ y left ⟧ ∗ ⟦ fraction R γ y right ⟧)
  fraction_set γ x y = qed 𝓛 (‵ (fraction R γ x left) ∷ ‵ (fraction R γ x right) ∷ []) ∵ updating ! $ use2 𝓛 (‵ (fraction R γ x full_share)) ((fraction_halves γ x).join full_share) $
      use1 𝓛 (later (‵ (fraction R γ y full_share))) (via 𝓤 (upd 𝓤 ⟦ fraction R γ y full_share ⟧) (changes γ x y) (basic 𝓛 ⟦ fraction R γ y full_share ⟧)) $ await ! tt $ now ! $ by ! (cut_whole γ y)

  abbrev pub Named : R.Denot → GName → Pr
  Named x γ = ⟦ fraction R γ x left ⟧ ∗ ⟦ fraction R γ x right ⟧

  -- a new name, in its two halves
  pub fraction_new : (x : R.Denot) → emp 𝓤 ⊢ H.⇛ (ex 𝓤 (Named x))
  fraction_new x = qed 𝓛 [] ∵ updating ! $ use0 𝓛 (later (some (λ (γ : GName). ‵ (fraction R γ x full_share)))) (via 𝓤 _ (own_new 𝓛 (value_algebra R) (full_share, x)) (basic 𝓛 (ex 𝓤 (λ (γ : GName). ⟦ fraction R γ x full_share ⟧)))) $ await ! tt $ pick ! (λ γ.
      now ! $ show ! (Named x) γ $ by ! (cut_whole γ x))
