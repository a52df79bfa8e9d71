-- Actors that are parted into groups: lists that grow, and slots that are emptied.
use Rattle.std.proofs.Common.{◌≡◌, ◌≢◌, ℕ, zero, suc, ◌+◌, ◌<◌, ◌≤◌, ◌==◌, inl, inr, Bool, true, false, List, [], ◌∷◌, ◌++◌, set, get_or, length, slice_get, Option, Some, None, refl, sym, ap, ◌∙◌, subst, arith}
use Rattle.std.proofs.lemmas.Bool.{cases_lt}
use Rattle.std.proofs.lemmas.Option.{slice_get-get_or, slice_get_past, slice_get_within}
use Rattle.reverse.specs.Setting.{Setting}
use Rattle.group_hand.specs.Hands.{is_held, is_ours}
use Rattle.group_exchange.specs.Opening.{AreMembersOf}
use Rattle.group_exchange.specs.Views.{is_of, is_number}
use Rattle.group_exchange.proofs.Owners.{of-other}

module _ {X : Type 0} where
  -- those that were there before one was pushed, and that one
  pub pushed-before : (xs : List X) (y : X) (p : ℕ) → p < length xs → slice_get (xs ++ y ∷ []) p ≡ slice_get xs p
  pushed-before [] y p h = absurd (omega arith)
  pushed-before (x ∷ xs) y zero h = refl
  pushed-before (x ∷ xs) y (suc p) h = pushed-before xs y p (omega arith)

  pub pushed-last : (xs : List X) (y : X) (p : ℕ) → p ≡ length xs → slice_get (xs ++ y ∷ []) p ≡ Some y
  pushed-last [] y zero h = refl
  pushed-last [] y (suc p) h = absurd (omega arith)
  pushed-last (x ∷ xs) y zero h = absurd (omega arith)
  pushed-last (x ∷ xs) y (suc p) h = pushed-last xs y p (omega arith)

  pub slot-other : (xs : List X) (i p : ℕ) (x : X) → p ≢ i → slice_get (set xs i x) p ≡ slice_get xs p
  slot-other [] i p x n = refl
  slot-other (y ∷ ys) zero zero x n = absurd (n refl)
  slot-other (y ∷ ys) zero (suc p) x n = refl
  slot-other (y ∷ ys) (suc i) zero x n = refl
  slot-other (y ∷ ys) (suc i) (suc p) x n = slot-other ys i p x (λ e. n (ap suc e))

  pub slot-same : (xs : List X) (i p : ℕ) (x y : X) → y ≡ get_or xs i y → x ≡ y → slice_get (set xs i x) p ≡ slice_get xs p
  slot-same [] i p x y e s = refl
  slot-same (z ∷ zs) zero zero x y e s = ap (λ u. Some u) (s ∙ e)
  slot-same (z ∷ zs) zero (suc p) x y e s = refl
  slot-same (z ∷ zs) (suc i) zero x y e s = refl
  slot-same (z ∷ zs) (suc i) (suc p) x y e s = slot-same zs i p x y e s

  pub slot-at : (xs : List X) (i : ℕ) (y : X) → i < length xs → y ≡ get_or xs i y → slice_get xs i ≡ Some y
  slot-at xs i y h e = slice_get-get_or xs i y h ∙ ap (λ u. Some u) (sym e)

  -- what is there of each, and one more
  pub pushed-each : (P : ℕ → X → Type 0) (xs more : List X) (y : X) (n : ℕ) → length xs ≡ n → more ≡ xs ++ y ∷ [] → ((i : ℕ) → i < n → (x : X) × (slice_get xs i ≡ Some x) × P i x) → P n y →
      (i : ℕ) → i < n + 1 → (x : X) × (slice_get more i ≡ Some x) × P i x
  pushed-each P xs more y n count pushed each last i h = elim (cases_lt i n) [
    | inl before ↦ (let k = each i before in (k.0, ap (λ zs. slice_get zs i) pushed ∙ (pushed-before xs y i (omega arith) ∙ k.1), k.2))
    | inr behind ↦ (
        let e : i ≡ n = omega arith in
        (y, ap (λ zs. slice_get zs i) pushed ∙ pushed-last xs y i (omega arith), subst (λ j. P j y) (sym e) last))
  ]

-- whether a process is of a group, as code finds it
pub of-at : (owners : List ℕ) (g p : ℕ) → p < length owners → is_of owners g p ≡ (get_or owners p 0 == g)
of-at owners g p h = ap (is_number g) (slice_get-get_or owners p 0 h)

module _ {S : Type 0} (x : Setting S) (owners : List ℕ) (each : length owners ≡ x.processes) (g : ℕ) (members : List (Option S)) (m : AreMembersOf x owners g members) where
  -- its members are the processes of the group
  pub members-ours : (p : ℕ) → is_ours members p ≡ is_of owners g p
  members-ours p = elim (cases_lt p x.processes) [ inl h ↦ inside h (is_of owners g p) refl | inr h ↦ outside h ]
    where
      inside : p < x.processes → (b : Bool) → is_of owners g p ≡ b → is_ours members p ≡ is_of owners g p
      inside h true e = ap is_held (m.ours p h e) ∙ sym e
      inside h false e = ap is_held (m.others p h e) ∙ sym e

      outside : x.processes ≤ p → is_ours members p ≡ is_of owners g p
      outside h = ap is_held (slice_get_past members p (let a = m.count in omega arith)) ∙ sym (ap (is_number g) (slice_get_past owners p (omega arith)))

  -- in their opening states
  pub members-state : (p : ℕ) (s : S) → slice_get members p ≡ Some (Some s) → s ≡ x.opening p
  members-state p s e = go (is_of owners g p) refl
    where
      within : p < x.processes
      within = let a = slice_get_within members p (Some s) e in let b = m.count in omega arith

      go : (b : Bool) → is_of owners g p ≡ b → s ≡ x.opening p
      go true o = let k : Some (Some s) ≡ Some (Some (x.opening p)) = sym e ∙ m.ours p within o in cc
      go false o = absurd (let k : Some (Some s) ≡ Some None = sym e ∙ m.others p within o in cc)

module _ {S : Type 0} (x : Setting S) (owners : List ℕ) (own : List ℕ) (is : own ≡ owners) (each : length owners ≡ x.processes) (g : ℕ) (slots left members : List (Option S)) where
  -- those of later groups are still there
  pub still-there : ((p : ℕ) → is_of own g p ≡ false → slice_get left p ≡ slice_get slots p) →
      ((p : ℕ) → p < x.processes → (h : ℕ) → is_of owners h p ≡ true → g ≤ h → slice_get slots p ≡ Some (Some (x.opening p))) →
      (p : ℕ) → p < x.processes → (h : ℕ) → is_of owners h p ≡ true → g + 1 ≤ h → slice_get left p ≡ Some (Some (x.opening p))
  still-there stays there p i h o later =
      stays p (ap (λ z. is_of z g p) is ∙ of-other owners g h p (λ e. absurd (omega arith)) o) ∙ there p i h o (omega arith)

  -- those of this group are its members
  pub parted : length members ≡ length own → ((p : ℕ) → p < length own → is_of own g p ≡ true → slice_get members p ≡ slice_get slots p) →
      ((p : ℕ) → p < length own → is_of own g p ≡ false → slice_get members p ≡ Some None) →
      ((p : ℕ) → p < x.processes → (h : ℕ) → is_of owners h p ≡ true → g ≤ h → slice_get slots p ≡ Some (Some (x.opening p))) → AreMembersOf x owners g members
  parted count ours others there = record {
    count = count ∙ (ap length is ∙ each);
    ours = λ p i o. ours p (within p i) (ap (λ z. is_of z g p) is ∙ o) ∙ there p i g o (omega arith);
    others = λ p i o. others p (within p i) (ap (λ z. is_of z g p) is ∙ o);
  }
    where
      within : (p : ℕ) → p < x.processes → p < length own
      within p i = let a = ap length is in let b = each in omega arith
