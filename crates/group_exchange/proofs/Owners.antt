-- Which group a process is of, and the letters for a group.
use Rattle.std.proofs.Common.{◌≡◌, ℕ, ◌<◌, ◌==◌, Bool, true, false, cond, List, [], ◌∷◌, length, Option, Some, None, refl, sym, ap, ◌∙◌, eq-eqb, eqb-true, slice_get}
use Rattle.std.proofs.lemmas.Bool.{both_ways}
use Rattle.std.proofs.lemmas.Option.{slice_get_within}
use Rattle.vlink.specs.declared.message.Message.{Message}
use Rattle.vlink.specs.Letters.{Letter}
use Rattle.virtual_time.specs.Law.{Order, received_by}
use Rattle.group_exchange.specs.Views.{is_number, is_of, for_group}

-- the number of the group of a process
pub owner-is : (owners : List ℕ) (g p : ℕ) → is_of owners g p ≡ true → slice_get owners p ≡ Some g
owner-is owners g p e = go (slice_get owners p) e
  where
    go : (o : Option ℕ) → is_number g o ≡ true → o ≡ Some g
    go None k = absurd (both_ways false refl k)
    go (Some h) k = ap (λ n. Some n) (eqb-true h g k)

pub of-owner : (owners : List ℕ) (g p : ℕ) → slice_get owners p ≡ Some g → is_of owners g p ≡ true
of-owner owners g p e = ap (is_number g) e ∙ eq-eqb g g refl

-- a process has one group
pub of-one : (owners : List ℕ) (g h p : ℕ) → is_of owners g p ≡ true → is_of owners h p ≡ true → g ≡ h
of-one owners g h p a b = let c : Some g ≡ Some h = sym (owner-is owners g p a) ∙ owner-is owners h p b in cc

pub of-other : (owners : List ℕ) (g h p : ℕ) → (h ≡ g → ⊥) → is_of owners h p ≡ true → is_of owners g p ≡ false
of-other owners g h p n b = go (is_of owners g p) refl
  where
    go : (c : Bool) → is_of owners g p ≡ c → c ≡ false
    go true e = absurd (n (of-one owners h g p b e))
    go false e = refl

pub of-within : (owners : List ℕ) (g p : ℕ) → is_of owners g p ≡ true → p < length owners
of-within owners g p e = slice_get_within owners p g (owner-is owners g p e)

module _ (o : Order Message) (owners : List ℕ) (g : ℕ) where
  -- those for a process of the group are among those for the group
  pub received-group : (p : ℕ) → is_of owners g p ≡ true → (ls : List Letter) → received_by o p (for_group o owners g ls) ≡ received_by o p ls
  received-group p e [] = refl
  received-group p e (l ∷ ls) = go (o.receiver l.message == p) (is_of owners g (o.receiver l.message)) refl refl (received-group p e ls)
    where
      go : (b c : Bool) → (o.receiver l.message == p) ≡ b → is_of owners g (o.receiver l.message) ≡ c → received_by o p (for_group o owners g ls) ≡ received_by o p ls →
          received_by o p (cond c (l ∷ for_group o owners g ls) (for_group o owners g ls)) ≡ cond b (l ∷ received_by o p ls) (received_by o p ls)
      go true true i j h = ap (λ z. cond z (l ∷ received_by o p (for_group o owners g ls)) (received_by o p (for_group o owners g ls))) i ∙ ap (λ z. l ∷ z) h
      go true false i j h = absurd (both_ways (is_of owners g (o.receiver l.message)) j (ap (is_of owners g) (eqb-true (o.receiver l.message) p i) ∙ e))
      go false true i j h = ap (λ z. cond z (l ∷ received_by o p (for_group o owners g ls)) (received_by o p (for_group o owners g ls))) i ∙ h
      go false false i j h = h
