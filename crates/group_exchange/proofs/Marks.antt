-- The marks of groups, as the journal goes on.
use Rattle.std.proofs.Common.{◌≡◌, ℕ, zero, suc, ◌≤◌, ◌⊎◌, inl, inr, Bool, List, [], ◌∷◌, length, slice_get, Some, refl, sym, ap, ◌∙◌, subst, arith, set, length-set}
use Rattle.std.proofs.lemmas.List.{map-set}
use Rattle.vlink.specs.declared.message.Message.{Message}
use Rattle.vlink.specs.declared.note.Note.{Note}
use Rattle.virtual_time.specs.Law.{Rules, World}
use Rattle.virtual_time.specs.declared.step.Step.{Step}
use Rattle.reverse.specs.Setting.{Setting, simulation_of}
use Rattle.group_exchange.specs.declared.mark.Standing.{Standing}
use Rattle.group_exchange.specs.Views.{is_of, last_in, marks_in, mark_in, world_after}
use Rattle.group_exchange.specs.Keeps.{AreAsIn, AreMarked, IsMarked}

-- an element of a list of which one is another now
pub slice_get-set : {X : Type 0} (xs : List X) (i j : ℕ) (a y : X) → slice_get (set xs i a) j ≡ Some y → ((j ≡ i) × (y ≡ a)) ⊎ ((j ≡ i → ⊥) × (slice_get xs j ≡ Some y))
slice_get-set [] i j a y h = inr (λ e. absurd (let k : ⊥ = cc in k), h)
slice_get-set (x ∷ xs) zero zero a y h = inl (refl, cc)
slice_get-set (x ∷ xs) zero (suc j) a y h = inr (λ e. absurd (omega arith), h)
slice_get-set (x ∷ xs) (suc i) zero a y h = inr (λ e. absurd (omega arith), h)
slice_get-set (x ∷ xs) (suc i) (suc j) a y h =
    elim (slice_get-set xs i j a y h) [ inl e ↦ inl (ap suc e.0, e.1) | inr n ↦ inr (λ e. n.0 (omega arith), n.1) ]

module _ {S : Type 0} (ours : ℕ → Bool) where
  pub as-is : (v : World Message S) → AreAsIn ours v v
  as-is v = record { parts = λ p o. refl; floors = λ p o. refl }

  pub as-then : (u v w : World Message S) → AreAsIn ours u v → AreAsIn ours v w → AreAsIn ours u w
  as-then u v w a b = record { parts = λ p o. a.parts p o ∙ b.parts p o; floors = λ p o. a.floors p o ∙ b.floors p o }

-- what the marks tell when one of them is told anew
pub marks-told : (standings standings' : List Standing) (g : ℕ) (now : Standing) → standings' ≡ set standings g now → now.steps ≡ length (last_in now) →
    marks_in standings' ≡ set (marks_in standings) g (record { steps = length (last_in now); seen = now.seen })
marks-told standings standings' g now told place =
    ap marks_in told ∙
    (map-set mark_in standings g now ∙ ap (λ n. set (marks_in standings) g (record { steps = n; seen = now.seen })) place)

module _ {S K : Type 0} {r : Rules Message S K Note} {number end : S → ℕ} {is_placed : S → Type 0} {x : Setting S} {owners : List ℕ} {groups gvt : ℕ} {steps : List Step} {standings : List Standing}
    (old : AreMarked r number end is_placed x owners groups steps gvt standings) (steps' : List Step) where
  -- steps that change no group
  pub marks-stay : ((g : ℕ) → AreAsIn (is_of owners g) (world_after (simulation_of r x) steps) (world_after (simulation_of r x) steps')) → (gvt' : ℕ) → gvt ≤ gvt' →
      AreMarked r number end is_placed x owners groups steps' gvt' standings
  marks-stay stays gvt' rises = record {
    count = old.count;
    each = λ g s h. let k = old.each g s h in record {
      same = as-then (is_of owners g) _ _ _ k.same (stays g);
      place = k.place;
      seen_low = let a = k.seen_low in omega arith;
    };
  }

  -- steps of one group, which stands there now
  pub marks-set : (g : ℕ) → ((h : ℕ) → (h ≡ g → ⊥) → AreAsIn (is_of owners h) (world_after (simulation_of r x) steps) (world_after (simulation_of r x) steps')) →
      (now : Standing) → last_in now ≡ steps' → now.steps ≡ length steps' → now.seen ≤ gvt → (standings' : List Standing) → standings' ≡ set standings g now →
      AreMarked r number end is_placed x owners groups steps' gvt standings'
  marks-set g others now last place low standings' told = record {
    count = ap length told ∙ (length-set standings g now ∙ old.count);
    each = λ h s e. elim (slice_get-set standings g h now s (ap (λ ss. slice_get ss h) (sym told) ∙ e)) [
      | inl k ↦ subst (λ (z : Standing). IsMarked r number end is_placed x owners steps' gvt h z) (sym k.1) (record {
        same = subst (λ z. AreAsIn (is_of owners h) (world_after (simulation_of r x) z) (world_after (simulation_of r x) steps')) (sym last) (as-is (is_of owners h) _);
        place = place ∙ ap length (sym last);
        seen_low = low;
      })
      | inr k ↦ (let m = old.each h s k.1 in record {
        same = as-then (is_of owners h) _ _ _ m.same (others h k.0);
        place = m.place;
        seen_low = m.seen_low;
      })
    ];
  }
