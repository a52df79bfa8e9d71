-- GVT is set anew: what an exchange keeps, and what it did.
use Rattle.std.proofs.Common.{◌≡◌, ℕ, suc, ◌≤◌, Bool, true, false, List, [], ◌∷◌, ◌++◌, refl, sym, ap, ◌∙◌, subst}
use Rattle.vlink.specs.declared.message.Message.{Message}
use Rattle.vlink.specs.declared.note.Note.{Note}
use Rattle.virtual_time.specs.Law.{Rules, Simulation, Laws, World, AreDone, gvt_over, start}
use Rattle.virtual_time.specs.declared.step.Step.{Step}
use Rattle.virtual_time.specs.declared.step.Step.TheVariants.{Gvt}
use Rattle.virtual_time.proofs.Safety.{rises}
use Rattle.reverse.specs.Setting.{Setting, simulation_of}
use Rattle.gvt.specs.Horizon.{Floors}
use Rattle.group_exchange.specs.declared.mark.Standing.{Standing}
use Rattle.group_exchange.specs.Views.{Boxes, Ledger, is_of, world_after}
use Rattle.group_exchange.specs.Keeps.{AreAsIn, IsLeastFloor, IsRecorded}
use Rattle.group_exchange.specs.Effects.{publishes}
use Rattle.group_exchange.proofs.Enabled.{done-then, gvt-done}
use Rattle.group_exchange.proofs.Least.{gvt-set}
use Rattle.group_exchange.proofs.Marks.{marks-stay}

module _ {S K : Type 0} {r : Rules Message S K Note} {number end : S → ℕ} {is_placed : S → Type 0} {x : Setting S} {owners : List ℕ} {groups : ℕ} {steps : List Step} {mail : Boxes} {floors : Floors}
    {gvt : ℕ} {standings : List Standing} (k : IsRecorded r number end is_placed x owners groups steps mail floors gvt standings) (L : Laws (simulation_of r x)) where
  -- GVT does not fall
  gvt-rises : gvt ≤ gvt_over (simulation_of r x) x.processes (world_after (simulation_of r x) steps)
  gvt-rises =
      let f = simulation_of r x in
      let w = world_after f steps in
      let rise : w.gvt ≤ gvt_over f x.processes w = subst (λ (z : World Message S). w.gvt ≤ z.gvt) (gvt-set f steps) (rises f L steps (Gvt ∷ [])) in
      subst (λ n. n ≤ gvt_over f x.processes w) (sym k.gvt_is) rise

  pub kept-published : (gvt' : ℕ) → gvt' ≡ gvt_over (simulation_of r x) x.processes (world_after (simulation_of r x) steps) → (steps' : List Step) → steps' ≡ steps ++ Gvt ∷ [] →
      IsRecorded r number end is_placed x owners groups steps' mail floors gvt' standings
  kept-published gvt' is steps' more =
      let f = simulation_of r x in
      let w = world_after f steps in
      let next = ap (world_after f) more ∙ gvt-set f steps in
      record {
        laid = k.laid;
        grouped = k.grouped;
        owners_is = k.owners_is;
        boxes = k.boxes;
        home = k.home;
        in_time = k.in_time;
        mail_is = λ g p o. ap (λ (z : World Message S). z.mail p) next ∙ k.mail_is g p o;
        floor_count = k.floor_count;
        until = k.until;
        floors_is = λ g d e. subst (λ (z : World Message S). IsLeastFloor (is_of owners g) (suc x.until) z.floors d) (sym next) (k.floors_is g d e);
        gvt_is = is ∙ ap (λ (z : World Message S). z.gvt) (sym next);
        enabled = subst (λ ss. AreDone f ss (start f)) (sym more) (done-then f steps (Gvt ∷ []) (start f) k.enabled (gvt-done f w));
        marked = marks-stay k.marked steps' (λ g. subst (λ (z : World Message S). AreAsIn (is_of owners g) w z) (sym next) (record { parts = λ p o. refl; floors = λ p o. refl }))
            gvt' (subst (λ n. gvt ≤ n) (sym is) gvt-rises);
      }

module _ {S K : Type 0} (f : Simulation Message S K Note) (owners : List ℕ) where
  -- GVT is another one than before
  pub publishes-more : (b : Bool) (x y : Ledger) → b ≡ false → y ≡ record { steps = x.steps ++ Gvt ∷ []; marks = x.marks; limit = x.limit } → publishes f owners b x y
  publishes-more true x y e h = absurd (cc)
  publishes-more false x y e h = h

  -- GVT stays
  pub publishes-none : (b : Bool) (x y : Ledger) → b ≡ true → y ≡ x → publishes f owners b x y
  publishes-none true x y e h = h
  publishes-none false x y e h = absurd (cc)
