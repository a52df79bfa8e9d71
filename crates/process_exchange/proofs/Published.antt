-- GVT is set anew.
use Rattle.std.proofs.Common.{◌≡◌, ℕ, ◌+◌, ◌<◌, ◌≤◌, Bool, true, false, List, [], ◌∷◌, ◌++◌, length, slice_get, Some, None, refl, sym, ◌∙◌, subst, arith}
use Rattle.vlink.specs.declared.message.Message.{Message}
use Rattle.vlink.specs.declared.note.Note.{Note}
use Rattle.virtual_time.specs.Law.{Rules, Simulation, Laws, World, start, run, gvt_over, Published, Entry, steps_of, steps, reach}
use Rattle.virtual_time.proofs.Journal.{put_kept, run-then, publishes}
use Rattle.virtual_time.proofs.Safety.{rises}
use Rattle.reverse.specs.Setting.{Setting, simulation_of}
use Rattle.antimessages.specs.Letters.{Store}
use Rattle.antimessages.specs.Mailing.{letters_for}
use Rattle.gvt.specs.Horizon.{Floors, horizon_over}
use Rattle.journal.specs.Deeds.{entry_by}
use Rattle.process_exchange.specs.declared.mark.Standing.{Standing}
use Rattle.process_exchange.specs.Views.{Ledger}
use Rattle.process_exchange.specs.Keeps.{IsRecorded}
use Rattle.process_exchange.specs.Effects.{publishes as publishes-effect}
use Rattle.process_exchange.proofs.Growth.{marks-stay, kept-more}

module _ {S K : Type 0} {r : Rules Message S K Note} {number end : S → ℕ} {is_placed : S → Type 0} {x : Setting S} {es : List (Entry Message)} {mail : List Store} {floors : Floors}
    {gvt count : ℕ} {standings : List Standing} (k : IsRecorded r number end is_placed x es mail floors gvt count standings) where
  -- the horizon of floors and mail is GVT of the world after the journal
  pub gvt-told : ((f : Simulation Message S K Note) → ((m : Message) → f.rules.order.time m ≡ m.time) → (w : World Message S) (fs : Floors) (ms : List Store) →
      f.processes ≡ length fs.floors → f.processes ≡ length ms → f.until ≡ fs.until → ((p : ℕ) → p < f.processes → slice_get fs.floors p ≡ Some (w.floors p)) →
      ((p : ℕ) → p < f.processes → letters_for p ms ≡ w.mail p) → horizon_over fs ms ≡ gvt_over f f.processes w) → ((m : Message) → r.order.time m ≡ m.time) →
      horizon_over floors mail ≡ gvt_over (simulation_of r x) x.processes (reach (simulation_of r x) es)
  gvt-told law time =
      law (simulation_of r x) time (reach (simulation_of r x) es) floors mail (sym k.floor_count) (sym k.boxes) (sym k.until) k.floors_is k.mail_is

  module _ (L : Laws (simulation_of r x)) where
    -- GVT does not fall
    gvt-rises : gvt ≤ gvt_over (simulation_of r x) x.processes (reach (simulation_of r x) es)
    gvt-rises =
        let f = simulation_of r x in
        let w = reach f es in
        let xs = steps es in
        let later : run f (xs ++ steps_of {M = Message} 0 Published) (start f) ≡ record { parts = w.parts; mail = w.mail; floors = w.floors; gvt = gvt_over f x.processes w } =
        run-then f xs (steps_of {M = Message} 0 Published) (start f) ∙ publishes f w in
        let rise : (run f xs (start f)).gvt ≤ (run f (xs ++ steps_of {M = Message} 0 Published) (start f)).gvt = rises f L xs (steps_of {M = Message} 0 Published) in
        subst (λ g. g ≤ gvt_over f x.processes w) (sym k.gvt_is) (subst (λ (z : World Message S). w.gvt ≤ z.gvt) later rise)

    pub kept-published : (gvt' : ℕ) → gvt' ≡ gvt_over (simulation_of r x) x.processes (reach (simulation_of r x) es) →
        (es' : List (Entry Message)) → es' ≡ es ++ entry_by 0 None Published ∷ [] → (count' : ℕ) → count' ≡ count + 1 →
        IsRecorded r number end is_placed x es' mail floors gvt' count' standings
    kept-published gvt' gvt-is es' more count' counts =
        let f = simulation_of r x in
        let w = reach f es in
        subst (λ us. IsRecorded r number end is_placed x us mail floors gvt' count' standings) (sym more)
        (kept-more k (entry_by 0 None Published) (record { parts = w.parts; mail = w.mail; floors = w.floors; gvt = gvt_over f x.processes w }) (publishes f w) (sym (put_kept 0 w.parts))
        mail refl k.mail_is floors refl refl k.floors_is gvt' gvt-is count' counts (omega arith) standings
        (marks-stay es (entry_by 0 None Published) k.marked (λ q. refl) refl gvt' (subst (λ g. gvt ≤ g) (sym gvt-is) gvt-rises)))

-- GVT is another one than before
pub publishes-more : {S K : Type 0} (f : Simulation Message S K Note) (b : Bool) (x y : Ledger) → b ≡ false → y ≡ record { entries = x.entries ++ entry_by 0 None Published ∷ []; marks = x.marks; shared = x.shared; limit = x.limit } →
    publishes-effect f b x y
publishes-more f true x y e h = absurd (cc)
publishes-more f false x y e h = h

-- GVT stays
pub publishes-none : {S K : Type 0} (f : Simulation Message S K Note) (b : Bool) (x y : Ledger) → b ≡ true → y ≡ x → publishes-effect f b x y
publishes-none f true x y e h = h
publishes-none f false x y e h = absurd (cc)
