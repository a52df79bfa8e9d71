-- What is kept when GVT is set anew: it is at most each floor and each letter in the mail, and never falls.
use Rattle.std.proofs.Common.{◌≡◌, ℕ, zero, suc, ◌<◌, ◌≤◌, ◌⊎◌, inl, inr, sym, subst, arith}
use Rattle.std.proofs.lemmas.Bool.{cases_eq}
use Rattle.virtual_time.specs.Law.{IsNamed, times_of, Simulation, Laws, World, gvt_over}
use Rattle.virtual_time.proofs.Lowest.{lowest-top, lowest-letter, lowest-letters}
use Rattle.virtual_time.proofs.Kept.{IsKept}

module _ {M S K N : Type 0} (f : Simulation M S K N) (L : Laws f) where
  gvt_over-top : (n : ℕ) (w : World M S) → gvt_over f n w ≤ suc f.until
  gvt_over-top zero w = omega arith
  gvt_over-top (suc p) w = let a = gvt_over-top p w in let b = lowest-top f.rules.order L.order (gvt_over f p w) (times_of f.rules.order (w.mail p)) in omega arith

  gvt_over-bounds : (n : ℕ) (w : World M S) (p : ℕ) → p < n →
      (gvt_over f n w ≤ w.floors p) × ((m : M) → IsNamed f.rules.order m (w.mail p) → gvt_over f n w ≤ f.rules.order.time m)
  gvt_over-bounds zero w p i = absurd (omega arith)
  gvt_over-bounds (suc n) w p i = go (cases_eq p n) (λ j. gvt_over-bounds n w p j)
    where
      below : gvt_over f (suc n) w ≤ gvt_over f n w
      below = let b = lowest-top f.rules.order L.order (gvt_over f n w) (times_of f.rules.order (w.mail n)) in omega arith

      go : (p ≡ n) ⊎ (p ≡ n → ⊥) → (p < n → (gvt_over f n w ≤ w.floors p) × ((m : M) → IsNamed f.rules.order m (w.mail p) → gvt_over f n w ≤ f.rules.order.time m)) →
          (gvt_over f (suc n) w ≤ w.floors p) × ((m : M) → IsNamed f.rules.order m (w.mail p) → gvt_over f (suc n) w ≤ f.rules.order.time m)
      go (inl e) r = subst (λ q. (gvt_over f (suc n) w ≤ w.floors q) × ((m : M) → IsNamed f.rules.order m (w.mail q) → gvt_over f (suc n) w ≤ f.rules.order.time m)) (sym e)
          (omega arith, λ m h. let a = lowest-letter f.rules.order L.order (gvt_over f n w) (w.mail n) m h in omega arith)
      go (inr d) r = let a = r (omega arith) in
          (let b = a.0 in let c = below in omega arith, λ m h. let b = a.1 m h in let c = below in omega arith)

  pub gvt_over-rises : (w : World M S) → IsKept f L w → (n : ℕ) → n ≤ f.processes → w.gvt ≤ gvt_over f n w
  gvt_over-rises w k zero h = k.in_time
  gvt_over-rises w k (suc p) h =
      let a = (k.sound p (omega arith)).low in
      let b = lowest-letters f.rules.order L.order w.gvt (gvt_over f p w) (w.mail p) (gvt_over-rises w k p (omega arith)) (k.mail_late p (omega arith)) in
      omega arith

  abbrev at_gvt : World M S → World M S
  at_gvt w = record { parts = w.parts; mail = w.mail; floors = w.floors; gvt = gvt_over f f.processes w }

  pub gvt-kept : (w : World M S) → IsKept f L w → IsKept f L (at_gvt w)
  gvt-kept w k = record {
    sound = λ p i. let s = k.sound p i in let up = gvt_over-rises w k f.processes (omega arith) in record {
      well = s.well;
      ascending = s.ascending;
      here = s.here;
      committed_low = λ m j. let a = s.committed_low m j in omega arith;
      committed_none = s.committed_none;
      unhandled_late = s.unhandled_late;
      tray_late = s.tray_late;
      outbox_late = s.outbox_late;
      tally_here = s.tally_here;
      tray_here = s.tray_here;
      outbox_from = s.outbox_from;
      low = (gvt_over-bounds f.processes w p i).0;
    };
    mail_late = λ p i. (gvt_over-bounds f.processes w p i).1;
    mail_here = k.mail_here;
    law = k.law;
    outside = k.outside;
    outside_outbox = k.outside_outbox;
    in_time = gvt_over-top f.processes w;
  }
