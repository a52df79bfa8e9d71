-- What is kept when a process posts its outbox: its letters go from the outbox to the mail, and its floor is set anew.
use Rattle.std.proofs.Common.{◌≡◌, ℕ, suc, ◌+◌, ◌<◌, ◌≤◌, inl, inr, [], ◌++◌, map, refl, sym, ◌∙◌, arith}
use Rattle.virtual_time.specs.Law.{sent, times_in, lowest, pluses, minuses, IsNamed, received_by, times_of, emptied, unhandled, floor_of, Simulation, Laws, put, World, posted, CountLaw, IsReached}
use Rattle.virtual_time.proofs.Letters.{pluses-append, minuses-append, named-append, named-none, received-mine, received-here}
use Rattle.virtual_time.proofs.Presence.{unhandled-is, unhandled-from}
use Rattle.virtual_time.proofs.Lowest.{lowest-top, lowest-letter, lowest-letters, lowest-message, lowest-messages}
use Rattle.virtual_time.proofs.Sound.{IsSound, InHandKept}
use Rattle.virtual_time.proofs.WellStep.{emptied-well}
use Rattle.virtual_time.proofs.Kept.{put_elim, put_elim₂, IsKept}

module _ {M S K N : Type 0} (f : Simulation M S K N) (L : Laws f) where
  module _ (w : World M S) (k : IsKept f L w) (p : ℕ) (i : p < f.processes) where
    received-in : (q : ℕ) (m : M) → IsNamed f.rules.order m (received_by f.rules.order q (w.parts p).outbox) → IsNamed f.rules.order m (w.parts p).outbox
    received-in q m h =
        let a = received-mine f.rules.order L.order q m (received-here f.rules.order L.order q m (w.parts p).outbox h) (w.parts p).outbox in
        let b = a.0 in let c = a.1 in
        omega arith

    emptied-sound : IsSound f L w.gvt (floor_of f.rules.order f.until (w.parts p)) p (emptied (w.parts p))
    emptied-sound = let s = k.sound p i in record {
      well = emptied-well f.rules (IsReached f p) (f.opening p) (w.parts p) s.well;
      ascending = s.ascending;
      here = s.here;
      committed_low = s.committed_low;
      committed_none = s.committed_none;
      unhandled_late = λ m h z.
          let a = lowest-message f.rules.order L.order (suc f.until) (unhandled f.rules.order (w.parts p).tally (w.parts p).done) m (unhandled-from f.rules.order L.order (w.parts p).tally (w.parts p).done m h z) in
          let b = lowest-top f.rules.order L.order (lowest (suc f.until) (map f.rules.order.time (unhandled f.rules.order (w.parts p).tally (w.parts p).done))) (times_of f.rules.order (w.parts p).tray) in
          omega arith;
      tray_late = λ m h. lowest-letter f.rules.order L.order _ (w.parts p).tray m h;
      outbox_late = λ m h. absurd (omega arith);
      tally_here = s.tally_here;
      tray_here = s.tray_here;
      outbox_from = λ m h. absurd (omega arith);
      low = lowest-letters f.rules.order L.order w.gvt _ (w.parts p).tray
          (lowest-messages f.rules.order L.order w.gvt (suc f.until) (unhandled f.rules.order (w.parts p).tally (w.parts p).done) k.in_time
          (λ m h. let a = unhandled-is f.rules.order L.order (w.parts p).tally (w.parts p).done m h in let b = s.unhandled_late m a.0 a.1 in let c = s.low in omega arith))
          (λ m h. let b = s.tray_late m h in let c = s.low in omega arith);
    }

    pub post-kept : IsKept f L (posted f p w)
    post-kept = record {
      sound = put_elim₂ (λ q z t. q < f.processes → IsSound f L w.gvt t q z) p (emptied (w.parts p)) (floor_of f.rules.order f.until (w.parts p)) w.parts w.floors (λ j. emptied-sound) (λ q n. k.sound q);
      mail_late = λ q j m h. elim (named-append f.rules.order L.order m (w.mail q) (received_by f.rules.order q (w.parts p).outbox) h) [
        | inl a ↦ k.mail_late q j m a
        | inr a ↦ (let b = (k.sound p i).outbox_late m (received-in q m a) in let c = (k.sound p i).low in omega arith)
      ];
      mail_here = λ q m h. elim (named-append f.rules.order L.order m (w.mail q) (received_by f.rules.order q (w.parts p).outbox) h)
          [ inl a ↦ k.mail_here q m a | inr a ↦ received-here f.rules.order L.order q m (w.parts p).outbox a ];
      law = law_next;
      outside = put_elim (λ q z. f.processes ≤ q → z.committed ++ z.done ≡ []) p (emptied (w.parts p)) w.parts (λ j. k.outside p j) (λ q n. k.outside q);
      outside_outbox = put_elim (λ q z. f.processes ≤ q → z.outbox ≡ []) p (emptied (w.parts p)) w.parts (λ j. refl) (λ q n. k.outside_outbox q);
      in_time = k.in_time;
    }
      where
        -- the letters that the mail gets are those that the sender's outbox loses
        gone : (m : M) → (q : ℕ) → f.rules.order.sender m ≡ q →
            (pluses f.rules.order m (put p (emptied (w.parts p)) w.parts q).outbox + pluses f.rules.order m (w.parts p).outbox ≡ pluses f.rules.order m (w.parts q).outbox)
            × (minuses f.rules.order m (put p (emptied (w.parts p)) w.parts q).outbox + minuses f.rules.order m (w.parts p).outbox ≡ minuses f.rules.order m (w.parts q).outbox)
        gone m = put_elim (λ q z. f.rules.order.sender m ≡ q →
            (pluses f.rules.order m z.outbox + pluses f.rules.order m (w.parts p).outbox ≡ pluses f.rules.order m (w.parts q).outbox)
            × (minuses f.rules.order m z.outbox + minuses f.rules.order m (w.parts p).outbox ≡ minuses f.rules.order m (w.parts q).outbox))
            p (emptied (w.parts p)) w.parts (λ d. (omega arith, omega arith))
            (λ q n d.
            let none : pluses f.rules.order m (w.parts p).outbox + minuses f.rules.order m (w.parts p).outbox ≡ 0 =
            named-none f.rules.order L.order m (w.parts p).outbox (λ h. n (sym d ∙ ((k.sound p i).outbox_from m h).0)) in
            (omega arith, omega arith))

        law_next : (m : M) → CountLaw f (posted f p w) m
        law_next m =
            let a = put_elim (λ q z. InHandKept f L (w.parts q) z m) p (emptied (w.parts p)) w.parts refl (λ q n. refl) (f.rules.order.receiver m) in
            let b = put_elim (λ q z. times_in f.rules.order m (sent f.rules (f.opening q) (z.committed ++ z.done)) ≡ times_in f.rules.order m (sent f.rules (f.opening q) ((w.parts q).committed ++ (w.parts q).done)))
            p (emptied (w.parts p)) w.parts refl (λ q n. refl) (f.rules.order.sender m) in
            let c = gone m (f.rules.order.sender m) refl in
            let c0 = c.0 in let c1 = c.1 in
            let d = received-mine f.rules.order L.order (f.rules.order.receiver m) m refl (w.parts p).outbox in
            let d0 = d.0 in let d1 = d.1 in
            let e = pluses-append f.rules.order L.order m (w.mail (f.rules.order.receiver m)) (received_by f.rules.order (f.rules.order.receiver m) (w.parts p).outbox) in
            let h = minuses-append f.rules.order L.order m (w.mail (f.rules.order.receiver m)) (received_by f.rules.order (f.rules.order.receiver m) (w.parts p).outbox) in
            let j = k.law m in
            omega arith
