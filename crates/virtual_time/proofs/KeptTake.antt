-- What is kept when a process takes a letter from its mail: its floor falls to the time of the letter.
use Rattle.std.proofs.Common.{◌≡◌, ℕ, ◌+◌, ◌<◌, ◌≤◌, inl, inr, min, [], ◌∷◌, ◌++◌, Some, refl, sym, ap, subst, arith, slice_get, remove}
use Rattle.virtual_time.specs.Law.{times_in, pluses, minuses, IsNamed, delivered, Simulation, Laws, World, taken, CountLaw, SendsKept, IsReached}
use Rattle.virtual_time.specs.declared.letter.Letter.{Letter}
use Rattle.virtual_time.proofs.Letters.{pluses-append, minuses-append, named-push, named-head, letter-others}
use Rattle.virtual_time.proofs.Sound.{IsSound}
use Rattle.virtual_time.proofs.WellStep.{delivered-well}
use Rattle.virtual_time.proofs.Kept.{put_elim, put_elim₂, IsKept}

module _ {M S K N : Type 0} (f : Simulation M S K N) (L : Laws f) where
  module _ (w : World M S) (k : IsKept f L w) (p : ℕ) (i : p < f.processes) (n : ℕ) (l : Letter M) (e : slice_get (w.mail p) n ≡ Some l) where
    others-named : (m : M) → IsNamed f.rules.order m (remove (w.mail p) n) → IsNamed f.rules.order m (w.mail p)
    others-named m h = let a = letter-others f.rules.order L.order n (w.mail p) l e m in let b = a.0 in let c = a.1 in omega arith

    taken-named : IsNamed f.rules.order l.message (w.mail p)
    taken-named = let a = letter-others f.rules.order L.order n (w.mail p) l e l.message in let b = a.0 in let c = a.1 in let d = named-head f.rules.order L.order l (remove (w.mail p) n) in omega arith

    taken-sound : IsSound f L w.gvt (min (f.rules.order.time l.message) (w.floors p)) p (delivered l (w.parts p))
    taken-sound = let s = k.sound p i in record {
      well = delivered-well f.rules (IsReached f p) (f.opening p) l (w.parts p) s.well;
      ascending = s.ascending;
      here = s.here;
      committed_low = s.committed_low;
      committed_none = s.committed_none;
      unhandled_late = λ m h z. let a = s.unhandled_late m h z in omega arith;
      tray_late = λ m h. elim (named-push f.rules.order L.order m l (w.parts p).tray h) [ inl j ↦ (let a = s.tray_late m j in omega arith) | inr d ↦ (let a = ap f.rules.order.time d in omega arith) ];
      outbox_late = λ m h. let a = s.outbox_late m h in omega arith;
      tally_here = s.tally_here;
      tray_here = λ m h. elim (named-push f.rules.order L.order m l (w.parts p).tray h) [ inl j ↦ s.tray_here m j | inr d ↦ subst (λ z. f.rules.order.receiver z ≡ p) (sym d) (k.mail_here p l.message taken-named) ];
      outbox_from = s.outbox_from;
      low = let a = s.low in let b = k.mail_late p i l.message taken-named in omega arith;
    }

    pub take-kept : IsKept f L (taken f p n w (Some l))
    take-kept = record {
      sound = put_elim₂ (λ q z t. q < f.processes → IsSound f L w.gvt t q z) p (delivered l (w.parts p)) (min (f.rules.order.time l.message) (w.floors p)) w.parts w.floors (λ j. taken-sound) (λ q n. k.sound q);
      mail_late = put_elim (λ q ls. q < f.processes → (m : M) → IsNamed f.rules.order m ls → w.gvt ≤ f.rules.order.time m) p (remove (w.mail p) n) w.mail (λ j m h. k.mail_late p i m (others-named m h)) (λ q n. k.mail_late q);
      mail_here = put_elim (λ q ls. (m : M) → IsNamed f.rules.order m ls → f.rules.order.receiver m ≡ q) p (remove (w.mail p) n) w.mail (λ m h. k.mail_here p m (others-named m h)) (λ q n. k.mail_here q);
      law = law_next;
      outside = put_elim (λ q z. f.processes ≤ q → z.committed ++ z.done ≡ []) p (delivered l (w.parts p)) w.parts (λ j. k.outside p j) (λ q n. k.outside q);
      outside_outbox = put_elim (λ q z. f.processes ≤ q → z.outbox ≡ []) p (delivered l (w.parts p)) w.parts (λ j. k.outside_outbox p j) (λ q n. k.outside_outbox q);
      in_time = k.in_time;
    }
      where
        law_next : (m : M) → CountLaw f (taken f p n w (Some l)) m
        law_next m =
            let here =
            let x = letter-others f.rules.order L.order n (w.mail p) l e m in
            let x0 = x.0 in let x1 = x.1 in
            let y = pluses-append f.rules.order L.order m (w.parts p).tray (l ∷ []) in
            let z = minuses-append f.rules.order L.order m (w.parts p).tray (l ∷ []) in
            let t : (pluses f.rules.order m (w.parts p).tally + pluses f.rules.order m ((w.parts p).tray ++ l ∷ []) + pluses f.rules.order m (remove (w.mail p) n) + times_in f.rules.order m (w.parts p).committed) + (minuses f.rules.order m (w.parts p).tally + minuses f.rules.order m (w.parts p).tray + minuses f.rules.order m (w.mail p))
            ≡ (pluses f.rules.order m (w.parts p).tally + pluses f.rules.order m (w.parts p).tray + pluses f.rules.order m (w.mail p) + times_in f.rules.order m (w.parts p).committed) + (minuses f.rules.order m (w.parts p).tally + minuses f.rules.order m ((w.parts p).tray ++ l ∷ []) + minuses f.rules.order m (remove (w.mail p) n)) = omega arith in
            t in
            let a = put_elim₂ (λ q z ls.
            (pluses f.rules.order m z.tally + pluses f.rules.order m z.tray + pluses f.rules.order m ls + times_in f.rules.order m z.committed) + (minuses f.rules.order m (w.parts q).tally + minuses f.rules.order m (w.parts q).tray + minuses f.rules.order m (w.mail q))
            ≡ (pluses f.rules.order m (w.parts q).tally + pluses f.rules.order m (w.parts q).tray + pluses f.rules.order m (w.mail q) + times_in f.rules.order m (w.parts q).committed) + (minuses f.rules.order m z.tally + minuses f.rules.order m z.tray + minuses f.rules.order m ls))
            p (delivered l (w.parts p)) (remove (w.mail p) n) w.parts w.mail here (λ q n. refl) (f.rules.order.receiver m) in
            let b = put_elim (λ q z. SendsKept f.rules (f.opening q) (w.parts q) z m) p (delivered l (w.parts p)) w.parts refl (λ q n. refl) (f.rules.order.sender m) in
            let c = k.law m in
            omega arith
