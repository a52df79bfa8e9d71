-- What every step keeps of the world: each process is sound, no letter in the mail is earlier than GVT, and the count law holds.
use Rattle.std.proofs.Common.{◌≡◌, ℕ, suc, ◌<◌, ◌≤◌, ◌⊎◌, inl, inr, [], ◌++◌, map, refl, sym, subst, arith, eq-eqb, ne_eqb}
use Rattle.std.proofs.lemmas.Bool.{cases_eq}
use Rattle.virtual_time.specs.Law.{plus_of, IsNamed, Part, Simulation, Laws, put, World, start, with_part, history, CountLaw, SendsKept, IsReached}
use Rattle.virtual_time.proofs.Letters.{pluses-plus, minuses-plus, received-mine, received-here}
use Rattle.virtual_time.proofs.Sound.{IsSound, InHandKept, IsStep}
use Rattle.virtual_time.proofs.WellStep.{opened-well}

-- what holds of the new value at p, and of the old ones elsewhere
pub put_elim : {X : Type 0} (P : ℕ → X → Type 0) (p : ℕ) (x : X) (g : ℕ → X) → P p x → ((q : ℕ) → (q ≡ p → ⊥) → P q (g q)) → (q : ℕ) → P q (put p x g q)
put_elim P p x g here there q = go (cases_eq q p)
  where
    go : (q ≡ p) ⊎ (q ≡ p → ⊥) → P q (put p x g q)
    go (inl e) = rw (eq-eqb q p e) (subst (λ r. P r x) (sym e) here)
    go (inr n) = rw (ne_eqb q p n) (there q n)

pub put_elim₂ : {X Y : Type 0} (P : ℕ → X → Y → Type 0) (p : ℕ) (x : X) (y : Y) (g : ℕ → X) (h : ℕ → Y) →
    P p x y → ((q : ℕ) → (q ≡ p → ⊥) → P q (g q) (h q)) → (q : ℕ) → P q (put p x g q) (put p y h q)
put_elim₂ P p x y g h here there q = go (cases_eq q p)
  where
    go : (q ≡ p) ⊎ (q ≡ p → ⊥) → P q (put p x g q) (put p y h q)
    go (inl e) = rw (eq-eqb q p e) (subst (λ r. P r x y) (sym e) here)
    go (inr n) = rw (ne_eqb q p n) (there q n)

module _ {M S K N : Type 0} (f : Simulation M S K N) (L : Laws f) where
  -- what every step keeps
  pub record IsKept (w : World M S) : Type 0 where
    pub sound : (p : ℕ) → p < f.processes → IsSound f L w.gvt (w.floors p) p (w.parts p)
    pub mail_late : (p : ℕ) → p < f.processes → (m : M) → IsNamed f.rules.order m (w.mail p) → w.gvt ≤ f.rules.order.time m
    pub mail_here : (p : ℕ) (m : M) → IsNamed f.rules.order m (w.mail p) → f.rules.order.receiver m ≡ p
    pub law : (m : M) → CountLaw f w m
    -- no process beyond the last has done or sent anything
    pub outside : (p : ℕ) → f.processes ≤ p → history f w p ≡ []
    pub outside_outbox : (p : ℕ) → f.processes ≤ p → (w.parts p).outbox ≡ []
    pub in_time : w.gvt ≤ suc f.until

  -- a step of one process
  pub part-kept : (w : World M S) → IsKept w → (p : ℕ) → p < f.processes → (new : Part M S) →
      IsStep f L w.gvt (w.floors p) p (w.parts p) new → IsKept (with_part f p new w)
  part-kept w k p i new s = record {
    sound = put_elim (λ q z. q < f.processes → IsSound f L w.gvt (w.floors q) q z) p new w.parts (λ j. s.sound) (λ q n. k.sound q);
    mail_late = k.mail_late;
    mail_here = k.mail_here;
    law = law_next;
    outside = put_elim (λ q z. f.processes ≤ q → z.committed ++ z.done ≡ []) p new w.parts (λ j. absurd (omega arith)) (λ q n. k.outside q);
    outside_outbox = put_elim (λ q z. f.processes ≤ q → z.outbox ≡ []) p new w.parts (λ j. absurd (omega arith)) (λ q n. k.outside_outbox q);
    in_time = k.in_time;
  }
    where
      law_next : (m : M) → CountLaw f (with_part f p new w) m
      law_next m =
          let a = put_elim (λ q z. InHandKept f L (w.parts q) z m) p new w.parts (s.in_hand m) (λ q n. refl) (f.rules.order.receiver m) in
          let b = put_elim (λ q z. SendsKept f.rules (f.opening q) (w.parts q) z m) p new w.parts (s.sends m) (λ q n. refl) (f.rules.order.sender m) in
          let c = k.law m in
          omega arith

  -- at the start
  pub start-kept : IsKept (start f)
  start-kept = record {
    sound = λ p i. record {
      well = opened-well f.rules (IsReached f p) (f.opening p);
      ascending = tt;
      here = λ m j. absurd (omega arith);
      committed_low = λ m j. absurd (omega arith);
      committed_none = λ m j. refl;
      unhandled_late = λ m h z. absurd (omega arith);
      tray_late = λ m h. absurd (omega arith);
      outbox_late = λ m h. absurd (omega arith);
      tally_here = λ m h. absurd (omega arith);
      tray_here = λ m h. absurd (omega arith);
      outbox_from = λ m h. absurd (omega arith);
      low = omega arith;
    };
    mail_late = λ p i m h. omega arith;
    mail_here = λ p m h. received-here f.rules.order L.order p m (map plus_of f.offers) h;
    law = λ m.
        let a = received-mine f.rules.order L.order (f.rules.order.receiver m) m refl (map plus_of f.offers) in
        let a0 = a.0 in let a1 = a.1 in
        let b = pluses-plus f.rules.order L.order m f.offers in
        let c = minuses-plus f.rules.order L.order m f.offers in
        omega arith;
    outside = λ p i. refl;
    outside_outbox = λ p i. refl;
    in_time = omega arith;
  }
