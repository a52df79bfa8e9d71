-- One process inside a world, with its floor and GVT: it is well, and its events and letters are where and when they may be.
use Rattle.std.proofs.Common.{◌≡◌, ℕ, ◌+◌, ◌<◌, ◌≤◌, ◌++◌, refl}
use Rattle.virtual_time.specs.Law.{times_in, IsIn, IsAscending, Simulation, Laws, IsReached, pluses, minuses, IsNamed, IsPresent, Part, IsWell, SendsKept}

module _ {M S K N : Type 0} (f : Simulation M S K N) (L : Laws f) where
  pub record IsSound (g floor p : ℕ) (part : Part M S) : Type 0 where
    pub well : IsWell f.rules (IsReached f p) (f.opening p) part
    pub ascending : IsAscending f.rules.order (part.committed ++ part.done)
    pub here : (m : M) → IsIn f.rules.order m (part.committed ++ part.done) → f.rules.order.receiver m ≡ p
    -- committed events are earlier than GVT, and their count is used up
    pub committed_low : (m : M) → IsIn f.rules.order m part.committed → f.rules.order.time m < g
    pub committed_none : (m : M) → IsIn f.rules.order m part.committed → pluses f.rules.order m part.tally ≡ minuses f.rules.order m part.tally
    -- nothing that is still to be handled, tallied or posted is earlier than the floor, nor the floor than GVT
    pub unhandled_late : (m : M) → IsPresent f.rules.order part.tally m → times_in f.rules.order m part.done ≡ 0 → floor ≤ f.rules.order.time m
    pub tray_late : (m : M) → IsNamed f.rules.order m part.tray → floor ≤ f.rules.order.time m
    pub outbox_late : (m : M) → IsNamed f.rules.order m part.outbox → floor ≤ f.rules.order.time m
    pub low : g ≤ floor
    pub tally_here : (m : M) → IsNamed f.rules.order m part.tally → f.rules.order.receiver m ≡ p
    pub tray_here : (m : M) → IsNamed f.rules.order m part.tray → f.rules.order.receiver m ≡ p
    pub outbox_from : (m : M) → IsNamed f.rules.order m part.outbox → (f.rules.order.sender m ≡ p) × (f.rules.order.receiver m < f.processes)

  -- the signed count of m in tally and tray, and one if it is committed, stay the same
  abbrev pub InHandKept : Part M S → Part M S → M → Type 0
  InHandKept old new m =
      (pluses f.rules.order m new.tally + pluses f.rules.order m new.tray + times_in f.rules.order m new.committed) + (minuses f.rules.order m old.tally + minuses f.rules.order m old.tray)
      ≡ (pluses f.rules.order m old.tally + pluses f.rules.order m old.tray + times_in f.rules.order m old.committed) + (minuses f.rules.order m new.tally + minuses f.rules.order m new.tray)

  -- what each step of one process keeps
  pub record IsStep (g floor p : ℕ) (old new : Part M S) : Type 0 where
    pub sound : IsSound g floor p new
    pub in_hand : (m : M) → InHandKept old new m
    pub sends : (m : M) → SendsKept f.rules (f.opening p) old new m

  pub no-step : (g floor p : ℕ) (part : Part M S) → IsSound g floor p part → IsStep g floor p part part
  no-step g floor p part s = record { sound = s; in_hand = λ m. refl; sends = λ m. refl }

  -- the law of undoing, in the form in which one process alone asks for it
  pub law-of : (p : ℕ) → p < f.processes → (s : S) (e : M) → IsReached f p s → f.rules.undo (f.rules.after s e) e (f.rules.kept s e) ≡ s
  law-of p i s e h = L.undoes p i s h e
