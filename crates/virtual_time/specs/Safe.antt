-- What holds of the world after every step: the count law, what floors bound, and that it is safe. Then what a finished world is.
use Rattle.std.specs.Prelude.{◌≡◌, ℕ, suc, ◌+◌, ◌<◌, ◌≤◌, List, [], ◌++◌, length}
use Rattle.virtual_time.specs.Rules.{rowed, rows_at}
use Rattle.virtual_time.specs.Lists.{times_in, IsIn, earlier}
use Rattle.virtual_time.specs.Simulation.{Simulation, made}
use Rattle.virtual_time.specs.OneThread.{IsFirst, IsLeft, IsBelow, one, events}
use Rattle.virtual_time.specs.Letters.{pluses, minuses, IsNamed, IsPresent}
use Rattle.virtual_time.specs.Part.{Part, undo_all}
use Rattle.virtual_time.specs.World.{World}

module _ {M S K N : Type 0} (f : Simulation M S K N) where
  -- the events of p, first the committed ones and then the done ones
  abbrev pub history : World M S → ℕ → List M
  history w p = (w.parts p).committed ++ (w.parts p).done

  -- the signed counts of m in its receiver's tally, tray and mail and in its sender's outbox, and one if it is committed,
  -- add up to one if it is an offer or was sent by a committed or done event, else to none
  abbrev pub CountLaw : World M S → M → Type 0
  CountLaw w m =
      let mine = w.parts (f.rules.order.receiver m) in
      let its = w.parts (f.rules.order.sender m) in
      let mail = w.mail (f.rules.order.receiver m) in
      (pluses f.rules.order m mine.tally + pluses f.rules.order m mine.tray + pluses f.rules.order m mail + times_in f.rules.order m mine.committed) + pluses f.rules.order m its.outbox
      ≡ (minuses f.rules.order m mine.tally + minuses f.rules.order m mine.tray + minuses f.rules.order m mail) + minuses f.rules.order m its.outbox + made f (history w) m

  -- nothing that a process has in hand is earlier than g: no letter of its tray or outbox, and no present message that is not done
  pub record NothingBefore (g : ℕ) (part : Part M S) : Type 0 where
    pub tray : (m : M) → IsNamed f.rules.order m part.tray → g ≤ f.rules.order.time m
    pub outbox : (m : M) → IsNamed f.rules.order m part.outbox → g ≤ f.rules.order.time m
    pub unhandled : (m : M) → IsPresent f.rules.order part.tally m → times_in f.rules.order m part.done ≡ 0 → g ≤ f.rules.order.time m

  -- a safe world
  pub record Safe (w : World M S) : Type 0 where
    -- the committed events are the first ones of the one-thread run, and undoing all done ones leaves the state after them
    pub first : (p : ℕ) → p < f.processes → IsFirst f p (length (w.parts p).committed) (w.parts p).committed
    pub left : (p : ℕ) → p < f.processes → IsLeft f p (length (w.parts p).committed) (undo_all f.rules (f.opening p) (w.parts p))
    -- with the done events earlier than GVT they are all events of the one-thread run that are
    pub below : (p : ℕ) → p < f.processes → IsBelow f p w.gvt ((w.parts p).committed ++ earlier f.rules.order w.gvt (w.parts p).done)
    -- no letter and no unhandled message is earlier than GVT
    pub mail : (p : ℕ) → p < f.processes → (m : M) → IsNamed f.rules.order m (w.mail p) → w.gvt ≤ f.rules.order.time m
    pub tray : (p : ℕ) → p < f.processes → (m : M) → IsNamed f.rules.order m (w.parts p).tray → w.gvt ≤ f.rules.order.time m
    pub outbox : (p : ℕ) → p < f.processes → (m : M) → IsNamed f.rules.order m (w.parts p).outbox → w.gvt ≤ f.rules.order.time m
    pub unhandled : (p : ℕ) → p < f.processes → (m : M) → IsPresent f.rules.order (w.parts p).tally m →
        times_in f.rules.order m (w.parts p).done ≡ 0 → w.gvt ≤ f.rules.order.time m
    -- each done event earlier than GVT has the signed count 1, so its count does not hinder its commit
    pub counts_one : (p : ℕ) → p < f.processes → (m : M) → IsIn f.rules.order m (w.parts p).done → f.rules.order.time m < w.gvt →
        pluses f.rules.order m (w.parts p).tally ≡ minuses f.rules.order m (w.parts p).tally + 1

  -- a finished world: GVT is beyond the end, and every done event is committed
  pub record IsFinished (w : World M S) : Type 0 where
    pub over : w.gvt ≡ suc f.until
    pub all_committed : (p : ℕ) → p < f.processes → (w.parts p).done ≡ []

  -- the committed events are those of the whole one-thread run, in which nothing waits any more, and so are their rows
  pub record IsWhole (w : World M S) : Type 0 where
    pub event_count : ℕ
    pub none_waits : (one f event_count).waiting ≡ []
    pub same_events : (p : ℕ) → p < f.processes → (w.parts p).committed ≡ events f event_count p
    pub same_rows : (p : ℕ) → p < f.processes → rowed f.rules (f.opening p) (w.parts p).committed ≡ rows_at p (one f event_count).rows
