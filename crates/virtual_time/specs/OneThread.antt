-- The one-thread run: at each event the first waiting message is handled. It has no signs, no undoing and no GVT. Then the words that it
-- defines: the first events of a process, the state that they leave, and its events below a moment.
use Rattle.std.specs.Prelude.{◌≡◌, ℕ, zero, suc, ◌≤◌, List, [], ◌∷◌, ◌++◌, length, take, Option, Some, None}
use Rattle.virtual_time.specs.Rules.{reached, rows_of}
use Rattle.virtual_time.specs.declared.row.Row.{Row}
use Rattle.virtual_time.specs.Lists.{IsIn, least, earlier, without, events_at}
use Rattle.virtual_time.specs.Simulation.{Simulation, put}

-- the states of all processes, the messages that wait, those that were handled, in their order, and the rows
pub record OneThread (M S N : Type 0) : Type 0 where
  pub states : ℕ → S
  pub waiting : List M
  pub handled : List M
  pub rows : List (Row M N)

module _ {M S K N : Type 0} (f : Simulation M S K N) where
  -- the message is handled by its receiver: it waits no more, and what is sent waits
  abbrev pub handle : OneThread M S N → Option M → OneThread M S N
  handle t None = t
  handle t (Some m) =
      let p = f.rules.order.receiver m in
      record {
        states = put p (f.rules.after (t.states p) m) t.states;
        waiting = without f.rules.order m t.waiting ++ f.rules.sends (t.states p) m;
        handled = t.handled ++ m ∷ [];
        rows = t.rows ++ rows_of f.rules.order m (f.rules.notes (t.states p) m);
      }

  -- the run after n events; where nothing waits, one event more changes nothing
  unfoldable pub one : ℕ → OneThread M S N
  one zero = record { states = f.opening; waiting = f.offers; handled = []; rows = [] }
  one (suc n) = handle (one n) (least f.rules.order (one n).waiting)

  -- the events at process p, of the first n
  abbrev pub events : ℕ → ℕ → List M
  events n p = events_at f.rules.order p (one n).handled

  -- after n events nothing that waits is earlier than g
  abbrev pub NoneWaits : ℕ → ℕ → Type 0
  NoneWaits g n = (m : M) → IsIn f.rules.order m (one n).waiting → g ≤ f.rules.order.time m

  -- first: ms are the first c events at p in any one-thread run that has so many, and there is one
  pub record IsFirst (p c : ℕ) (ms : List M) : Type 0 where
    pub some : (n : ℕ) × (c ≤ length (events n p))
    pub each : (n : ℕ) → c ≤ length (events n p) → take c (events n p) ≡ ms

  -- left: s is the state of p after its first c events, in any one-thread run that has so many, and there is one
  pub record IsLeft (p c : ℕ) (s : S) : Type 0 where
    pub some : (n : ℕ) × (c ≤ length (events n p))
    pub each : (n : ℕ) → c ≤ length (events n p) → reached f.rules (f.opening p) (take c (events n p)) ≡ s
    -- as the run itself has it when it has handled just these at p
    pub there : (n : ℕ) → c ≡ length (events n p) → (one n).states p ≡ s

  -- below: ms are the events at p earlier than g, in any one-thread run where nothing that waits is earlier, and there is one
  pub record IsBelow (p g : ℕ) (ms : List M) : Type 0 where
    pub some : (n : ℕ) × NoneWaits g n
    pub each : (n : ℕ) → NoneWaits g n → earlier f.rules.order g (events n p) ≡ ms
