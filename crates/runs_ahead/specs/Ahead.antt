-- The one-thread run in which some processes run ahead. It handles each message to such a process when the message is sent: the message does
-- not wait, and what the process sends waits in its place. A line without outages can run ahead: it only passes frames on.
use Rattle.std.specs.Prelude.{ℕ, zero, suc, Bool, cond, List, [], ◌∷◌, ◌++◌, Option, Some, None}
use Rattle.virtual_time.specs.Law.{OneThread, Simulation, least, put, rows_of, without}

module _ {M S K N : Type 0} (f : Simulation M S K N) (ahead : ℕ → Bool) where
  -- the message is for a process that runs ahead
  abbrev pub is_ahead : M → Bool
  is_ahead m = ahead (f.rules.order.receiver m)

  -- the states after a message was sent: a process that runs ahead handles it at once
  abbrev pub passed : (ℕ → S) → M → (ℕ → S)
  passed g x = cond (is_ahead x) (put (f.rules.order.receiver x) (f.rules.after (g (f.rules.order.receiver x)) x) g) g

  -- the states after these messages were sent, one after another
  abbrev pub passed_all : (ℕ → S) → List M → (ℕ → S)
  passed_all g [] = g
  passed_all g (x ∷ xs) = passed_all (passed g x) xs

  -- what waits for one message that is sent: the message itself, or what the process that runs ahead sends
  abbrev pub in_place : (ℕ → S) → M → List M
  in_place g x = cond (is_ahead x) (f.rules.sends (g (f.rules.order.receiver x)) x) (x ∷ [])

  -- what waits for these messages
  abbrev pub in_place_of : (ℕ → S) → List M → List M
  in_place_of g [] = []
  in_place_of g (x ∷ xs) = in_place g x ++ in_place_of (passed g x) xs

  -- the states when the receiver of m has handled it, and nothing that it sends is handled yet
  abbrev pub next_states : (ℕ → S) → M → (ℕ → S)
  next_states g m = put (f.rules.order.receiver m) (f.rules.after (g (f.rules.order.receiver m)) m) g

  -- the receiver handles the message, and each process that runs ahead handles what is sent to it
  abbrev pub handle_ahead : OneThread M S N → Option M → OneThread M S N
  handle_ahead t None = t
  handle_ahead t (Some m) = record {
    states = passed_all (next_states t.states m) (f.rules.sends (t.states (f.rules.order.receiver m)) m);
    waiting = without f.rules.order m t.waiting ++ in_place_of (next_states t.states m) (f.rules.sends (t.states (f.rules.order.receiver m)) m);
    handled = t.handled ++ m ∷ [];
    rows = t.rows ++ rows_of f.rules.order m (f.rules.notes (t.states (f.rules.order.receiver m)) m);
  }

  -- the run after n such events
  unfoldable pub one_ahead : ℕ → OneThread M S N
  one_ahead zero = record { states = f.opening; waiting = f.offers; handled = []; rows = [] }
  one_ahead (suc n) = handle_ahead (one_ahead n) (least f.rules.order (one_ahead n).waiting)
