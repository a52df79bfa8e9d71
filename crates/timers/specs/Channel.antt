-- A channel of the one-thread run: a kind of message that one process sends to another, or to itself, in the message order.
-- A port's frames on their way into its line are such a kind, a line's on their way to a node, and a switch's on their way to a port.
use Rattle.std.specs.Prelude.{◌≡◌, ℕ, ◌<◌, Bool, true, List, [], ◌++◌, filter}
use Rattle.virtual_time.specs.Law.{Simulation, Laws, IsReached, IsAscending, sent, events}

module _ {M S K N : Type 0} (f : Simulation M S K N) (p r : ℕ) (is : M → Bool) where
  -- what process p has sent of the kind at its part of the first n events
  abbrev pub sent_by : ℕ → List M
  sent_by n = filter is (sent f.rules (f.opening p) (events f n p))

  -- and what process r has received
  abbrev pub received : ℕ → List M
  received n = filter is (events f n r)

  pub record IsChannel : Type 0 where
    -- each message of the kind goes to r; no process but p sends one, and none is offered
    pub to : (m : M) → is m ≡ true → f.rules.order.receiver m ≡ r
    pub by_none : (q : ℕ) → q < f.processes → (q ≡ p → ⊥) → (s : S) → IsReached f q s → (m : M) → filter is (f.rules.sends s m) ≡ []
    pub not_offered : filter is f.offers ≡ []
    -- they are sent in the message order
    pub rises : (n : ℕ) → IsAscending f.rules.order (sent_by n)

-- what is received is the beginning of what was sent
abbrev pub AreReceivedInOrder : (M S K N : Type 0) → Type 0
AreReceivedInOrder M S K N =
    (f : Simulation M S K N) → Laws f → (p r : ℕ) (is : M → Bool) → IsChannel f p r is →
    (n : ℕ) → (rest : List M) × (sent_by f p r is n ≡ received f p r is n ++ rest)
