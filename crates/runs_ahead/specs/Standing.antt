-- When a state of the run with processes ahead stands for a state of the plain one-thread run, and which processes can run ahead.
use Rattle.std.specs.Prelude.{◌≡◌, ℕ, ◌+◌, ◌<◌, ◌==◌, Bool, true, false, cond, List, [], ◌∷◌, filter, Some, ⊤}
use Rattle.virtual_time.specs.Law.{IsIn, IsReached, OneThread, Simulation, events_at, least, made, one, reached, sent, times_in}
use Rattle.timers.specs.Channel.{IsChannel}
use Rattle.runs_ahead.specs.Ahead.{is_ahead, next_states, passed}

module _ {M S K N : Type 0} (f : Simulation M S K N) where
  -- the message is for process k
  abbrev pub is_to : ℕ → M → Bool
  is_to k m = f.rules.order.receiver m == k

  -- after n events of the plain run m is next, and its receiver is in the state s
  pub record IsNextAt (n : ℕ) (m : M) (s : S) : Type 0 where
    pub first : least f.rules.order (one f n).waiting ≡ Some m
    pub state : (one f n).states (f.rules.order.receiver m) ≡ s

  -- nothing waits after n events of the plain run, and t has its states and rows
  pub record IsOverAt (n : ℕ) (t : OneThread M S N) : Type 0 where
    pub plain_over : (one f n).waiting ≡ []
    pub states_same : (q : ℕ) → t.states q ≡ (one f n).states q
    pub rows_same : t.rows ≡ (one f n).rows

  module _ (ahead : ℕ → Bool) where
    -- each process that runs ahead is in a good state where it handles one of these messages
    abbrev pub AnswersGood : (S → Bool) → (ℕ → S) → List M → Type 0
    AnswersGood good g [] = ⊤
    AnswersGood good g (x ∷ xs) = (is_ahead f ahead x ≡ true → good (g (f.rules.order.receiver x)) ≡ true) × AnswersGood good (passed f ahead g x) xs

    -- the event of m, and the answers to what it sends, are in good states
    pub record IsGoodEvent (good : S → Bool) (t : OneThread M S N) (m : M) : Type 0 where
      pub first_good : good (t.states (f.rules.order.receiver m)) ≡ true
      pub answers_good : AnswersGood good (next_states f ahead t.states m) (f.rules.sends (t.states (f.rules.order.receiver m)) m)

    module _ (from : ℕ → ℕ) where
      -- each process k that runs ahead receives all its messages by a channel, from a process that does not run ahead
      pub record RunAhead : Type 0 where
        pub inside : (k : ℕ) → ahead k ≡ true → k < f.processes
        pub from_inside : (k : ℕ) → ahead k ≡ true → from k < f.processes
        pub from_behind : (k : ℕ) → ahead k ≡ true → ahead (from k) ≡ false
        pub channel : (k : ℕ) → ahead k ≡ true → IsChannel f (from k) k (is_to k)
        -- it notes nothing, and what it sends goes to processes that do not run ahead
        pub notes_nothing : (k : ℕ) → ahead k ≡ true → (s : S) → IsReached f k s → (m : M) → f.rules.notes s m ≡ []
        pub sends_behind : (k : ℕ) → ahead k ≡ true → (s : S) → IsReached f k s → (e m : M) → IsIn f.rules.order m (f.rules.sends s e) → is_ahead f ahead m ≡ false

      -- all that was sent to process k, where the plain run is in this state
      abbrev pub sent_to : OneThread M S N → ℕ → List M
      sent_to plain k = filter (is_to k) (sent f.rules (f.opening (from k)) (events_at f.rules.order (from k) plain.handled))

      -- the events at a process, where the plain run is in this state: a process that runs ahead has handled all that was sent to it
      abbrev pub events_ahead : OneThread M S N → ℕ → List M
      events_ahead plain q = cond (ahead q) (sent_to plain q) (events_at f.rules.order q plain.handled)

      -- t is this state of the plain run, but for the processes that run ahead: they have handled what waits for them in the plain run, and
      -- what they have sent waits in its place. Only how many times each message waits counts
      pub record StandsFor (plain t : OneThread M S N) : Type 0 where
        pub states_are : (q : ℕ) → t.states q ≡ reached f.rules (f.opening q) (events_ahead plain q)
        pub waits : (x : M) → is_ahead f ahead x ≡ false → times_in f.rules.order x t.waiting + times_in f.rules.order x plain.handled ≡ made f (events_ahead plain) x
        pub none_ahead : (x : M) → IsIn f.rules.order x t.waiting → is_ahead f ahead x ≡ false
        pub rows_are : t.rows ≡ plain.rows
