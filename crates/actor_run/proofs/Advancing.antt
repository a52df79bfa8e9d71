-- One event of the run in which some actors run ahead, over actors, a heap of messages and rows; and its end.
use Rattle.std.proofs.Common.{◌≡◌, ℕ, suc, ◌+◌, ◌<◌, Bool, true, false, inl, inr, List, [], ◌∷◌, ◌++◌, Some, length, slice_get, All, IsPermutation, refl, sym, ap, ◌∙◌, subst, arith, set, leb-true}
use Rattle.std.specs.List.{AllByRecursion}
use Rattle.std.proofs.lemmas.Bool.{cases_lt}
use Rattle.std.proofs.lemmas.List.Elements.{All-from_recursion}
use Rattle.std.proofs.lemmas.Option.{same_Some}
use Rattle.vlink.specs.declared.message.Message.{Message}
use Rattle.vlink.specs.declared.note.Note.{Note}
use Rattle.vlink.specs.Numbering.{greatest_number}
use Rattle.vlink.specs.Letters.{Row}
use Rattle.virtual_time.specs.Law.{IsIn, IsReached, Laws, OneThread, Order, IsOrder, Simulation, least, one, rows_of, times_in, without}
use Rattle.virtual_time.proofs.Least.{IsLeast, least-some}
use Rattle.virtual_time.proofs.Lists.{in-head, times-append}
use Rattle.virtual_time.proofs.OneThread.{right}
use Rattle.reverse.specs.Setting.{AreInStates}
use Rattle.reverse.specs.declared.sends.TheConstants.{MOST_SENT}
use Rattle.two_lists.proofs.Counting.{times-permutation}
use Rattle.runs_ahead.specs.Ahead.{handle_ahead, in_place_of, is_ahead, next_states, one_ahead, passed_all}
use Rattle.runs_ahead.specs.Laws.{IsSameEvent}
use Rattle.runs_ahead.specs.Standing.{AnswersGood, IsGoodEvent, RunAhead, events_ahead}
use Rattle.runs_ahead.proofs.Answered.{answers-events, good-alike}
use Rattle.runs_ahead.proofs.Running.{ends-alike, rests, same-events, step-ahead}
use Rattle.runs_ahead.proofs.Standing.{times-taken, waits-once}
use Rattle.actor_run.specs.Running.{HasNumbersFrom, IsExhaustedAt, IsWholeRun, StandsAt}
use Rattle.actor_run.specs.RunningAhead.{HasRoomAt, StandsAhead, has_room}
use Rattle.actor_run.proofs.Counting.{least-same, none-same, taken-least}
use Rattle.actor_run.proofs.Handling.{states-put}

-- what holds of each message in a list holds of all
all-of : {M : Type 0} (o : Order M) → IsOrder o → (P : M → Type 0) (xs : List M) → ((x : M) → IsIn o x xs → P x) → AllByRecursion P xs
all-of o O P [] each = tt
all-of o O P (x ∷ xs) each = (each x (in-head o O x xs), all-of o O P xs (λ y i. each y (omega (arith, i))))

module _ {S K : Type 0} (f : Simulation Message S K Note) (ahead : ℕ → Bool) where
  pub opened : (actors : List S) (heap : List Message) → StandsAt f 0 actors heap [] → StandsAhead f ahead 0 actors heap []
  unfolding one one_ahead
  opened actors heap h = record { states = h.states; waiting = h.waiting; rows_are = refl }

  -- no actor has wanted numbers in the first n events
  abbrev pub HadRoom : ℕ → Type 0
  HadRoom n = (i : ℕ) → i < n → HasRoomAt f ahead i

  pub none-yet : HadRoom 0
  none-yet i l = absurd (omega (arith, l))

  pub one-more : (n : ℕ) → HadRoom n → HasRoomAt f ahead n → HadRoom (suc n)
  one-more n had has i l = elim (cases_lt i n) [
    | inl k ↦ had i k
    | inr k ↦ (let same : i ≡ n = omega (arith, l, k) in subst (HasRoomAt f ahead) (sym same) has)
  ]

module _ {S K : Type 0} (f : Simulation Message S K Note) (L : Laws f) (ahead : ℕ → Bool) (from : ℕ → ℕ) (R : RunAhead f ahead from) (n : ℕ) where
  -- when nothing waits, no actor of the one-thread run has wanted numbers
  pub never : HadRoom f ahead n → (one_ahead f ahead n).waiting ≡ [] → HasNumbersFrom f 0
  never had over k i z =
      let good = good-alike f L ahead from R (has_room f.rules) n over (λ j m l e. had j l m e) k z.0 ((one f k).states (f.rules.order.receiver z.0)) (record { first = z.1; state = refl }) in
      let few = leb-true _ _ good in
      let used = z.2 in
      omega arith

  module _ (actors : List S) (heap : List Message) (rows : List Row) (h : StandsAhead f ahead n actors heap rows) where
    pub over : heap ≡ [] → (one_ahead f ahead n).waiting ≡ []
    over e = none-same f.rules.order L.order heap (one_ahead f ahead n).waiting h.waiting e

    pub whole : (one_ahead f ahead n).waiting ≡ [] → IsWholeRun f rows actors
    whole e =
        let end = ends-alike f L ahead from R n e in (
          end.0,
          end.1.plain_over,
          h.rows_are ∙ end.1.rows_same,
          record { count = h.states.count; each = λ p l. h.states.each p l ∙ ap (λ s. Some s) (end.1.states_same p) },
        )

    module _ (m : Message) (rest : List Message) (taken : IsPermutation heap (m ∷ rest)) (first : All (λ x. f.rules.order.less x m ≡ false) heap) where
      is_next : least f.rules.order (one_ahead f ahead n).waiting ≡ Some m
      is_next = least-same f.rules.order L.order heap (one_ahead f ahead n).waiting h.waiting m (taken-least f.rules.order L.order m heap rest taken first)

      -- the event of the one-thread run
      event : (j : ℕ) × IsSameEvent f ahead from n m j
      event = same-events f L ahead from R n m is_next

      least-there : IsLeast f.rules.order L.order m (one f event.0).waiting
      least-there = least-some f.rules.order L.order (one f event.0).waiting m event.1.next_at.first

      pub receiver-there : f.rules.order.receiver m < f.processes
      receiver-there = (right f L event.0).waiting_here m least-there.inside

      behind : is_ahead f ahead m ≡ false
      behind = event.1.stands.none_ahead m (least-some f.rules.order L.order (one_ahead f ahead n).waiting m is_next).inside

      pub receiver-within : f.rules.order.receiver m < length actors
      receiver-within = let a = receiver-there in let b = h.states.count in omega arith

      -- the state of the receiver
      abbrev pub now : S
      now = (one_ahead f ahead n).states (f.rules.order.receiver m)

      pub receiver-is : slice_get actors (f.rules.order.receiver m) ≡ Some now
      receiver-is = h.states.each (f.rules.order.receiver m) receiver-there

      now-reached : IsReached f (f.rules.order.receiver m) now
      now-reached = (events_ahead f ahead from (one f event.0) (f.rules.order.receiver m), event.1.stands.states_are (f.rules.order.receiver m))

      -- the states when it has handled the message
      abbrev pub next : ℕ → S
      next = next_states f ahead (one_ahead f ahead n).states m

      pub states-next : (later : List S) → later ≡ set actors (f.rules.order.receiver m) (f.rules.after now m) → AreInStates f.processes next later
      states-next later e =
          subst (AreInStates f.processes next) (sym e) (states-put f.processes (one_ahead f ahead n).states actors (f.rules.order.receiver m) (f.rules.after now m) receiver-there h.states)

      -- what it sends is for actors that there are
      pub receivers : (later : List S) (sent : List Message) → length later ≡ length actors → sent ≡ f.rules.sends now m → All (λ x. f.rules.order.receiver x < length later) sent
      receivers later sent count is =
          All-from_recursion (λ x. f.rules.order.receiver x < length later) sent
          (all-of f.rules.order L.order (λ x. f.rules.order.receiver x < length later) sent (λ x i.
          let near = L.receiver_in (f.rules.order.receiver m) receiver-there now now-reached m x (subst (IsIn f.rules.order x) is i) in
          let many = h.states.count in
          omega arith))

      -- it wants numbers
      pub exhausted : greatest_number < f.rules.counter now + MOST_SENT → (k : ℕ) × IsExhaustedAt f k
      exhausted wants = (event.0, (m, event.1.next_at.first, subst (λ s. greatest_number < f.rules.counter s + MOST_SENT) (sym event.1.next_at.state) wants))

      -- or an actor that runs ahead does
      pub answer-exhausted : (before : List Message) (x : Message) (later : List Message) → f.rules.sends now m ≡ before ++ x ∷ later → is_ahead f ahead x ≡ true →
          greatest_number < f.rules.counter (passed_all f ahead next before (f.rules.order.receiver x)) + MOST_SENT → (k : ℕ) × IsExhaustedAt f k
      answer-exhausted before x later split runs wants =
          let at = answers-events f L ahead from R n m is_next before x later split runs in
          (at.0, (x, at.1.first, subst (λ s. greatest_number < f.rules.counter s + MOST_SENT) (sym at.1.state) wants))

      -- no actor does
      pub room : has_room f.rules now ≡ true → AnswersGood f ahead (has_room f.rules) next (f.rules.sends now m) → HasRoomAt f ahead n
      room own answers x e =
          let same : m ≡ x = same_Some m x (sym is_next ∙ e) in
          subst (λ y. IsGoodEvent f ahead (has_room f.rules) (one_ahead f ahead n) y) same (record { first_good = own; answers_good = answers })

      step : one_ahead f ahead (suc n) ≡ handle_ahead f ahead (one_ahead f ahead n) (Some m)
      step = step-ahead f L ahead from R n (Some m) is_next

      -- the message was handled and what it sends was passed on: that is one event
      pub advanced : (sent more : List Message) (noted : List Note) (later : List S) (rows' : List Row) → sent ≡ f.rules.sends now m → noted ≡ f.rules.notes now m →
          AreInStates f.processes (passed_all f ahead next sent) later → IsPermutation (rest ++ in_place_of f ahead next sent) more → rows' ≡ rows ++ rows_of f.rules.order m noted →
          StandsAhead f ahead (suc n) later more rows'
      advanced sent more noted later rows' s t states p e = record {
        states = subst (λ (t : OneThread Message S Note). AreInStates f.processes t.states later) (sym step) (subst (λ ms. AreInStates f.processes (passed_all f ahead next ms) later) s states);
        waiting = λ x.
            let a = times-permutation f.rules.order x (rest ++ in_place_of f ahead next sent) more p in
            let b = times-append f.rules.order L.order x rest (in_place_of f ahead next sent) in
            let c = times-append f.rules.order L.order x (without f.rules.order m (one_ahead f ahead n).waiting) (in_place_of f ahead next (f.rules.sends now m)) in
            let k = times-taken f.rules.order L.order m (one_ahead f ahead n).waiting
            (waits-once f L ahead from R (one f event.0) (right f L event.0) (rests f L ahead from R event.0) (one_ahead f ahead n) event.1.stands m least-there behind) x in
            let g = h.waiting x in
            let l = times-permutation f.rules.order x heap (m ∷ rest) taken in
            let y = ap (λ ms. times_in f.rules.order x (in_place_of f ahead next ms)) s in
            let z = ap (λ (o : OneThread Message S Note). times_in f.rules.order x o.waiting) step in
            omega arith;
        rows_are =
            e ∙ (ap (λ z. rows ++ rows_of f.rules.order m z) t
            ∙ (ap (λ z. z ++ rows_of f.rules.order m (f.rules.notes now m)) h.rows_are ∙ ap (λ (o : OneThread Message S Note). o.rows) (sym step)));
      }
