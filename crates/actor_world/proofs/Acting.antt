-- The steps of one process alone: Arrive, Run and Commit.
use Rattle.std.proofs.Common.{◌≡◌, ℕ, ◌+◌, ◌<◌, ◌&&◌, Bool, true, false, List, [], ◌∷◌, slice_get, Option, Some, Result, Ok, Err, refl, sym, ap, ◌∙◌, subst, ◌↔◌, IsSome, option_map, set, lt-ltb}
use Rattle.vlink.specs.declared.message.Message.{Message}
use Rattle.vlink.specs.declared.note.Note.{Note}
use Rattle.vlink.specs.Numbering.{greatest_number}
use Rattle.virtual_time.specs.Law.{Rules, Part, acted, Moves, can_move, can_commit, is_early, step_by, Simulation, World, start, run, is_enabled, effect, with_part}
use Rattle.virtual_time.specs.declared.moved.Move.{Move}
use Rattle.virtual_time.specs.declared.moved.Move.TheVariants.{Arrived, Ran, Committed}
use Rattle.reverse.specs.Setting.{Setting, simulation_of}
use Rattle.fossil.specs.Committed.{is_moment_before}
use Rattle.process_queues.specs.declared.fault.ProcFault.{ProcFault}
use Rattle.process_queues.specs.declared.fault.ProcFault.TheVariants as process
use Rattle.process_queues.specs.Queues.{Queues, StandsFor, Does, next_in}
use Rattle.process_queues.proofs.Counting.{OfMessages}
use Rattle.process_queues.proofs.Next.{next-stands}
use Rattle.actor_world.specs.declared.done.Done.{Done}
use Rattle.actor_world.specs.declared.done.Done.TheVariants.{Did, NotEnabled}
use Rattle.actor_world.specs.declared.fault.StepFault.{StepFault}
use Rattle.actor_world.specs.Faults.{fault_of}
use Rattle.actor_world.specs.Worlds.{Holdings, StandsForWorld, AtEachWorld}
use Rattle.actor_world.specs.Stepping.{IsStepped}
use Rattle.actor_world.proofs.Holding.{process-within, with_part-stands, HasNumbers, when-did, when-not_enabled, when-no_memory, when-exhausted, the_same-when}
use Rattle.reverse.specs.declared.sends.TheConstants.{MOST_SENT}

-- whether the oldest done event can be committed, by its moment and its counts
pub can-commit : {S K : Type 0} (f : Simulation Message S K Note) (g : ℕ) (part : Part Message S) {first : Option ℕ} {early seals : Bool} →
    first ≡ option_map f.rules.order.time (slice_get part.done 0) → early ≡ is_moment_before g first → can_commit f.rules.order part part.done ≡ seals → can_move f g Committed part ≡ (early && seals)
can-commit f g part {early = early} e told sealed = λ i. go part.done (told ∙ ap (is_moment_before g) e) i && sealed i
  where
    go : (ms : List Message) → early ≡ is_moment_before g (option_map f.rules.order.time (slice_get ms 0)) → is_early f g ms ≡ early
    go [] d = sym d
    go (m ∷ ms) d = sym d

module _ {S K : Type 0} (f : Simulation Message S K Note) (is_value : S → Message → Type 0) (w : World Message S) (old : Holdings S K) (h : StandsForWorld f is_value w old)
    (p : ℕ) (q : Queues S K) (here : slice_get old.processes p ≡ Some q) where
  -- a step of a process alone is enabled where the process can do it
  enabled-is : (m : Move) → is_enabled f (step_by p m) w ≡ can_move f old.gvt m (w.parts p)
  unfolding is_enabled
  enabled-is Arrived = rw (lt-ltb p f.processes (process-within f is_value w old h p q here)) refl
  enabled-is Ran = rw (lt-ltb p f.processes (process-within f is_value w old h p q here)) refl
  enabled-is Committed = rw (lt-ltb p f.processes (process-within f is_value w old h p q here), h.gvt) refl

  effect-is : (m : Move) → effect f (step_by p m) w ≡ with_part f p (acted f.rules (f.opening p) (Moves m) (w.parts p)) w
  unfolding effect
  effect-is Arrived = refl
  effect-is Ran = refl
  effect-is Committed = refl

  -- what it does leaves the other processes, the mail and the floors
  moved : (m : Move) (q' : Queues S K) → Does f.rules is_value (λ opening. acted f.rules opening (Moves m)) q q' → q'.left ≡ q.left → (ps : List (Queues S K)) → ps ≡ set old.processes p q' →
      StandsForWorld f is_value (effect f (step_by p m) w) (record { processes = ps; mail = old.mail; floors = old.floors; gvt = old.gvt; until = old.until })
  moved m q' does kept ps e =
      subst (λ z. StandsForWorld f is_value z (record { processes = ps; mail = old.mail; floors = old.floors; gvt = old.gvt; until = old.until })) (sym (effect-is m))
      (with_part-stands f is_value w old h p (process-within f is_value w old h p q here) _ q' (does (f.opening p) (w.parts p) (h.parts p q here)) (kept ∙ h.whole p q here) ps e)

module _ {S K : Type 0} (r : Rules Message S K Note) (number end : S → ℕ) (is_placed : S → Type 0) (is_value : S → Message → Type 0)
    (old : Holdings S K) (p : ℕ) (q : Queues S K) (here : slice_get old.processes p ≡ Some q) where
  -- by what it has in hand the process has a next message, and too few numbers
  abbrev IsExhaustedIn : Type 0
  IsExhaustedIn = IsSome (next_in q) × (greatest_number < r.counter q.past.state + MOST_SENT)

  -- the process has numbers enough where it has no next message with too few of them, by what it has in hand
  pub has-numbers : OfMessages r → (IsExhaustedIn → ⊥) → HasNumbers r number end is_placed is_value (step_by p Ran) old
  has-numbers R enough = λ x laid steps h d.
      let f = simulation_of r x in
      let w = run f steps (start f) in
      let k = h.parts p q here in
      enough (
        subst IsSome (next-stands r R is_value (f.opening p) (w.parts p) q k) d.1,
        subst (λ s. greatest_number < r.counter s + MOST_SENT) k.past.state d.2,
      )

  module _ (m : Move) where
    enabled-at : (b : _) → ((x : Setting S) (part : Part Message S) → StandsFor r is_value (x.opening p) part q → can_move (simulation_of r x) old.gvt m part ≡ b) →
        AtEachWorld r number end is_placed is_value old (λ f w. is_enabled f (step_by p m) w ≡ b)
    enabled-at b can = λ x laid steps h.
        let f = simulation_of r x in
        let w = run f steps (start f) in
        enabled-is f is_value w old h p q here m ∙ can x (w.parts p) (h.parts p q here)

    pub moved-none : ((x : Setting S) (part : Part Message S) → StandsFor r is_value (x.opening p) part q → can_move (simulation_of r x) old.gvt m part ≡ false) →
        (ps : List (Queues S K)) → ps ≡ old.processes →
        IsStepped r number end is_placed is_value (step_by p m) old (record { processes = ps; mail = old.mail; floors = old.floors; gvt = old.gvt; until = old.until }) (Ok NotEnabled)
    moved-none can ps d = when-not_enabled r number end is_placed is_value (step_by p m) old _ (enabled-at false can) (the_same-when old ps d)

    module _ (enough : HasNumbers r number end is_placed is_value (step_by p m) old)
        (can : (x : Setting S) (part : Part Message S) → StandsFor r is_value (x.opening p) part q → can_move (simulation_of r x) old.gvt m part ≡ true) where
      pub moved-did : (q' : Queues S K) → Does r is_value (λ opening. acted r opening (Moves m)) q q' → q'.left ≡ q.left → (ps : List (Queues S K)) → ps ≡ set old.processes p q' →
          IsStepped r number end is_placed is_value (step_by p m) old (record { processes = ps; mail = old.mail; floors = old.floors; gvt = old.gvt; until = old.until }) (Ok Did)
      moved-did q' does kept ps d =
          when-did r number end is_placed is_value (step_by p m) old _ enough
          (λ x laid steps h. (
            enabled-at true can x laid steps h,
            moved (simulation_of r x) is_value (run (simulation_of r x) steps (start (simulation_of r x))) old h p q here m q' does kept ps d,
          ))

      pub moved-refused : (ps : List (Queues S K)) → ps ≡ old.processes → (answer : Result Done StepFault) → answer ≡ Err (fault_of process.OutOfMemory) →
          IsStepped r number end is_placed is_value (step_by p m) old (record { processes = ps; mail = old.mail; floors = old.floors; gvt = old.gvt; until = old.until }) answer
      moved-refused ps d answer a =
          subst (IsStepped r number end is_placed is_value (step_by p m) old _) (sym a)
          (when-no_memory r number end is_placed is_value (step_by p m) old _ enough (enabled-at true can) (the_same-when old ps d))

  pub run-refused : OfMessages r → ((x : Setting S) (part : Part Message S) → StandsFor r is_value (x.opening p) part q → can_move (simulation_of r x) old.gvt Ran part ≡ true) →
      (ps : List (Queues S K)) → ps ≡ old.processes → (fault : ProcFault) → (fault ≡ process.Exhausted) ↔ IsExhaustedIn → (answer : Result Done StepFault) → answer ≡ Err (fault_of fault) →
      IsStepped r number end is_placed is_value (step_by p Ran) old (record { processes = ps; mail = old.mail; floors = old.floors; gvt = old.gvt; until = old.until }) answer
  run-refused R can ps d process.OutOfMemory lacks answer a =
      moved-refused Ran (has-numbers R (λ n. let z : process.OutOfMemory ≡ process.Exhausted = lacks.1 n in cc)) can ps d answer a
  run-refused R can ps d process.Exhausted lacks answer a =
      subst (IsStepped r number end is_placed is_value (step_by p Ran) old _) (sym a)
      (when-exhausted r number end is_placed is_value (step_by p Ran) old _
      (λ x laid steps h.
      let f = simulation_of r x in
      let w = run f steps (start f) in
      let k = h.parts p q here in (
        process-within f is_value w old h p q here,
        subst IsSome (sym (next-stands r R is_value (f.opening p) (w.parts p) q k)) (lacks.0 refl).0,
        subst (λ s. greatest_number < r.counter s + MOST_SENT) (sym k.past.state) (lacks.0 refl).1,
      ))
      (the_same-when old ps d))
