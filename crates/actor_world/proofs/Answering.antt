-- What the answer to a step says of it.
use Rattle.std.proofs.Common.{◌≡◌, ℕ, true, false, nat_lt, length, Result, Ok, Err, refl, sym, ap, ◌∙◌, subst, ◌↔◌, OnOk, IfOk, lt-ltb}
use Rattle.std.proofs.lemmas.Bool.{false≢true, not-true}
use Rattle.vlink.specs.declared.message.Message.{Message}
use Rattle.vlink.specs.declared.note.Note.{Note}
use Rattle.virtual_time.specs.Law.{Rules, Simulation, World, start, run, is_enabled, effect, step}
use Rattle.virtual_time.specs.declared.step.Step.{Step}
use Rattle.virtual_time.specs.declared.step.Step.TheVariants.{Take, Arrive, Run, Post, Gvt, Commit}
use Rattle.reverse.specs.Setting.{simulation_of}
use Rattle.antimessages.specs.Steps.{names_none}
use Rattle.actor_world.specs.declared.done.Done.{Done}
use Rattle.actor_world.specs.declared.done.Done.TheVariants.{Did, NotEnabled}
use Rattle.actor_world.specs.declared.fault.StepFault.{StepFault}
use Rattle.actor_world.specs.Worlds.{Holdings, StandsForWorld, HoldsTheSame, IsExhausted, AtEachWorld}
use Rattle.actor_world.specs.Stepping.{IsStepped}

-- what holds the same stands for the same worlds
pub stands-same : {S K : Type 0} (f : Simulation Message S K Note) (is_value : S → Message → Type 0) (w : World Message S) (old new : Holdings S K) →
    HoldsTheSame old new → StandsForWorld f is_value w old → StandsForWorld f is_value w new
stands-same f is_value w old new s h = record {
  count = rw s.processes h.count;
  parts = rw s.processes h.parts;
  whole = rw s.processes h.whole;
  boxes = s.boxes ∙ h.boxes;
  mail = λ p i. s.mail p ∙ h.mail p i;
  floor_count = rw s.floors h.floor_count;
  floors = rw s.floors h.floors;
  gvt = s.gvt ∙ h.gvt;
  until = s.until ∙ h.until;
}

pub step-did : {M S K N : Type 0} (f : Simulation M S K N) (x : Step) (w : World M S) → is_enabled f x w ≡ true → step f x w ≡ effect f x w
unfolding step
step-did f x w e = rw e refl

pub step-not : {M S K N : Type 0} (f : Simulation M S K N) (x : Step) (w : World M S) → is_enabled f x w ≡ false → step f x w ≡ w
unfolding step
step-not f x w e = rw e refl

module _ {S K : Type 0} (r : Rules Message S K Note) (number end : S → ℕ) (is_placed : S → Type 0) (is_value : S → Message → Type 0) (x : Step) (old new : Holdings S K) where
  pub answer-stands : (answer : Result Done StepFault) → IsStepped r number end is_placed is_value x old new answer →
      OnOk answer (AtEachWorld r number end is_placed is_value old (λ f w. StandsForWorld f is_value (step f x w) new))
  answer-stands (Ok Did) s = λ y laid steps h.
      let f = simulation_of r y in
      let w = run f steps (start f) in
      let a = s.did refl y laid steps h in
      subst (λ z. StandsForWorld f is_value z new) (sym (step-did f x w a.0)) a.1
  answer-stands (Ok NotEnabled) s = λ y laid steps h.
      let f = simulation_of r y in
      let w = run f steps (start f) in
      subst (λ z. StandsForWorld f is_value z new) (sym (step-not f x w (s.not_enabled refl y laid steps h))) (stands-same f is_value w old new (s.unchanged (λ e. cc)) h)
  answer-stands (Err fault) s = tt

  pub answer-enabled : (answer : Result Done StepFault) → IsStepped r number end is_placed is_value x old new answer →
      IfOk answer (λ done. AtEachWorld r number end is_placed is_value old (λ f w. (done ≡ Did) ↔ (is_enabled f x w ≡ true)))
  answer-enabled (Ok Did) s = λ y laid steps h. (λ e. (s.did refl y laid steps h).0, λ t. refl)
  answer-enabled (Ok NotEnabled) s = λ y laid steps h. (λ e. absurd cc, λ t. absurd (false≢true (sym (s.not_enabled refl y laid steps h) ∙ t)))
  answer-enabled (Err fault) s = tt

  -- of a step that is told otherwise
  pub stepped-at : (y : Step) → y ≡ x → (answer : Result Done StepFault) → IsStepped r number end is_placed is_value x old new answer →
      IsStepped r number end is_placed is_value y old new answer
  stepped-at y e answer s = subst (λ z. IsStepped r number end is_placed is_value z old new answer) (sym e) s

  -- a step of a process that there is not wants no numbers
  pub none-exhausted : names_none (length old.processes) x ≡ true → AtEachWorld r number end is_placed is_value old (λ f w. IsExhausted f x w → ⊥)
  none-exhausted none = λ y laid steps h. let f = simulation_of r y in unknown f (run f steps (start f)) h.count x none
    where
      unknown : (f : Simulation Message S K Note) (w : World Message S) → length old.processes ≡ f.processes → (z : Step) → names_none (length old.processes) z ≡ true → IsExhausted f z w → ⊥
      unknown f w count (Run p) none d = absurd (false≢true (sym (not-true (nat_lt p (length old.processes)) none) ∙ (ap (nat_lt p) count ∙ lt-ltb p f.processes d.0)))
      unknown f w count (Take p i) none d = d
      unknown f w count (Arrive p) none d = d
      unknown f w count (Post p) none d = d
      unknown f w count Gvt none d = d
      unknown f w count (Commit p) none d = d

-- a step of the world is that of the process that it names
pub ruleset answers = (stepped-at)
