-- What one step does to the data of a world.
use Rattle.std.specs.Prelude.{◌≡◌, ◌≢◌, ◌↔◌, ℕ, true, false, Result, Ok, Err}
use Rattle.vlink.specs.declared.message.Message.{Message}
use Rattle.vlink.specs.declared.note.Note.{Note}
use Rattle.virtual_time.specs.Law.{Rules, is_enabled, effect}
use Rattle.virtual_time.specs.declared.step.Step.{Step}
use Rattle.actor_world.specs.declared.done.Done.{Done}
use Rattle.actor_world.specs.declared.done.Done.TheVariants.{Did, NotEnabled}
use Rattle.actor_world.specs.declared.fault.StepFault.{StepFault}
use Rattle.actor_world.specs.declared.fault.StepFault.TheVariants.{NoProcess, OutOfMemory, Exhausted}
use Rattle.actor_world.specs.Worlds.{Holdings, StandsForWorld, HoldsTheSame, IsExhausted, AtEachWorld}

module _ {S K : Type 0} (r : Rules Message S K Note) (number end : S → ℕ) (is_placed : S → Type 0) (is_value : S → Message → Type 0) where
  -- the step of a process that there is was answered so, and left this
  pub record IsStepped (x : Step) (old new : Holdings S K) (answer : Result Done StepFault) : Type 0 where
    -- it was done: it is enabled, and what it does was done
    pub did : answer ≡ Ok Did → AtEachWorld r number end is_placed is_value old (λ f w. (is_enabled f x w ≡ true) × StandsForWorld f is_value (effect f x w) new)
    pub not_enabled : answer ≡ Ok NotEnabled → AtEachWorld r number end is_placed is_value old (λ f w. is_enabled f x w ≡ false)
    pub unchanged : answer ≢ Ok Did → HoldsTheSame old new
    pub known : answer ≢ Err NoProcess
    pub memory : answer ≡ Err OutOfMemory → AtEachWorld r number end is_placed is_value old (λ f w. is_enabled f x w ≡ true)
    pub exhausted : AtEachWorld r number end is_placed is_value old (λ f w. (answer ≡ Err Exhausted) ↔ IsExhausted f x w)
