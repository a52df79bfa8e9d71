-- The journal of a run, written, or why it is not where it should be.
use Rattle.std.proofs.Common.{◌≡◌, ℕ, Bool, true, false, List, Option, Some, None, refl, option_map, is_some}
use Rattle.virtual_time.specs.declared.step.Step.{Step}
use Rattle.network.specs.Words.{Plan}
use Rattle.journal_text.specs.Text.{steps_text}
use Rattle.worker_pool.specs.Runs.{IsJournalAsked, IsJournalOf}
use Rattle.commands.specs.declared.fault.Fault.{Fault}
use Rattle.commands.specs.Files.{LacksFile, WritesAsked}
use Rattle.commands.specs.Outside.{Outside}
use Rattle.afdxsim.specs.Workers.{IsJournalText}
use Rattle.commands.proofs.Lacking.{lacks_other}
use Rattle.commands.proofs.Leaving.{of_text}

-- the steps that were asked for are the journal of the run
asked : (plan : Plan) (steps : List Step) (is_some : Bool) → is_some ≡ true → IsJournalAsked plan is_some steps → IsJournalOf plan steps
asked plan steps true is h = h
asked plan steps false is h = absurd (let bad : false ≡ true = is in cc)

module _ {S F O E : Type 0} (outside : Outside S F O E) where
  -- the steps of a run that are asked for are its journal
  pub journal_written : {X : Type 0} (bytes : X → List ℕ) (plan : Plan) (journal : Option X) (steps : List Step) (old new : S) → IsJournalAsked plan (is_some journal) steps →
      WritesAsked outside (option_map bytes journal) (λ text. text ≡ steps_text steps) old new →
      WritesAsked outside (option_map bytes journal) (IsJournalText plan) old new
  journal_written bytes plan None steps old new is wrote = wrote
  journal_written bytes plan (Some path) steps old new is wrote =
      of_text outside (bytes path) (λ text. text ≡ steps_text steps) (IsJournalText plan) old new wrote (λ text same. (steps, is, same))

  -- the journal of a run, of its steps
  pub lacks_steps : {X : Type 0} (bytes : X → List ℕ) (journal : Option X) (plan : Plan) (steps : List Step) (path : List ℕ) (old new : S) (fault : Fault) →
      IsJournalAsked plan (is_some journal) steps → option_map bytes journal ≡ Some path →
      LacksFile outside false path (λ text. text ≡ steps_text steps) old new fault → LacksFile outside false path (IsJournalText plan) old new fault
  lacks_steps {X} bytes journal plan steps path old new fault is there met =
      lacks_other outside false path (λ text. text ≡ steps_text steps) (IsJournalText plan) old new fault
      (λ text same. (steps, asked plan steps (is_some journal) (some_there journal there) is, same)) met
    where
      some_there : (o : Option X) → option_map bytes o ≡ Some path → is_some o ≡ true
      some_there (Some x) is = refl
      some_there None is = absurd (let bad : None ≡ Some path = is in cc)
