-- What is told of a journal, of what its steps, their counts and the tables are.
use Rattle.std.proofs.Common.{◌≡◌, ◌∙◌, ◌↔◌, ℕ, ◌<◌, ◌≤◌, ◌⊎◌, inl, inr, Bool, IsTrue, List, Result, Ok, sym, ap, subst, arith, IsErrOf}
use Rattle.std.proofs.lemmas.Bool.{cases_lt}
use Rattle.std.specs.Global.{Vec}
use Rattle.vlink.specs.Letters.{Row}
use Rattle.virtual_time.specs.declared.step.Step.{Step}
use Rattle.virtual_time.specs.Law.{start, IsFinished}
use Rattle.network.specs.Words.{Plan}
use Rattle.nodes.specs.Words.{simulation_of}
use Rattle.journal_text.specs.declared.fault.LinesFault.{LinesFault}
use Rattle.journal_text.specs.declared.fault.LinesFault.TheVariants as journal
use Rattle.journal_text.specs.Lines.{HasCause}
use Rattle.trace_tables.specs.Tables.{TableLists, tables_of}
use Rattle.timewarp.specs.declared.replaying.Replay.{Replay}
use Rattle.seqsim.specs.Committed.{after, AreCommittedRows}
use Rattle.timewarp.specs.Networks.{NetworkWorld, IsAfter}
use Rattle.timewarp.specs.Replaying.{did, not_enabled, refused}
use Rattle.timewarp.specs.Replayed.{IsReplayed}
use Rattle.commands.specs.declared.conclusion.Conclusion.{Conclusion}
use Rattle.commands.specs.declared.fault.Fault.{Fault}
use Rattle.commands.specs.declared.fault.Fault.TheVariants.{OutOfMemory, Exhausted}
use Rattle.commands.specs.Replaying.{most_lines, summary_text, fault_of_lines, IsSummary, IsJournal, AreCommittedTables, TellsOfSteps, IsExhaustedIn, IsFaultOfJournal}

-- a text that was read has at most as many lines as are allowed
pub few_lines : (n most : ℕ) (r : Result (Vec Step) LinesFault) (v : Vec Step) → r ≡ Ok v → (most < n → IsErrOf r journal.TooMany) → n ≤ most
few_lines n most r v is full = elim (cases_lt most n) [ inl i ↦ absurd (let a = full i in cc) | inr i ↦ omega arith ]

-- why a text was not read is why its journal was not done, on whatever network
pub lines_fault : (plan : Plan) (text : List ℕ) (refusal : LinesFault) (fault : Fault) → HasCause text most_lines refusal → fault ≡ fault_of_lines refusal →
    IsFaultOfJournal plan text fault
lines_fault plan text refusal fault cause is = subst (IsFaultOfJournal plan text) (sym is) (of refusal cause)
  where
    of : (refusal : LinesFault) → HasCause text most_lines refusal → IsFaultOfJournal plan text (fault_of_lines refusal)
    of journal.TooMany cause = cause
    of (journal.BadLine n) cause = cause
    of journal.OutOfMemory cause = cause

-- a replay that was counted on a network
pub replayed : (found : Replay) (plan : Plan) (steps : List Step) → found.world.plan ≡ plan → IsAfter found.world steps →
    found.did ≡ did (simulation_of plan) steps (start (simulation_of plan)) →
    found.not_enabled ≡ not_enabled (simulation_of plan) steps (start (simulation_of plan)) →
    found.refused ≡ refused (simulation_of plan) steps → IsReplayed found steps
replayed found plan steps e is a b d =
    record {
      after = is;
      did = a ∙ ap (λ (p : Plan). did (simulation_of p) steps (start (simulation_of p))) (sym e);
      not_enabled = b ∙ ap (λ (p : Plan). not_enabled (simulation_of p) steps (start (simulation_of p))) (sym e);
      refused = d ∙ ap (λ (p : Plan). refused (simulation_of p) steps) (sym e);
    }

-- the line of a replay is that of its steps
pub summary : (found : Replay) (steps : List Step) (gvt : ℕ) (is_finished : Bool) (text : List ℕ) → IsReplayed found steps →
    gvt ≡ (after found.world.plan steps).gvt →
    (IsTrue is_finished ↔ IsFinished (simulation_of found.world.plan) (after found.world.plan steps)) →
    text ≡ summary_text found.did found.not_enabled found.refused gvt is_finished → IsSummary found.world.plan steps text
summary found steps gvt is_finished text is at ends written = (
  is_finished,
  ends,
  written
      ∙ (ap (λ n. summary_text n found.not_enabled found.refused gvt is_finished) is.did
      ∙ (ap (λ n. summary_text (did (simulation_of found.world.plan) steps (start (simulation_of found.world.plan))) n found.refused gvt is_finished) is.not_enabled
      ∙ (ap (λ n. summary_text (did (simulation_of found.world.plan) steps (start (simulation_of found.world.plan))) (not_enabled (simulation_of found.world.plan) steps (start (simulation_of found.world.plan))) n gvt is_finished) is.refused
      ∙ ap (λ n. summary_text (did (simulation_of found.world.plan) steps (start (simulation_of found.world.plan))) (not_enabled (simulation_of found.world.plan) steps (start (simulation_of found.world.plan))) (refused (simulation_of found.world.plan) steps) n is_finished) at))),
)

-- the tables of some rows that are committed
pub committed : (world : NetworkWorld) (tables : TableLists) (steps : List Step) → IsAfter world steps →
    ((steps : List Step) → IsAfter world steps → (rows : List Row) → AreCommittedRows world.plan steps rows → tables ≡ tables_of world.plan rows) →
    ((steps : List Step) → IsAfter world steps → (rows : List Row) × AreCommittedRows world.plan steps rows) → AreCommittedTables world.plan steps tables
committed world tables steps is sealed rows = let some = rows steps is in (some.0, some.1, sealed steps is some.0 some.1)

-- what tells of the steps on the network that a replay was left with tells of them on the network that it began with
pub told_there : (plan other : Plan) (steps : List Step) (conclusion : Conclusion) → other ≡ plan → TellsOfSteps other steps conclusion → TellsOfSteps plan steps conclusion
told_there plan other steps conclusion e told = subst (λ (p : Plan). TellsOfSteps p steps conclusion) e told

-- what gives up a replay, as a fault of a journal
pub steps_fault : (plan : Plan) (text : List ℕ) (steps : List Step) (fault : Fault) → IsJournal text steps →
    (fault ≡ OutOfMemory) ⊎ ((fault ≡ Exhausted) × IsExhaustedIn plan steps) → IsFaultOfJournal plan text fault
steps_fault plan text steps fault is (inl e) = subst (IsFaultOfJournal plan text) (sym e) is.within
steps_fault plan text steps fault is (inr h) = subst (IsFaultOfJournal plan text) (sym h.0) (steps, is, h.1)
