-- A refusal of a journal that would pass its limit, as it is passed on.
use Rattle.std.proofs.Common.{◌≡◌, ◌∙◌, ◌⊎◌, ℕ, inl, inr, Result, Ok, Err, IfErr, IsErrAnd, sym, ap, subst}
use Rattle.vlink.specs.declared.message.Message.{Message}
use Rattle.vlink.specs.declared.note.Note.{Note}
use Rattle.virtual_time.specs.Law.{Simulation}
use Rattle.journal.specs.declared.fault.PoolFault.{PoolFault}
use Rattle.journal.specs.declared.fault.PoolFault.TheVariants.{Exhausted, JournalFull, OutOfMemory}
use Rattle.group_exchange.specs.Effects.{CanDoMore}

abbrev fault_in : {X : Type 0} → Result X PoolFault → PoolFault
fault_in (Ok x) = JournalFull
fault_in (Err fault) = fault

-- no other fault says so
pub not-memory : (fault : PoolFault) → fault ≡ OutOfMemory → fault ≡ JournalFull → ⊥
not-memory fault memory full = let bad : OutOfMemory ≡ JournalFull = sym memory ∙ full in cc

pub not-numbers : (fault : PoolFault) → (fault ≡ OutOfMemory) ⊎ (fault ≡ Exhausted) → fault ≡ JournalFull → ⊥
not-numbers fault (inl memory) full = not-memory fault memory full
not-numbers fault (inr numbers) full = let bad : Exhausted ≡ JournalFull = sym numbers ∙ full in cc

pub memory-alone : {X : Type 0} (r : Result X PoolFault) → IfErr r (λ fault. fault ≡ OutOfMemory) → r ≡ Err JournalFull → ⊥
memory-alone (Ok x) memory full = let bad = full in cc
memory-alone (Err fault) memory full = not-memory fault memory (ap fault_in full)

-- the fault of a call by which the journal had this limit, as it had before
pub passed : {S K X : Type 0} (f : Simulation Message S K Note) (limit before : ℕ) → limit ≡ before → (fault : PoolFault) (r : Result X PoolFault) → IsErrAnd r (λ z. z ≡ fault) →
    (fault ≡ JournalFull → CanDoMore f limit) → r ≡ Err JournalFull → CanDoMore f before
passed f limit before same fault (Ok x) was says full = absurd was
passed f limit before same fault (Err k) was says full = subst (CanDoMore f) same (says (sym was ∙ ap fault_in full))
