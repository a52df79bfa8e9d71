-- What contracts see of an Exchange and of a Held.
use Rattle.std.specs.Prelude.{ℕ, Bool, List, [], Option, None, Some, map, get_or}
use Rattle.vlink.specs.declared.message.Message.{Message}
use Rattle.virtual_time.specs.Law.{Part, opened, Act, Entry, own_in}
use Rattle.virtual_time.specs.declared.moved.Move.{Move}
use Rattle.process_exchange.specs.declared.mark.Last.{Last}
use Rattle.process_exchange.specs.declared.mark.Mark.{Mark}
use Rattle.process_exchange.specs.declared.mark.Standing.{Standing}

-- the entries of the journal, the mark of each process, whether other journals can write in its table, and how many steps it can have
pub record Ledger : Type 0 where
  pub entries : List (Entry Message)
  pub marks : List Mark
  pub shared : Bool
  pub limit : ℕ

-- a process: its number, what it has in hand, the steps that it did alone and that are not in the journal yet, what the journal tells of
-- it alone, its mark, and the moment, in ns, before which rows of its committed events may have left; none has where that is 0
pub record HeldState (S : Type 0) : Type 0 where
  pub number : ℕ
  pub part : Part Message S
  pub block : List Move
  pub own : List (Act Message)
  pub mark : Mark
  pub gone : ℕ

-- of a process that is not in the journal yet
abbrev pub blank : Mark
blank = record { place = None; seen = 0 }

-- where the last entry of a process stands
abbrev pub place_of : Option Last → Option ℕ
place_of None = None
place_of (Some last) = Some last.place

-- what the journal tells of process p, up to its last entry
abbrev pub own_of : ℕ → Option Last → List (Act Message)
own_of p None = []
own_of p (Some last) = own_in p last.journal.value.entries

-- the mark of a process that stands there
abbrev pub mark_in : Standing → Mark
mark_in s = record { place = place_of s.last; seen = s.seen }

abbrev pub marks_in : List Standing → List Mark
marks_in = map mark_in

abbrev pub unplaced : Standing
unplaced = record { last = None; seen = 0 }

-- where process p stands
abbrev pub standing_of : List Standing → ℕ → Standing
standing_of standings p = get_or standings p unplaced

-- the mark of process p
abbrev pub mark_of : List Mark → ℕ → Mark
mark_of marks p = get_or marks p blank

-- process p that has done nothing, from its opening state
abbrev pub opened_held : {S : Type 0} → (ℕ → S) → ℕ → HeldState S
opened_held opening p = record { number = p; part = opened (opening p); block = []; own = []; mark = blank; gone = 0 }
