-- What stays true of an Exchange and a Held at all calls.
use Rattle.std.specs.Prelude.{◌≡◌, ℕ, ◌<◌, ◌≤◌, List, length, Some, slice_get, slice_index}
use Rattle.vlink.specs.declared.message.Message.{Message}
use Rattle.vlink.specs.declared.note.Note.{Note}
use Rattle.virtual_time.specs.Law.{Rules, rowed, Act, after_moves, IsSafePart, Entry, steps, own_in, last_place, reach, after_own, AreEnabled}
use Rattle.virtual_time.specs.declared.moved.Move.{Move}
use Rattle.reverse.specs.Setting.{Setting, simulation_of, IsLaidOut}
use Rattle.antimessages.specs.Letters.{Store}
use Rattle.antimessages.specs.Mailing.{letters_for}
use Rattle.gvt.specs.Horizon.{Floors}
use Rattle.process_queues.specs.Queues.{Queues, StandsFor}
use Rattle.row_times.specs.Within.{AreFirstBefore}
use Rattle.halves.specs.declared.RightHalf.{RightHalf}
use Rattle.process_exchange.specs.declared.mark.Standing.{Standing}
use Rattle.process_exchange.specs.Views.{standing_of, place_of, own_of}

-- each process has a standing, which names its last entry, tells all that it did or had done to it, and names a GVT that is not later than this one
pub record AreMarked (processes : ℕ) (es : List (Entry Message)) (gvt : ℕ) (standings : List Standing) : Type 0 where
  pub count : length standings ≡ processes
  pub place_is : (p : ℕ) → p < processes → place_of (standing_of standings p).last ≡ last_place p es
  pub told : (p : ℕ) → p < processes → own_of p (standing_of standings p).last ≡ own_in p es
  pub seen_low : (p : ℕ) → p < processes → (standing_of standings p).seen ≤ gvt

-- this half is of the mark of process p by its name, and tells this
pub record Tells (names : List ℕ) (p : ℕ) (mark : RightHalf Standing) (m : Standing) : Type 0 where
  pub name : mark.name ≡ slice_index names p
  pub value : mark.value ≡ m

module _ {S K : Type 0} (r : Rules Message S K Note) (number end : S → ℕ) (is_placed : S → Type 0) (x : Setting S) where
  -- an Exchange with these entries: mail, floors and GVT are those of the world after them, each process is what its own entries make of it, and
  -- each standing names the last of these
  pub record IsRecorded (es : List (Entry Message)) (mail : List Store) (floors : Floors) (gvt count : ℕ) (standings : List Standing) : Type 0 where
    pub laid : IsLaidOut r number end is_placed x
    pub boxes : length mail ≡ x.processes
    pub floor_count : length floors.floors ≡ x.processes
    pub until : floors.until ≡ x.until
    pub mail_is : (p : ℕ) → p < x.processes → letters_for p mail ≡ (reach (simulation_of r x) es).mail p
    pub floors_is : (p : ℕ) → p < x.processes → slice_get floors.floors p ≡ Some ((reach (simulation_of r x) es).floors p)
    pub gvt_is : gvt ≡ (reach (simulation_of r x) es).gvt
    pub count_is : count ≡ length (steps es)
    pub enough : length es ≤ count
    pub parts_is : (q : ℕ) → (reach (simulation_of r x) es).parts q ≡ after_own (simulation_of r x) q (own_in q es)
    pub marked : AreMarked x.processes es gvt standings

  -- a Held: it stands for what its last entry and then its block make of it, in which each step could be done at the GVT that it saw, it is
  -- safe below that, and the rows of committed events that left it are of moments before `gone`
  pub record Holds (is_value : S → Message → Type 0) (p seen gone : ℕ) (block : List Move) (own : List (Act Message)) (q : Queues S K) : Type 0 where
    pub laid : IsLaidOut r number end is_placed x
    pub number_is : p < x.processes
    pub stands : StandsFor r is_value (x.opening p) (after_moves r (x.opening p) block (after_own (simulation_of r x) p own)) q
    pub safe : IsSafePart (simulation_of r x) p seen (after_moves r (x.opening p) block (after_own (simulation_of r x) p own))
    pub gone_early : AreFirstBefore r gone q.left (rowed r (x.opening p) (after_moves r (x.opening p) block (after_own (simulation_of r x) p own)).committed)
    pub enabled : AreEnabled (simulation_of r x) (x.opening p) seen block (after_own (simulation_of r x) p own)
