-- What an exchange of groups and a group keep, between all calls.
use Rattle.std.specs.Prelude.{◌≡◌, ℕ, suc, ◌<◌, ◌≤◌, ◌⊎◌, Bool, true, List, length, slice_get, slice_index, take, Some, All}
use Rattle.vlink.specs.declared.message.Message.{Message}
use Rattle.vlink.specs.declared.note.Note.{Note}
use Rattle.virtual_time.specs.Law.{Rules, World, AreBy, AreDone, IsSafeGroup, in_hand, done_by, received_by, start}
use Rattle.virtual_time.specs.declared.step.Step.{Step}
use Rattle.reverse.specs.Setting.{Setting, simulation_of, IsLaidOut}
use Rattle.gvt.specs.Horizon.{Floors}
use Rattle.halves.specs.declared.RightHalf.{RightHalf}
use Rattle.group_queues.specs.Block.{steps_told}
use Rattle.group_queues.specs.DoneEvents.{messages_of}
use Rattle.group_hand.specs.Hands.{Held, StandsForGroup, is_ours}
use Rattle.group_exchange.specs.declared.mark.Standing.{Standing}
use Rattle.group_exchange.specs.Rows.{AreInOrder}
use Rattle.group_exchange.specs.Views.{Boxes, box_of, is_of, last_in, world_after}

-- each process has a group of so many
pub record AreGrouped (processes groups : ℕ) (owners : List ℕ) : Type 0 where
  pub each : length owners ≡ processes
  pub within : All (λ g. g < groups) owners

-- the least of the floors of these processes, or the moment after the end where there is none
pub record IsLeastFloor (ours : ℕ → Bool) (end : ℕ) (floors : ℕ → ℕ) (floor : ℕ) : Type 0 where
  pub bound : (p : ℕ) → ours p ≡ true → floor ≤ floors p
  pub reached : (floor ≡ end) ⊎ ((p : ℕ) × (ours p ≡ true) × (floors p ≡ floor))

-- both worlds have the same of these processes
pub record AreAsIn {S : Type 0} (ours : ℕ → Bool) (v w : World Message S) : Type 0 where
  pub parts : (p : ℕ) → ours p ≡ true → v.parts p ≡ w.parts p
  pub floors : (p : ℕ) → ours p ≡ true → v.floors p ≡ w.floors p

-- this half is of the mark of group g by its name, and tells this
pub record Tells (names : List ℕ) (g : ℕ) (mark : RightHalf Standing) (m : Standing) : Type 0 where
  pub name : mark.name ≡ slice_index names g
  pub value : mark.value ≡ m

-- the rows of committed events of a group: they are of its processes, in the order of their messages, and of moments before one that the group has
-- seen and before which no event is done; and those that have left are of moments before `gone`
pub record KeepsRows {S K : Type 0} (r : Rules Message S K Note) (owners : List ℕ) (g seen gone : ℕ) (h : Held S K) : Type 0 where
  pub at_receivers : All (λ row. row.place ≡ r.order.receiver row.message) h.rows.all
  pub home : All (λ row. is_of owners g row.place ≡ true) h.rows.all
  pub ordered : AreInOrder r.order h.rows.all
  pub sealed : ℕ
  pub sealed_seen : sealed ≤ seen
  pub early : All (λ row. r.order.time row.message < sealed) h.rows.all
  pub done_late : All (λ m. sealed ≤ r.order.time m) (messages_of h.done)
  pub left_within : h.rows.left ≤ length h.rows.all
  pub gone_early : All (λ row. r.order.time row.message < gone) (take h.rows.left h.rows.all)

module _ {S K : Type 0} (r : Rules Message S K Note) (number end : S → ℕ) (is_placed : S → Type 0) (x : Setting S) (owners : List ℕ) where
  -- a group stands at steps of the journal since which no step changed its processes, and saw a GVT that is not later than this one
  pub record IsMarked (steps : List Step) (gvt g : ℕ) (s : Standing) : Type 0 where
    pub same : AreAsIn (is_of owners g) (world_after (simulation_of r x) (last_in s)) (world_after (simulation_of r x) steps)
    pub place : s.steps ≡ length (last_in s)
    pub seen_low : s.seen ≤ gvt

  pub record AreMarked (groups : ℕ) (steps : List Step) (gvt : ℕ) (standings : List Standing) : Type 0 where
    pub count : length standings ≡ groups
    pub each : (g : ℕ) (s : Standing) → slice_get standings g ≡ Some s → IsMarked steps gvt g s

  -- an exchange whose journal has these steps: letters on their way, floors and GVT are those of the world after them, and each group stands there
  pub record IsRecorded (groups : ℕ) (steps : List Step) (mail : Boxes) (floors : Floors) (gvt : ℕ) (standings : List Standing) : Type 0 where
    pub laid : IsLaidOut r number end is_placed x
    pub grouped : AreGrouped x.processes groups owners
    pub owners_is : mail.owners ≡ owners
    pub boxes : length mail.boxes ≡ groups
    -- each letter lies in the box of its receiver's group, and is not after the end
    pub home : (g : ℕ) → g < groups → All (λ l. is_of owners g (r.order.receiver l.message) ≡ true) (box_of mail.boxes g)
    pub in_time : (g : ℕ) → g < groups → All (λ l. r.order.time l.message ≤ x.until) (box_of mail.boxes g)
    pub mail_is : (g p : ℕ) → is_of owners g p ≡ true → (world_after (simulation_of r x) steps).mail p ≡ received_by r.order p (box_of mail.boxes g)
    pub floor_count : length floors.floors ≡ groups
    pub until : floors.until ≡ x.until
    pub floors_is : (g floor : ℕ) → slice_get floors.floors g ≡ Some floor →
        IsLeastFloor (is_of owners g) (suc x.until) (world_after (simulation_of r x) steps).floors floor
    pub gvt_is : gvt ≡ (world_after (simulation_of r x) steps).gvt
    -- each step could be done where it stands
    pub enabled : AreDone (simulation_of r x) steps (start (simulation_of r x))
    pub marked : AreMarked groups steps gvt standings

  -- a group: its members are those of its number, and it stands for what the journal and then its block make of them, in which each step could be
  -- done with the GVT that it saw; it is safe below that
  pub record Holds (is_value : S → Message → Type 0) (groups g : ℕ) (seen : ℕ) (last : List Step) (h : Held S K) : Type 0 where
    pub laid : IsLaidOut r number end is_placed x
    pub grouped : AreGrouped x.processes groups owners
    pub number_is : g < groups
    pub ours : (p : ℕ) → is_ours h.members p ≡ is_of owners g p
    pub by : AreBy (is_of owners g) (steps_told h.flow.words)
    pub enabled : AreDone (simulation_of r x) (steps_told h.flow.words) (in_hand (simulation_of r x) seen (world_after (simulation_of r x) last))
    pub stands : StandsForGroup r is_value x
        (done_by (simulation_of r x) (steps_told h.flow.words) (in_hand (simulation_of r x) seen (world_after (simulation_of r x) last))) h
    pub safe : IsSafeGroup (simulation_of r x) (is_of owners g) seen
        (done_by (simulation_of r x) (steps_told h.flow.words) (in_hand (simulation_of r x) seen (world_after (simulation_of r x) last)))
