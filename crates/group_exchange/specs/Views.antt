-- What contracts see of an exchange of groups and of a group, and the worlds that they represent.
use Rattle.std.specs.Prelude.{◌≡◌, ℕ, List, [], ◌∷◌, map, length, get_or}
use Rattle.vlink.specs.declared.message.Message.{Message}
use Rattle.vlink.specs.declared.note.Note.{Note}
use Rattle.vlink.specs.Letters.{Letter}
use Rattle.virtual_time.specs.Law.{Order, Simulation, World, start, run, done_by, in_hand}
use Rattle.virtual_time.specs.declared.step.Step.{Step}
use Rattle.group_queues.specs.Block.{steps_told}
use Rattle.group_hand.specs.Hands.{Held, with_letter}
pub use Rattle.group_boxes.specs.Boxing.{Boxes, HasRoom, box_of, for_group, is_number, is_of}
use Rattle.group_exchange.specs.declared.mark.Mark.{Mark}
use Rattle.group_exchange.specs.declared.mark.Standing.{Standing}

-- the steps of the journal, the mark of each group, and how many steps the journal can have
pub record Ledger : Type 0 where
  pub steps : List Step
  pub marks : List Mark
  pub limit : ℕ

-- a group: its number, what it has in hand, the steps that the journal had when it last collected or posted a block, the GVT that it saw, and the
-- moment, in ns, before which rows of its committed events may have left; none has where that is 0
pub record GroupState (S K : Type 0) : Type 0 where
  pub number : ℕ
  pub held : Held S K
  pub last : List Step
  pub seen : ℕ
  pub gone : ℕ

-- of a group that the journal does not tell of yet
abbrev pub blank : Mark
blank = record { steps = 0; seen = 0 }

-- a group that stands there has this mark
abbrev pub mark_in : Standing → Mark
mark_in s = record { steps = s.steps; seen = s.seen }

abbrev pub marks_in : List Standing → List Mark
marks_in = map mark_in

-- the steps that the journal had when a group that stands there last collected or posted
abbrev pub last_in : Standing → List Step
last_in s = s.last.value.steps

-- nothing was done or seen
abbrev pub IsUnplaced : Standing → Type 0
IsUnplaced s = (last_in s ≡ []) × (s.steps ≡ 0) × (s.seen ≡ 0)

-- the mark of group g
abbrev pub mark_of : List Mark → ℕ → Mark
mark_of marks g = get_or marks g blank

-- the mark of a group in hand
abbrev pub mark_at : {S K : Type 0} → GroupState S K → Mark
mark_at g = record { steps = length g.last; seen = g.seen }

-- these letters were taken from the mail of the run, one after another
abbrev pub with_letters : {S : Type 0} → Order Message → List Letter → World Message S → World Message S
with_letters o [] v = v
with_letters o (l ∷ ls) v = with_letters o ls (with_letter o l v)

-- the steps that a group did since its last post
abbrev pub block_of : {S K : Type 0} → GroupState S K → List Step
block_of g = steps_told g.held.flow.words

module _ {S K : Type 0} (f : Simulation Message S K Note) where
  -- the world that these steps reach
  abbrev pub world_after : List Step → World Message S
  world_after steps = run f steps (start f)

  -- the small world in which a group begins its block: that of the journal then, with the GVT that it saw
  abbrev pub before_block : GroupState S K → World Message S
  before_block g = in_hand f g.seen (world_after g.last)

  -- what a group has in hand: that small world, and then its block
  abbrev pub in_group : GroupState S K → World Message S
  in_group g = done_by f (block_of g) (before_block g)
