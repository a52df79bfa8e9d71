-- A group at the start.
use Rattle.std.specs.Prelude.{◌≡◌, ℕ, ◌<◌, true, false, List, [], length, slice_get, Option, Some, None}
use Rattle.reverse.specs.Setting.{Setting}
use Rattle.group_hand.specs.Hands.{HasDoneNothing}
use Rattle.group_exchange.specs.Views.{GroupState, is_of}

-- these are the processes of a group in their opening states, at their places, and none at all others
pub record AreMembersOf {S : Type 0} (x : Setting S) (owners : List ℕ) (g : ℕ) (members : List (Option S)) : Type 0 where
  pub count : length members ≡ x.processes
  pub ours : (p : ℕ) → p < x.processes → is_of owners g p ≡ true → slice_get members p ≡ Some (Some (x.opening p))
  pub others : (p : ℕ) → p < x.processes → is_of owners g p ≡ false → slice_get members p ≡ Some None

-- a group that has done nothing, and for which the journal has told nothing
pub record HasOpened {S K : Type 0} (x : Setting S) (owners : List ℕ) (g : ℕ) (k : GroupState S K) : Type 0 where
  pub number : k.number ≡ g
  pub members : AreMembersOf x owners g k.held.members
  pub nothing : HasDoneNothing k.held
  pub words : k.held.flow.words ≡ []
  pub last : k.last ≡ []
  pub seen : k.seen ≡ 0
  pub gone : k.gone ≡ 0
