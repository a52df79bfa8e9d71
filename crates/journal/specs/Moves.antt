-- The steps of a block.
use Rattle.std.specs.Prelude.{List, ◌++◌, replicate}
use Rattle.virtual_time.specs.declared.moved.Move.{Move}
use Rattle.virtual_time.specs.declared.moved.Move.TheVariants.{Arrived, Ran, Committed}
use Rattle.journal.specs.declared.turn.Turn.{Turn}
use Rattle.journal.specs.declared.block.Longer.{Longer}
use Rattle.journal.specs.declared.block.MoveList.{MoveList}
use Rattle.journal.specs.declared.block.MoveList.TheVariants.{OneTurn, Listed}

-- arrivals, then runs, then commits
abbrev pub turn_moves : Turn → List Move
turn_moves t = replicate t.arrivals Arrived ++ replicate t.runs Ran ++ replicate t.commits Committed

-- a turn and what is behind it
abbrev pub longer : Longer → List Move
longer l = turn_moves l.turn ++ l.rest.items

abbrev pub moves_of : MoveList → List Move
moves_of (OneTurn t) = turn_moves t
moves_of (Listed b) = longer b.value
