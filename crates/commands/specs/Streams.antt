-- What the streams of a host took, and what was reported on them.
use Rattle.std.specs.Prelude.{◌≡◌, ℕ, Bool, true, false, List}
use Rattle.network.specs.Words.{Plan}
use Rattle.commands.specs.Ending.{Told, Took}
use Rattle.commands.specs.Outside.{Outside}
use Rattle.commands.specs.Progress.{HearsAsked}
use Rattle.commands.specs.Sequencing.{IsTablesText}
use Rattle.commands.specs.Telling.{Telling}

-- the host was `old` before
module _ {S F O E : Type 0} (outside : Outside S F O E) (old : S) where
  -- once the run of a network was over, error output was `heard`: it took lines of this kind, where progress is asked for; else it took nothing
  abbrev pub IsHeard : Bool → (List ℕ → Type 0) → E → Type 0
  IsHeard asked IsLine heard = HearsAsked outside.said outside.errors_failures asked IsLine (outside.errors old) heard

  -- the host with that error output
  abbrev pub heard_host : Bool → E → S
  heard_host false heard = old
  heard_host true heard = outside.with_errors old heard

-- the host was `old` before, and is `new` after
module _ {S F O E : Type 0} (outside : Outside S F O E) (old new : S) where
  -- standard output took this text
  abbrev pub Shows : List ℕ → Type 0
  Shows text = Took outside.showed (outside.output old) (outside.output new) text

  -- error output took this text, unless a write to it failed
  abbrev pub Says : List ℕ → Type 0
  Says text = outside.errors_failures (outside.errors new) ≡ outside.errors_failures (outside.errors old) → Took outside.said (outside.errors old) (outside.errors new) text

  -- standard output took the tables of the one-thread run of the network
  abbrev pub ShowsTables : Plan → Type 0
  ShowsTables plan = (text : List ℕ) × IsTablesText plan text × Shows text

  -- error output took nothing
  abbrev pub IsQuiet : Type 0
  IsQuiet = outside.errors new ≡ outside.errors old

  -- this is told on error output, behind what it took before, and goes with this status
  abbrev pub IsTold : ℕ → Telling → Type 0
  IsTold status telling = Told outside.said outside.errors_failures (outside.errors old) (outside.errors new) status telling
