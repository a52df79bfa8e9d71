-- The result of an order. A new command is a case of `DoneOn` and of `IsFaultOn`, and of the files that it names.
use Rattle.std.specs.Prelude.{◌≡◌, ◌≢◌, ◌⊎◌, ℕ, Bool, true, false, List, option_map, string_bytes}
use Rattle.command_line.specs.declared.orders.Order.{Order}
use Rattle.command_line.specs.declared.orders.Order.TheVariants as ordered
use Rattle.network.specs.Words.{Plan}
use Rattle.commands.specs.declared.fault.Fault.{Fault}
use Rattle.commands.specs.declared.fault.Fault.TheVariants.{CannotWrite}
use Rattle.commands.specs.Bounding.{ShowsBounds, senders_of}
use Rattle.commands.specs.Checking.{check_text}
use Rattle.commands.specs.Files.{LacksOutput, LacksSeq, LeavesSeq, ShowsAlone, TellsAlone}
use Rattle.commands.specs.Naming.{NamesApart, NamesTwice, TellsTwice, net_of}
use Rattle.commands.specs.Outside.{Outside}
use Rattle.commands.specs.Progress.{IsProgressLine}
use Rattle.commands.specs.Reading.{GivesNetwork, IsFaultOfNet}
use Rattle.commands.specs.Replaying.{LacksReplay, ShowsReplay}
use Rattle.commands.specs.Streams.{IsHeard, IsQuiet, IsTold, Shows, ShowsTables, heard_host}
use Rattle.commands.specs.Telling.{TellsOne}
use Rattle.afdxsim.specs.Files.{LacksRun, LeavesRun}
use Rattle.afdxsim.specs.Workers.{IsRunLine}

-- whether the order asks for progress
abbrev pub asks_progress : Order → Bool
asks_progress (ordered.Check o) = false
asks_progress (ordered.Seq o) = o.progress
asks_progress (ordered.Run o) = o.progress
asks_progress (ordered.Replay o) = false
asks_progress (ordered.Bounds o) = false

-- a line of progress of the order on this network
abbrev pub IsLineOf : Order → Plan → List ℕ → Type 0
IsLineOf (ordered.Check o) plan = IsProgressLine plan.until
IsLineOf (ordered.Seq o) plan = IsProgressLine plan.until
IsLineOf (ordered.Run o) plan = IsRunLine o plan
IsLineOf (ordered.Replay o) plan = IsProgressLine plan.until
IsLineOf (ordered.Bounds o) plan = IsProgressLine plan.until

-- the host was `old` before, and is `new` after
module _ {S F O E : Type 0} (outside : Outside S F O E) (old new : S) where
  -- the order was done on this network: this was shown, and this is left behind
  abbrev pub DoneOn : Plan → Order → Type 0
  DoneOn plan (ordered.Check o) = Shows outside old new (check_text plan) × ShowsAlone outside old new × IsQuiet outside old new
  DoneOn plan (ordered.Seq o) =
      ShowsTables outside old new plan × LeavesSeq outside (option_map string_bytes o.trace) (heard_host outside old o.progress (outside.errors new)) new plan ×
      IsHeard outside old o.progress (IsProgressLine plan.until) (outside.errors new)
  DoneOn plan (ordered.Run o) =
      ShowsTables outside old new plan ×
      LeavesRun outside (option_map string_bytes o.journal) (option_map string_bytes o.trace) (heard_host outside old o.progress (outside.errors new)) new plan ×
      IsHeard outside old o.progress (IsRunLine o plan) (outside.errors new)
  DoneOn plan (ordered.Replay o) = ShowsReplay outside old new plan (string_bytes o.steps)
  DoneOn plan (ordered.Bounds o) = ShowsBounds outside old new (senders_of o) plan × ShowsAlone outside old new × IsQuiet outside old new

  -- why the order was not done on this network, and what is left: the host is `new` once the fault was met
  abbrev pub IsFaultOn : Plan → Order → Fault → Type 0
  IsFaultOn plan (ordered.Check o) fault = LacksOutput outside false old new fault
  IsFaultOn plan (ordered.Seq o) fault =
      LacksSeq outside (option_map string_bytes o.trace) (heard_host outside old o.progress (outside.errors new)) new plan fault
  IsFaultOn plan (ordered.Run o) fault =
      LacksRun outside (option_map string_bytes o.journal) (option_map string_bytes o.trace) o.workers
      (heard_host outside old o.progress (outside.errors new)) new plan fault
  IsFaultOn plan (ordered.Replay o) fault = LacksReplay outside old new plan (string_bytes o.steps) fault
  IsFaultOn plan (ordered.Bounds o) fault = LacksOutput outside true old new fault

  -- a read of NET may give a text that describes a network, and the order was done on that
  abbrev pub Done : Order → Type 0
  Done order = (plan : Plan) × GivesNetwork (outside.gives old (net_of order)) plan × DoneOn plan order

  -- why the order was not done, and what is left: NET gave no network; or it was not done on the one that it gave
  abbrev pub IsFaultOf : Order → Fault → Type 0
  IsFaultOf order fault =
      IsFaultOfNet outside (net_of order) old new fault
      ⊎ ((plan : Plan) × GivesNetwork (outside.gives old (net_of order)) plan × IsFaultOn plan order fault ×
      IsHeard outside old (asks_progress order) (IsLineOf order plan) (outside.errors new))

-- the host was `old` before, and is `new` at the end
module _ {S F O E : Type 0} (outside : Outside S F O E) (old new : S) where
  -- the order has ended: it was done; or a fault was met, where the host was `met`, and then nothing happened but that it was told behind what
  -- error output took before; and standard output took nothing, unless it is what failed
  abbrev pub HasEnded : Order → ℕ → Type 0
  HasEnded order status =
      ((status ≡ 0) × Done outside old new order)
      ⊎ ((fault : Fault) × (met : S) × IsFaultOf outside old met order fault × TellsAlone outside met new ×
      TellsOne fault (IsTold outside met new status) × (fault ≢ CannotWrite → outside.output new ≡ outside.output old))

  -- what comes of the order: it names a file twice, which is told, and nothing else happened; or it does not, and it has ended
  abbrev pub Ends : Order → ℕ → Type 0
  Ends order status =
      ((path : List ℕ) × NamesTwice (outside.tells old) order path × TellsTwice path (IsTold outside old new status) × TellsAlone outside old new)
      ⊎ (NamesApart (outside.tells old) order × HasEnded order status)
