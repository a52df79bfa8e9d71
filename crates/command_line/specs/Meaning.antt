-- What the words after the program's name mean.
use Rattle.std.specs.Prelude.{◌≡◌, ◌↔◌, ◌≤◌, ℕ, IsTrue, Bool, List, [], Option, Some, None, IfSome, option_map, codes, string_bytes}
use Rattle.std.specs.Option.{option_map_or}
use Rattle.std.specs.Str.Parse.{digits_value, without_leading_plus}
use Rattle.clap.specs.Words.{Row, Text, first_of, one_of, subcommand_of}
use Rattle.vlink.specs.declared.time.TheConstants.{LATEST_NS}
use Rattle.command_line.specs.Program.{program}
use Rattle.command_line.specs.declared.orders.Check.{Check}
use Rattle.command_line.specs.declared.orders.Seq.{Seq}
use Rattle.command_line.specs.declared.orders.Run.{Run}
use Rattle.command_line.specs.declared.orders.Replay.{Replay}
use Rattle.command_line.specs.declared.orders.Bounds.{Bounds}
use Rattle.command_line.specs.declared.orders.Order.{Order}
use Rattle.command_line.specs.declared.orders.Order.TheVariants as order

-- the command that the words name
abbrev pub command_in : List Text → Option Text
command_in words = option_map (λ p. p.0) (subcommand_of program words)

-- what the words name for that command's arguments
abbrev pub rows_in : List Text → List Row
rows_in words = option_map_or (λ p. p.1) (subcommand_of program words) []

-- the word of an order's command
abbrev pub command_of : Order → Text
command_of (order.Check o) = codes "check"
command_of (order.Seq o) = codes "seq"
command_of (order.Run o) = codes "run"
command_of (order.Replay o) = codes "replay"
command_of (order.Bounds o) = codes "bounds"

-- the number that these digits tell
abbrev pub number_in : Text → ℕ
number_in digits = digits_value 10 (without_leading_plus digits)

-- the number is that of the digits, where there are some
abbrev pub IsNumberOf : Option Text → ℕ → Type 0
IsNumberOf word n = IfSome word (λ digits. n ≡ number_in digits)

-- the flag with this id is set where the words name it
abbrev pub IsNamed : List Row → Text → Bool → Type 0
IsNamed rows id is_set = IsTrue is_set ↔ (first_of id rows ≡ Some (codes "true"))

pub record NamesCheck (rows : List Row) (o : Check) : Type 0 where
  pub net : first_of (codes "NET") rows ≡ Some (string_bytes o.net)

pub record NamesSeq (rows : List Row) (o : Seq) : Type 0 where
  pub net : first_of (codes "NET") rows ≡ Some (string_bytes o.net)
  pub trace : first_of (codes "trace") rows ≡ option_map string_bytes o.trace
  pub progress : IsNamed rows (codes "progress") o.progress

pub record NamesRun (rows : List Row) (o : Run) : Type 0 where
  pub net : first_of (codes "NET") rows ≡ Some (string_bytes o.net)
  pub workers : IsNumberOf (one_of (codes "workers") rows) o.workers
  pub groups : o.groups ≡ option_map number_in (one_of (codes "groups") rows)
  pub turn : IsNumberOf (one_of (codes "turn") rows) o.turn
  pub window : IsNumberOf (one_of (codes "window") rows) o.window_ns
  pub journal : first_of (codes "journal") rows ≡ option_map string_bytes o.journal
  pub trace : first_of (codes "trace") rows ≡ option_map string_bytes o.trace
  pub progress : IsNamed rows (codes "progress") o.progress

pub record NamesReplay (rows : List Row) (o : Replay) : Type 0 where
  pub net : first_of (codes "NET") rows ≡ Some (string_bytes o.net)
  pub steps : first_of (codes "STEPS") rows ≡ Some (string_bytes o.steps)

pub record NamesBounds (rows : List Row) (o : Bounds) : Type 0 where
  pub net : first_of (codes "NET") rows ≡ Some (string_bytes o.net)
  pub contract : IsNamed rows (codes "contract") o.contract

-- each value of the order is the one that the words name for it
abbrev pub Names : List Row → Order → Type 0
Names rows (order.Check o) = NamesCheck rows o
Names rows (order.Seq o) = NamesSeq rows o
Names rows (order.Run o) = NamesRun rows o
Names rows (order.Replay o) = NamesReplay rows o
Names rows (order.Bounds o) = NamesBounds rows o

pub record RunDefaults (rows : List Row) (o : Run) : Type 0 where
  pub workers : one_of (codes "workers") rows ≡ None → o.workers ≡ 4
  pub turn : one_of (codes "turn") rows ≡ None → o.turn ≡ 16
  pub window : one_of (codes "window") rows ≡ None → o.window_ns ≡ 1000000

-- each number of the order that the words do not name is the usual one
abbrev pub HasDefaults : List Row → Order → Type 0
HasDefaults rows (order.Run o) = RunDefaults rows o
HasDefaults rows o = Unit {0}

pub record RunLimits (o : Run) : Type 0 where
  pub workers : (1 ≤ o.workers) × (o.workers ≤ 64)
  pub groups : IfSome o.groups (λ n. (1 ≤ n) × (n ≤ 64))
  pub turn : (1 ≤ o.turn) × (o.turn ≤ 256)
  pub window : (1 ≤ o.window_ns) × (o.window_ns ≤ LATEST_NS)

-- each number of the order lies within its limits
abbrev pub IsWithinLimits : Order → Type 0
IsWithinLimits (order.Run o) = RunLimits o
IsWithinLimits o = Unit {0}
