-- The files that an order names, and whether it names one twice.
use Rattle.std.specs.Prelude.{◌≡◌, ◌≢◌, ◌⊎◌, ℕ, Bool, true, false, List, Option, None, Some, IfSome, option_map, string_bytes}
use Rattle.command_line.specs.declared.orders.Order.{Order}
use Rattle.command_line.specs.declared.orders.Order.TheVariants as ordered
use Rattle.commands.specs.declared.fault.Fault.TheVariants.{OutOfMemory}
use Rattle.commands.specs.Outside.{nowhere}
use Rattle.commands.specs.Telling.{Telling, telling_of, telling_of_twice}

-- the path of the description
abbrev pub net_of : Order → List ℕ
net_of (ordered.Check o) = string_bytes o.net
net_of (ordered.Seq o) = string_bytes o.net
net_of (ordered.Run o) = string_bytes o.net
net_of (ordered.Replay o) = string_bytes o.net
net_of (ordered.Bounds o) = string_bytes o.net

-- the path of the file that is to get the journal, if one is
abbrev pub journal_of : Order → Option (List ℕ)
journal_of (ordered.Check o) = None
journal_of (ordered.Seq o) = None
journal_of (ordered.Run o) = option_map string_bytes o.journal
journal_of (ordered.Replay o) = None
journal_of (ordered.Bounds o) = None

-- the path of the file that is to get the trace, if one is
abbrev pub trace_of : Order → Option (List ℕ)
trace_of (ordered.Check o) = None
trace_of (ordered.Seq o) = option_map string_bytes o.trace
trace_of (ordered.Run o) = option_map string_bytes o.trace
trace_of (ordered.Replay o) = None
trace_of (ordered.Bounds o) = None

-- these paths, where both are there, differ, unless the file keeps nothing, and the host may tell that they name two files
abbrev pub AreTwo : (List ℕ → List ℕ → Bool → Type 0) → Option (List ℕ) → Option (List ℕ) → Type 0
AreTwo tells first second = IfSome first (λ a. IfSome second (λ b. (a ≢ nowhere → a ≢ b) × tells a b false))

-- both are there, the second is this one, and the host may tell that they name one file
abbrev pub AreOne : (List ℕ → List ℕ → Bool → Type 0) → Option (List ℕ) → Option (List ℕ) → List ℕ → Type 0
AreOne tells first second path = (a : List ℕ) × (first ≡ Some a) × (second ≡ Some path) × tells a path true

-- NET, the file of the journal and the file of the trace are different ones, as far as they are there
pub record AreApart (tells : List ℕ → List ℕ → Bool → Type 0) (net : List ℕ) (journal trace : Option (List ℕ)) : Type 0 where
  pub traced : AreTwo tells (Some net) trace
  pub kept : AreTwo tells (Some net) journal
  pub both : AreTwo tells trace journal

-- two of them are one, and this path names it
abbrev pub IsTwice : (List ℕ → List ℕ → Bool → Type 0) → List ℕ → Option (List ℕ) → Option (List ℕ) → List ℕ → Type 0
IsTwice tells net journal trace path =
    AreOne tells (Some net) trace path ⊎ (AreOne tells (Some net) journal path ⊎ AreOne tells trace journal path)

-- the files of an order are different ones. A file that is only read may be named twice
abbrev pub NamesApart : (List ℕ → List ℕ → Bool → Type 0) → Order → Type 0
NamesApart tells order = AreApart tells (net_of order) (journal_of order) (trace_of order)

-- two of them are one, and this path names it
abbrev pub NamesTwice : (List ℕ → List ℕ → Bool → Type 0) → Order → List ℕ → Type 0
NamesTwice tells order path = IsTwice tells (net_of order) (journal_of order) (trace_of order) path

-- the file with this path is told as named twice, or want of memory is, which its line itself may meet
abbrev pub TellsTwice : List ℕ → (Telling → Type 0) → Type 0
TellsTwice path IsTold = IsTold (telling_of_twice path) ⊎ IsTold (telling_of OutOfMemory)
