-- What contracts see of the entries of a journal.
use Rattle.std.specs.Prelude.{ℕ, Bool, false, List, min, Option, Some, None}
use Rattle.vlink.specs.declared.message.Message.{Message}
use Rattle.virtual_time.specs.Law.{Entry}

-- a table: whether other journals can write there
pub record Sharing : Type 0 where
  pub shared : Bool

-- whether there is a table, and others can write there
abbrev pub is_shared : Option Sharing → Bool
is_shared None = false
is_shared (Some table) = table.shared

-- the entries, whether they are kept to be read, whether others can write in their table, and for how many more there is room
pub record Listing : Type 0 where
  pub entries : List (Entry Message)
  pub keeps : Bool
  pub shared : Bool
  pub room : ℕ

-- room in proofs, and where entries are kept
abbrev pub room_of : ℕ → Option ℕ → ℕ
room_of told None = told
room_of told (Some kept) = min told kept
