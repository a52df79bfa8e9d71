-- Rows in the order of their messages.
use Rattle.std.specs.Prelude.{◌≡◌, List, All, filter, IsSortedByKey}
use Rattle.std.specs.Ordering.{is_eq}
use Rattle.vlink.specs.declared.message.Message.{Message}
use Rattle.vlink.specs.Order.{message_cmp}
use Rattle.vlink.specs.Letters.{Row}

-- no row's message comes before that of the row before it
abbrev pub AreInMessageOrder : List Row → Type 0
AreInMessageOrder rows = IsSortedByKey (λ row. row.message) message_cmp rows

-- the rows of one event, that of this message, in their order
abbrev pub rows_of_event : Message → List Row → List Row
rows_of_event m rows = filter (λ row. is_eq (message_cmp m row.message)) rows

-- each row is of the process that received its message
abbrev pub AreAtReceivers : List Row → Type 0
AreAtReceivers rows = All (λ row. row.place ≡ row.message.receiver) rows

-- the same rows in message order, those of one event in their order
pub record IsInOrder (rows sorted : List Row) : Type 0 where
  pub ascending : AreInMessageOrder sorted
  pub each_event : (m : Message) → rows_of_event m sorted ≡ rows_of_event m rows
