-- Messages in message order, however they are kept.
use Rattle.std.specs.Prelude.{List, [], ◌∷◌, if◌then◌else◌}
use Rattle.vlink.specs.declared.message.Message.{Message}
use Rattle.vlink.specs.Order.{message_order}

-- the message behind those that come before it
abbrev pub placed : Message → List Message → List Message
placed m [] = m ∷ []
placed m (x ∷ xs) = if message_order.less x m then x ∷ placed m xs else m ∷ x ∷ xs

abbrev pub ordered : List Message → List Message
ordered [] = []
ordered (x ∷ xs) = placed x (ordered xs)
