-- What an element does, as plain functions of its state and an event, and the law of undoing.
use Rattle.std.specs.Prelude.{◌≡◌, ℕ}

-- states S, events E, answers O and records K
pub record Plain (S E O K : Type 0) : Type 0 where
  -- the state after the event, the answer, and the record that is kept of it
  pub after : S → E → S
  pub out : S → E → O
  pub saves : S → E → K
  -- the state before the event, from the state after it and the record
  pub before : S → E → K → S
  -- of what sends messages, the number of the next one; 0 of what sends none
  pub counter : S → ℕ

-- the inverse law: undoing what an event made of a state, by the record that it left, gives back the state
abbrev pub IsReversible : {S E O K : Type 0} → Plain S E O K → Type 0
IsReversible {S} {E} plain = (s : S) (e : E) → plain.before (plain.after s e) e (plain.saves s e) ≡ s

-- the state now and the record came from one event at one state, values of their types
abbrev pub CameFrom : {S E O K : Type 0} → Plain S E O K → (S → E → Type 0) → S → E → K → Type 0
CameFrom {S} plain is_value now e kept = (s : S) × is_value s e × (now ≡ plain.after s e) × (kept ≡ plain.saves s e)
