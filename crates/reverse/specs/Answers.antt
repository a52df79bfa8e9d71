-- The answers to several events in turn.
use Rattle.std.specs.Prelude.{ℕ, ◌+◌, if◌then◌else◌, nat_le, List, [], ◌∷◌}
use Rattle.vlink.specs.Numbering.{greatest_number}
use Rattle.reverse.specs.Plain.{Plain}
use Rattle.reverse.specs.declared.sends.TheConstants.{MOST_SENT}

-- the answers of an element
abbrev pub answers_of : {S E O K : Type 0} → Plain S E O K → S → List E → List O
answers_of plain s [] = []
answers_of plain s (e ∷ es) = plain.out s e ∷ answers_of plain (plain.after s e) es

-- the answers of an actor, as long as it has numbers for all that one event can send
abbrev pub answers_within : {S E O K : Type 0} → Plain S E O K → S → List E → List O
answers_within plain s [] = []
answers_within plain s (e ∷ es) =
    if nat_le (plain.counter s + MOST_SENT) greatest_number then plain.out s e ∷ answers_within plain (plain.after s e) es else []
