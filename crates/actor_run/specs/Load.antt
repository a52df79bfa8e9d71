-- Why the run ends: a number that each event makes smaller, whatever it sends.
use Rattle.std.specs.Prelude.{ℕ, zero, suc, ◌+◌, ◌-◌, ◌*◌, List, [], ◌∷◌}
use Rattle.vlink.specs.declared.message.Message.{Message}
use Rattle.reverse.specs.declared.sends.TheConstants.{MOST_SENT}

-- the power of one more than an event sends, with this exponent
unfoldable pub power : ℕ → ℕ
power zero = 1
power (suc k) = (MOST_SENT + 1) * power k

-- what a message at the moment t can still bring about before a limit: one event sends at most `MOST_SENT` messages, all of them later
abbrev pub weight : ℕ → ℕ → ℕ
weight limit t = power (limit - t)

-- the sum of the weights of all messages
abbrev pub load : ℕ → List Message → ℕ
load limit [] = 0
load limit (m ∷ ms) = weight limit m.time + load limit ms
