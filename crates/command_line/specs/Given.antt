-- What clap has read: the command is one of the program's, it has the words that it requires, and each number is within its limits.
use Rattle.std.specs.Prelude.{◌≡◌, ◌⊎◌, ℕ, true, List, Option, IfSome, codes, is_some}
use Rattle.clap.specs.Words.{IsUnsignedIn, Row, Text, first_of, one_of}
use Rattle.vlink.specs.declared.time.TheConstants.{LATEST_NS}

-- where there is a text, it is a number from 1 to the most
abbrev pub IsUpTo : ℕ → Option Text → Type 0
IsUpTo most word = IfSome word (IsUnsignedIn 1 most)

pub record IsGiven (name : Text) (rows : List Row) : Type 0 where
  pub known : (name ≡ codes "check") ⊎ ((name ≡ codes "seq") ⊎ ((name ≡ codes "run") ⊎ ((name ≡ codes "replay") ⊎ (name ≡ codes "bounds"))))
  pub net : is_some (first_of (codes "NET") rows) ≡ true
  pub steps : name ≡ codes "replay" → is_some (first_of (codes "STEPS") rows) ≡ true
  pub workers : IsUpTo 64 (one_of (codes "workers") rows)
  pub groups : IsUpTo 64 (one_of (codes "groups") rows)
  pub turn : IsUpTo 256 (one_of (codes "turn") rows)
  pub window : IsUpTo LATEST_NS (one_of (codes "window") rows)
