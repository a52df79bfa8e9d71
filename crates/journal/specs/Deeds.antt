-- What the entry of a journal means in the laws of virtual time.
use Rattle.std.specs.Prelude.{ℕ, ◌≤◌, Option, length, take, ⊤}
use Rattle.vlink.specs.declared.message.Message.{Message}
use Rattle.virtual_time.specs.Law.{Deed, Collected, Posted, Published, Entry}
use Rattle.antimessages.specs.Mailing.{letters_for}
use Rattle.journal.specs.declared.entry.Content.{Content}
use Rattle.journal.specs.declared.entry.Content.TheVariants.{Letters, Block, Gvt}

-- process p tells this, and its entry before that stands at this place
abbrev pub entry_by : ℕ → Option ℕ → Deed Message → Entry Message
entry_by p prior deed = record { process = p; prior = prior; deed = deed }

-- what process p did
abbrev pub deed_of : ℕ → Content → Deed Message
deed_of p (Letters count mail) = Collected (take count (letters_for p mail.value))
deed_of p (Block block) = Posted block
deed_of p Gvt = Published

-- where so many letters were taken from the mail, it had so many for process p
abbrev pub IsWithinMail : ℕ → Content → Type 0
IsWithinMail p (Letters count mail) = count ≤ length (letters_for p mail.value)
IsWithinMail p (Block block) = ⊤
IsWithinMail p Gvt = ⊤
