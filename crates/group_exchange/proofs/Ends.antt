-- What an exchange and a group show once the group stands anew.
use Rattle.std.proofs.Common.{◌≡◌, ℕ, ◌<◌, List, [], ◌∷◌, ◌++◌, set, length, refl, sym, ap, ◌∙◌, arith, append-nil}
use Rattle.vlink.specs.declared.message.Message.{Message}
use Rattle.vlink.specs.Letters.{Letter}
use Rattle.vlink.specs.declared.note.Note.{Note}
use Rattle.virtual_time.specs.Law.{Order, Simulation}
use Rattle.virtual_time.specs.declared.step.Step.{Step}
use Rattle.group_queues.specs.declared.block.Word.{Word}
use Rattle.group_queues.specs.declared.block.Word.TheVariants.{Ran, Home, Taken, Arrived, Committed}
use Rattle.group_queues.specs.Block.{steps_told}
use Rattle.group_hand.specs.Hands.{Held}
use Rattle.group_exchange.specs.declared.mark.Standing.{Standing}
use Rattle.group_exchange.specs.Views.{GroupState, Ledger, last_in, marks_in}
use Rattle.group_exchange.specs.Effects.{PostsBlock, posts, takes_of}
use Rattle.group_exchange.proofs.Marks.{marks-told}

abbrev pub shown : List Step → List Standing → ℕ → Ledger
shown steps standings limit = record { steps = steps; marks = marks_in standings; limit = limit }

pub ledger-told : (steps' all : List Step) (standings standings' : List Standing) (g : ℕ) (now : Standing) (limit : ℕ) → steps' ≡ all → standings' ≡ set standings g now → now.steps ≡ length (last_in now) →
    shown steps' standings' limit ≡ record { steps = all; marks = set (marks_in standings) g (record { steps = length (last_in now); seen = now.seen }); limit = limit }
ledger-told steps' all standings standings' g now limit a told place =
    let m = marks-told standings standings' g now told place in
    λ i. record { steps = a i; marks = m i; limit = limit }

module _ {S K : Type 0} where
  abbrev pub group_at : ℕ → Held S K → Standing → ℕ → GroupState S K
  group_at g h s gone = record { number = g; held = h; last = last_in s; seen = s.seen; gone = gone }

  pub group-told : (g : ℕ) (h new : Held S K) (s now : Standing) (gone seen : ℕ) (steps : List Step) → last_in now ≡ steps → now.seen ≡ seen →
      group_at g new now gone ≡ record (group_at g h s gone) { held = new; last = steps; seen = seen }
  group-told g h new s now gone seen steps a b = λ i. record { number = g; held = new; last = a i; seen = b i; gone = gone }

-- no letter is taken by no step
pub takes-none : (o : Order Message) (steps : List Step) (ls : List Letter) → ls ≡ [] → steps ≡ steps ++ takes_of o ls
takes-none o steps ls e = sym (ap (λ z. steps ++ takes_of o z) e ∙ append-nil steps)

-- a block of no step has no word
pub no-words : (ws : List Word) → length (steps_told ws) ≡ 0 → ws ≡ []
no-words [] e = refl
no-words (Ran p ∷ ws) e = absurd (omega arith)
no-words (Home p ∷ ws) e = absurd (omega arith)
no-words (Taken p ∷ ws) e = absurd (omega arith)
no-words (Arrived p ∷ ws) e = absurd (omega arith)
no-words (Committed p ∷ ws) e = absurd (omega arith)

module _ {S K : Type 0} (f : Simulation Message S K Note) (owners : List ℕ) where
  pub posts-some : (ws : List Word) (x : Ledger) (h : GroupState S K) (y : Ledger) (k : GroupState S K) → 0 < length (steps_told ws) → PostsBlock f owners x h y k → posts f owners ws x h y k
  posts-some [] x h y k n b = absurd (omega arith)
  posts-some (d ∷ ds) x h y k n b = b
