-- A group that has posted has no block left.
use Rattle.std.proofs.Common.{◌≡◌, ◌∙◌, ℕ, List, [], ◌∷◌, refl, ap}
use Rattle.vlink.specs.declared.message.Message.{Message}
use Rattle.vlink.specs.declared.note.Note.{Note}
use Rattle.virtual_time.specs.Law.{Simulation}
use Rattle.group_queues.specs.declared.block.Word.{Word}
use Rattle.group_hand.specs.Hands.{Held}
use Rattle.group_exchange.specs.Views.{Ledger, GroupState}
use Rattle.group_exchange.specs.Effects.{Posts, posts}

module _ {S K : Type 0} (f : Simulation Message S K Note) (owners : List ℕ) (x : Ledger) (h : GroupState S K) (y : Ledger) (k : GroupState S K) where
  with-words : (words : List Word) → h.held.flow.words ≡ words → posts f owners words x h y k → k.held.flow.words ≡ []
  with-words [] none P = ap (λ (g : GroupState S K). g.held.flow.words) P.1 ∙ none
  with-words (d ∷ ds) some P = ap (λ (held : Held S K). held.flow.words) P.held

  pub emptied : Posts f owners x h y k → k.held.flow.words ≡ []
  emptied P = with-words h.held.flow.words refl P
