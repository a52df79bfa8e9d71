-- Whether a letter of a message that does not come after all done events makes that present or absent.
use Rattle.std.proofs.Common.{◌≡◌, ◌≢◌, ◌↔◌, Bool, true, false, not, List, map, pos, refl, sym, ap, ◌∙◌, IsTrue}
use Rattle.std.proofs.lemmas.Bool.{both_ways}
use Rattle.vlink.specs.declared.message.Message.{Message}
use Rattle.vlink.specs.declared.note.Note.{Note}
use Rattle.virtual_time.specs.Law.{Rules, one_if, is_plus, Part}
use Rattle.vlink.specs.Order.{message_order}
use Rattle.vlink.specs.Letters.{Letter}
use Rattle.antimessages.specs.Counting.{signed_count, change_by, is_after, newest_of}
use Rattle.antimessages.specs.declared.tally.Change.TheVariants.{Same}
use Rattle.process_queues.specs.Queues.{Queues, StandsFor, with_done}
use Rattle.process_queues.proofs.Beside.{times}
use Rattle.process_queues.proofs.Counting.{OfMessages}
use Rattle.process_queues.proofs.Stragglers.{toggles-it, keeps-it, keeps-done}

module _ {S K : Type 0} {r : Rules Message S K Note} (R : OfMessages r) {is_value : S → Message → Type 0} {opening : S} {part : Part Message S} {q : Queues S K}
    (h : StandsFor r is_value opening part q) (l : Letter) (t : List Letter) (e : q.tally ≡ with_done t q.past.done) where
  -- whether the letter makes its message present or absent, by whether that is done
  pub is-change : is_after r.order (newest_of (map (λ e. e.message) q.past.done)) l.message ≡ false → (done change : Bool) →
      (IsTrue done → times R.messages l.message q.past.done ≡ 1) → (done ≡ false → times R.messages l.message q.past.done ≡ 0) →
      (IsTrue change ↔ (done ≡ not (is_plus l.sign)) × (signed_count message_order l.message t ≡ pos 0)) →
      (IsTrue change → change_by message_order l q.tally ≢ Same) × (change ≡ false → change_by message_order l q.tally ≡ Same)
  is-change late done change some none told = (λ c. let k = told.0 c in toggles-it R h l t e (times-done done some none ∙ ap one_if k.0) k.1, λ c. go done (is_plus l.sign) refl refl c)
    where
      times-done : (d : Bool) → (IsTrue d → times R.messages l.message q.past.done ≡ 1) → (d ≡ false → times R.messages l.message q.past.done ≡ 0) →
          times R.messages l.message q.past.done ≡ one_if d
      times-done true some none = some refl
      times-done false some none = none refl

      other : done ≡ is_plus l.sign → change_by message_order l q.tally ≡ Same
      other same_bool = keeps-done R h l t e late (times-done done some none ∙ ap one_if same_bool)

      still : done ≡ not (is_plus l.sign) → change ≡ false → change_by message_order l q.tally ≡ Same
      still same_bool c = keeps-it R h l t e (times-done done some none ∙ ap one_if same_bool) (λ z. both_ways change c (told.1 (same_bool, z)))

      go : (d p : Bool) → done ≡ d → is_plus l.sign ≡ p → change ≡ false → change_by message_order l q.tally ≡ Same
      go true true d p c = other (d ∙ sym p)
      go true false d p c = still (d ∙ sym (ap not p)) c
      go false true d p c = still (d ∙ sym (ap not p)) c
      go false false d p c = other (d ∙ sym p)
