-- Rows that are the same at each process as those of the one-thread run, and are put in message order, are its rows.
use Rattle.std.proofs.Common.{◌≡◌, ◌∙◌, ℕ, List, map, sym, ap, is_lt}
use Rattle.std.specs.Cmp.{IsTotalOrder}
use Rattle.vlink.specs.declared.message.Message.{Message}
use Rattle.vlink.specs.declared.note.Note.{Note}
use Rattle.vlink.specs.Order.{message_cmp}
use Rattle.vlink.specs.Letters.{Row}
use Rattle.virtual_time.specs.Law.{rowed, rows_at, Simulation, Laws, one, start, run, IsWhole}
use Rattle.virtual_time.specs.declared.step.Step.{Step}
use Rattle.trace_segments.specs.Words.{AreInMessageOrder, AreAtReceivers, rows_of_event}
use Rattle.seqsim.proofs.CommittedRows.{rows-whole}
use Rattle.network_actors.proofs.OneThreadRows.{one-here, one-ordered}

module _ {S K : Type 0} (f : Simulation Message S K Note) (L : Laws f) (O : IsTotalOrder message_cmp)
    (less_is : (a b : Message) → f.rules.order.less a b ≡ is_lt (message_cmp a b)) (receiver_is : (m : Message) → f.rules.order.receiver m ≡ m.receiver)
    (by_event : (xs ys : List Row) → AreInMessageOrder xs → AreInMessageOrder ys → ((m : Message) → rows_of_event m xs ≡ rows_of_event m ys) → xs ≡ ys)
    (events : (xs ys : List Row) → AreAtReceivers xs → ((p : ℕ) → rows_at p xs ≡ rows_at p ys) → (m : Message) → rows_of_event m xs ≡ rows_of_event m ys) where
  -- rows are in message order, and for each event they are those of rows that are the same at each process
  pub ordered-rows : (n : ℕ) (rows ordered : List Row) → AreInMessageOrder ordered → ((m : Message) → rows_of_event m ordered ≡ rows_of_event m rows) →
      ((p : ℕ) → rows_at p rows ≡ rows_at p (one f n).rows) → ordered ≡ (one f n).rows
  ordered-rows n rows ordered up same here =
      by_event ordered (one f n).rows up (one-ordered f L O less_is receiver_is n)
      (λ m. same m ∙ sym (events (one f n).rows rows (one-here f L O less_is receiver_is n) (λ p. sym (here p)) m))

  -- in a finished world so are the rows of the committed events
  pub ordered-committed : (steps : List Step) (W : IsWhole f (run f steps (start f))) (rows ordered : List Row) →
      ((p : ℕ) → rows_at p rows ≡ rowed f.rules (f.opening p) ((run f steps (start f)).parts p).committed) →
      AreInMessageOrder ordered → ((m : Message) → rows_of_event m ordered ≡ rows_of_event m rows) → ordered ≡ (one f W.event_count).rows
  ordered-committed steps W rows ordered committed up same =
      ordered-rows W.event_count rows ordered up same (λ p. committed p ∙ sym (rows-whole f L steps W W.event_count W.none_waits p))
