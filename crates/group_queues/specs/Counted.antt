-- How the front of the tray counts, as code finds it.
use Rattle.std.specs.Prelude.{◌≡◌, ◌≢◌, ◌⊎◌, pos, ◌<ℤ◌, ◌≤ℤ◌, Bool, true, false, ◌∷◌, All, IsPermutation}
use Rattle.vlink.specs.Letters.{Letter}
use Rattle.vlink.specs.Order.{message_order}
use Rattle.virtual_time.specs.declared.letter.Sign.TheVariants.{Plus, Minus}
use Rattle.antimessages.specs.Counting.{HaveSameCounts, signed_count}
use Rattle.group_queues.specs.Flow.{Flow}
use Rattle.group_queues.specs.declared.tray.Way.{Way}
use Rattle.group_queues.specs.declared.tray.Way.TheVariants.{Beside, Joins, Leaves, Undoes}

module _ (l : Letter) (is_done : Bool) (old new : Flow) where
  -- a letter counts beside: a plus of a message that counts less beside or is done; or a minus of one that counts more beside, or that is neither in
  -- the queue nor done
  pub record CountedBeside : Type 0 where
    pub why : ((l.sign ≡ Plus) × ((signed_count message_order l.message old.extra <ℤ pos 0) ⊎ (is_done ≡ true)))
        ⊎ ((l.sign ≡ Minus) × ((pos 0 <ℤ signed_count message_order l.message old.extra)
        ⊎ ((signed_count message_order l.message old.extra ≤ℤ pos 0) × All (λ x. x ≢ l.message) old.queue × (is_done ≡ false))))
    pub queue : new.queue ≡ old.queue
    pub extra : HaveSameCounts message_order new.extra (l ∷ old.extra)

  -- its message joins the queue, has left it, or is to be undone
  pub record FoundToJoin : Type 0 where
    pub sign : l.sign ≡ Plus
    pub beside : pos 0 ≤ℤ signed_count message_order l.message old.extra
    pub not_done : is_done ≡ false
    pub queue : new.queue ≡ old.queue
    pub extra : new.extra ≡ old.extra

  pub record FoundWaiting : Type 0 where
    pub sign : l.sign ≡ Minus
    pub beside : signed_count message_order l.message old.extra ≤ℤ pos 0
    pub queue : IsPermutation old.queue (l.message ∷ new.queue)
    pub extra : new.extra ≡ old.extra

  pub record FoundDone : Type 0 where
    pub sign : l.sign ≡ Minus
    pub beside : signed_count message_order l.message old.extra ≤ℤ pos 0
    pub not_waiting : All (λ x. x ≢ l.message) old.queue
    pub was_done : is_done ≡ true
    pub queue : new.queue ≡ old.queue
    pub extra : new.extra ≡ old.extra

  -- how it counts, for what becomes of its message
  abbrev pub FrontCounts : Way → Type 0
  FrontCounts Beside = CountedBeside
  FrontCounts Joins = FoundToJoin
  FrontCounts Leaves = FoundWaiting
  FrontCounts Undoes = FoundDone
