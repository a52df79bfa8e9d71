-- One process, which runs ahead and rolls back: what it has in hand, and each thing that it does alone.
use Rattle.std.specs.Prelude.{ℕ, suc, ◌+◌, ◌==◌, Bool, false, not, ◌&&◌, cond, if◌then◌else◌, List, [], ◌∷◌, ◌++◌, map, filter, reverse, length, Option, Some, None}
use Rattle.virtual_time.specs.Rules.{Order, Rules, reached, sent, undone}
use Rattle.virtual_time.specs.Lists.{times_in, least, before, from_on}
use Rattle.virtual_time.specs.Letters.{plus_of, minus_of, lowest, pluses, minuses, is_present, times_of}
use Rattle.virtual_time.specs.declared.letter.Letter.{Letter}

-- the committed events and then the done ones, each oldest first, and the state after them all
pub record Part (M S : Type 0) : Type 0 where
  pub committed : List M
  pub done : List M
  pub state : S
  -- the letters that have arrived: only the signed count of each message matters
  pub tally : List (Letter M)
  -- the letters that were taken from the mail and have not arrived, the first at the front
  pub tray : List (Letter M)
  -- the letters to be posted, in the order in which they were made
  pub outbox : List (Letter M)

-- the process that has done nothing
abbrev pub opened : {M S : Type 0} → S → Part M S
opened s = record { committed = []; done = []; state = s; tally = []; tray = []; outbox = [] }

-- a letter comes to the back of the tray
abbrev pub delivered : {M S : Type 0} → Letter M → Part M S → Part M S
delivered l part =
    record {
      committed = part.committed;
      done = part.done;
      state = part.state;
      tally = part.tally;
      tray = part.tray ++ l ∷ [];
      outbox = part.outbox;
    }

-- the outbox was posted
abbrev pub emptied : {M S : Type 0} → Part M S → Part M S
emptied part =
    record {
      committed = part.committed;
      done = part.done;
      state = part.state;
      tally = part.tally;
      tray = part.tray;
      outbox = [];
    }

module _ {M : Type 0} (o : Order M) where
  -- the present messages that are not done
  unfoldable pub unhandled : List (Letter M) → List M → List M
  unhandled tally done = filter (λ m. is_present o tally m && (times_in o m done == 0)) (map (λ l. l.message) tally)

  -- the least time of the letters in the tray and of the unhandled messages, or the moment after the end
  abbrev pub floor_of : {S : Type 0} → ℕ → Part M S → ℕ
  floor_of until part = lowest (lowest (suc until) (map o.time (unhandled part.tally part.done))) (times_of o part.tray)

  -- by this letter its message becomes present or absent
  abbrev pub is_toggled : Letter M → List (Letter M) → Bool
  is_toggled l tally = cond (is_present o tally l.message) (not (is_present o (l ∷ tally) l.message)) (is_present o (l ∷ tally) l.message)

  -- how many events the first of these letters undoes
  abbrev pub undone_by : {S : Type 0} → Part M S → List (Letter M) → ℕ
  undone_by part [] = 0
  undone_by part (l ∷ rest) = if is_toggled l part.tally then length (from_on o l.message part.done) else 0

  -- the message that is handled next: the first unhandled one
  abbrev pub next_of : {S : Type 0} → Part M S → Option M
  next_of part = least o (unhandled part.tally part.done)

  -- of these done events the oldest can be committed: its signed count is just 1
  abbrev pub can_commit : {S : Type 0} → Part M S → List M → Bool
  can_commit part [] = false
  can_commit part (m ∷ rest) = pluses o m part.tally == minuses o m part.tally + 1

module _ {M S K N : Type 0} (r : Rules M S K N) where
  -- rollback: every done event that does not come before m is undone, the newest first, and the messages
  -- that they sent go to the outbox as antimessages, the last sent first
  abbrev pub rolled_back : S → M → Part M S → Part M S
  rolled_back opening m part =
      let base = reached r opening (part.committed ++ before r.order m part.done) in
      record {
        committed = part.committed;
        done = before r.order m part.done;
        state = undone r base (from_on r.order m part.done) part.state;
        tally = part.tally;
        tray = part.tray;
        outbox = part.outbox ++ map minus_of (reverse (sent r base (from_on r.order m part.done)));
      }

  -- the letter enters the tally, and rest is left in the tray
  abbrev pub tallied : Letter M → List (Letter M) → Part M S → Part M S
  tallied l rest part =
      record {
        committed = part.committed;
        done = part.done;
        state = part.state;
        tally = l ∷ part.tally;
        tray = rest;
        outbox = part.outbox;
      }

  -- the first of these letters arrives: where that toggles its message, the process rolls back to it
  abbrev pub arrived : S → Part M S → List (Letter M) → Part M S
  arrived opening part [] = part
  arrived opening part (l ∷ rest) =
      if is_toggled r.order l part.tally then rolled_back opening l.message (tallied l rest part) else tallied l rest part

  -- the first letter of the tray arrives
  abbrev pub arrive : S → Part M S → Part M S
  arrive opening part = arrived opening part part.tray

  -- the message is handled: it joins the done events, and what is sent goes to the outbox
  abbrev pub handled : Part M S → Option M → Part M S
  handled part None = part
  handled part (Some m) =
      record {
        committed = part.committed;
        done = part.done ++ m ∷ [];
        state = r.after part.state m;
        tally = part.tally;
        tray = part.tray;
        outbox = part.outbox ++ map plus_of (r.sends part.state m);
      }

  -- the next message is handled, if there is one
  abbrev pub run_one : Part M S → Part M S
  run_one part = handled part (next_of r.order part)

  -- of these done events the oldest is committed, and its count falls from 1 to 0
  abbrev pub oldest_committed : Part M S → List M → Part M S
  oldest_committed part [] = part
  oldest_committed part (m ∷ rest) =
      record {
        committed = part.committed ++ m ∷ [];
        done = rest;
        state = part.state;
        tally = minus_of m ∷ part.tally;
        tray = part.tray;
        outbox = part.outbox;
      }

  -- the oldest done event is committed, if its signed count is just 1
  abbrev pub commit_oldest : Part M S → Part M S
  commit_oldest part = if can_commit r.order part part.done then oldest_committed part part.done else part

  -- undo all: the state that is left when the done events are undone, the newest first, each with its record
  abbrev pub undo_all : S → Part M S → S
  undo_all opening part = undone r (reached r opening part.committed) part.done part.state
