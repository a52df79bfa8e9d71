-- Rows of committed events that left a process: the first ones, so many, which are of moments before one.
use Rattle.std.proofs.Common.{◌≡◌, ℕ, ◌+◌, ◌<◌, ◌≤◌, Bool, true, false, cond, nat_lt, max, min, All, List, [], ◌∷◌, ◌++◌, take, drop, Option, Some, None, refl, sym, ap, ◌∙◌, subst, arith, append-nil, append_assoc}
use Rattle.std.specs.List.Sorted.{IsPartitionPoint}
use Rattle.std.proofs.lemmas.List.{take-append-le}
use Rattle.std.proofs.lemmas.List.Elements.{All-nil}
use Rattle.vlink.specs.declared.message.Message.{Message}
use Rattle.vlink.specs.declared.note.Note.{Note}
use Rattle.vlink.specs.Letters.{Letter, Row}
use Rattle.virtual_time.specs.Law.{Rules, rowed, reached, Part, next_of, handled, arrived, is_toggled, rolled_back, tallied, can_commit, oldest_committed, Act, acted, local, Deliver, Emptying, Moves}
use Rattle.virtual_time.proofs.Handling.{rowed-append}
use Rattle.virtual_time.specs.declared.moved.Move.TheVariants.{Arrived, Ran, Committed}
use Rattle.process_queues.specs.Queues.{Queues, StandsFor}
use Rattle.row_times.specs.Within.{rows_within, AreFirstBefore}
use Rattle.row_times.proofs.Between.{rows-kept, first-early}

-- of more rows those leave that are earlier than a moment, or fewer
pub gone-more : (moment left count : ℕ) (all there : List Row) → there ≡ drop left all →
    IsPartitionPoint (λ row. nat_lt row.message.time moment ≡ true) (λ row. nat_lt row.message.time moment ≡ false) there count →
    (n sealed most left' : ℕ) → n ≡ min (min count sealed) most → left' ≡ left + n → (limit : ℕ) → moment ≤ limit →
    All (λ row. row.message.time < limit) (take left all) → All (λ row. row.message.time < limit) (take left' all)
gone-more moment left count all there behind point n sealed most left' few more limit le early =
    subst (λ k. All (λ (row : Row). row.message.time < limit) (take k all)) (sym more) (first-early moment left count there all behind point limit n le (omega arith) early)

module _ {S K : Type 0} (r : Rules Message S K Note) where
  -- where no row has left, all that left are early
  pub gone-none : (moment n : ℕ) → n ≡ 0 → (rows : List Row) → AreFirstBefore r moment n rows
  gone-none moment n none rows = subst (λ z. AreFirstBefore r moment z rows) (sym none) (All-nil (λ row. r.order.time row.message < moment))

  -- what is earlier than a moment is earlier than a later one
  pub gone-later : (moment later : ℕ) → moment ≤ later → (n : ℕ) (rows : List Row) → AreFirstBefore r moment n rows → AreFirstBefore r later n rows
  gone-later moment later le n rows h i d lt = let a = h i d lt in omega arith

  -- what left, and what is earlier than another moment, is earlier than the later one of both
  pub gone-max : (gone moment later : ℕ) → later ≡ max gone moment → (gone ≤ later) × (moment ≤ later)
  gone-max gone moment later is = (omega arith, omega arith)

  -- where the rows that left are earlier than an interval, those that are there are all that it has
  pub none-gone : (from to left : ℕ) (all there rows : List Row) → there ≡ drop left all → rows ≡ rows_within r from to there →
      AreFirstBefore r from left all → rows ≡ rows_within r from to all
  none-gone from to left all there rows behind is early = is ∙ (ap (rows_within r from to) behind ∙ rows-kept r from to left all early)

  module _ (o : S) where
    -- each act leaves the committed events or puts some behind them
    abbrev Grows : List Message → List Message → Type 0
    Grows old new = (more : List Message) × (new ≡ old ++ more)

    stays : (ms : List Message) → Grows ms ms
    stays ms = ([], sym (append-nil ms))

    arriving-grows : (part : Part Message S) (ls : List Letter) → Grows part.committed (arrived r o part ls).committed
    arriving-grows part [] = stays part.committed
    arriving-grows part (l ∷ rest) = go (is_toggled r.order l part.tally)
      where
        go : (b : Bool) → Grows part.committed (cond b (rolled_back r o l.message (tallied r l rest part)) (tallied r l rest part)).committed
        go true = stays part.committed
        go false = stays part.committed

    running-grows : (part : Part Message S) (m : Option Message) → Grows part.committed (handled r part m).committed
    running-grows part None = stays part.committed
    running-grows part (Some m) = stays part.committed

    committing-grows : (part : Part Message S) (ms : List Message) → Grows part.committed (cond (can_commit r.order part ms) (oldest_committed r part ms) part).committed
    committing-grows part [] = stays part.committed
    committing-grows part (m ∷ rest) = go (can_commit r.order part (m ∷ rest))
      where
        go : (b : Bool) → Grows part.committed (cond b (oldest_committed r part (m ∷ rest)) part).committed
        go true = (m ∷ [], refl)
        go false = stays part.committed

    act-grows : (a : Act Message) (part : Part Message S) → Grows part.committed (acted r o a part).committed
    act-grows (Deliver l) part = stays part.committed
    act-grows (Moves Arrived) part = arriving-grows part part.tray
    act-grows (Moves Ran) part = running-grows part (next_of r.order part)
    act-grows (Moves Committed) part = committing-grows part part.done
    act-grows Emptying part = stays part.committed

    acts-grow : (acts : List (Act Message)) (part : Part Message S) → Grows part.committed (local r o acts part).committed
    acts-grow [] part = stays part.committed
    acts-grow (a ∷ as') part =
        let one = act-grows a part in
        let rest = acts-grow as' (acted r o a part) in
        (one.0 ++ rest.0, rest.1 ∙ (ap (λ z. z ++ rest.0) one.1 ∙ append_assoc part.committed one.0 rest.0))

    -- what a process does leaves its first rows what they were
    pub gone-stays : {is_value : S → Message → Type 0} (part : Part Message S) (q : Queues S K) → StandsFor r is_value o part q → (moment : ℕ) → AreFirstBefore r moment q.left (rowed r o part.committed) →
        (acts : List (Act Message)) (part' : Part Message S) → part' ≡ local r o acts part → (q' : Queues S K) → q'.left ≡ q.left → AreFirstBefore r moment q'.left (rowed r o part'.committed)
    gone-stays part q stands moment h acts part' did q' kept =
        let grown = acts-grow acts part in
        let first = rowed r o part.committed in
        let same : take q'.left (rowed r o part'.committed) ≡ take q.left first =
        (λ i. take (kept i) (rowed r o ((ap (λ (z : Part Message S). z.committed) did ∙ grown.1) i)))
        ∙ (ap (take q.left) (rowed-append r o part.committed grown.0)
        ∙ take-append-le q.left first (rowed r (reached r o part.committed) grown.0) (let a = stands.sealed in omega arith)) in
        subst (λ rows. All (λ row. r.order.time row.message < moment) rows) (sym same) h
