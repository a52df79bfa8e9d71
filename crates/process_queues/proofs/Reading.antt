-- What of a process can be read, by the part that it stands for.
use Rattle.std.proofs.Common.{◌≡◌, ℕ, suc, ◌+◌, ◌≤◌, min, List, [], ◌∷◌, ◌++◌, length, map, take, Some, None, slice_get, refl, sym, ap, ◌∙◌, subst, arith, option_map, length-append, length-drop}
use Rattle.vlink.specs.declared.message.Message.{Message}
use Rattle.vlink.specs.declared.note.Note.{Note}
use Rattle.virtual_time.specs.Law.{Rules, IsOrder, reached, rowed, lowest, Part, unhandled, next_of, floor_of}
use Rattle.virtual_time.proofs.Least.{least-some, least-none}
use Rattle.virtual_time.proofs.Lowest.{lowest-top, lowest-message, lowest-messages}
use Rattle.virtual_time.proofs.Order.{not_less-time}
use Rattle.process_steps.specs.declared.event.Event.{Event}
use Rattle.process_queues.specs.Past.{event_of, events_of, IsPastOf}
use Rattle.process_queues.specs.Queues.{Queues, StandsFor, rows_there}
use Rattle.process_queues.proofs.Pasts.{front-of}

some-same : {A : Type 0} (a b : A) → Some a ≡ Some b → a ≡ b
some-same a b e = cc

module _ {S K : Type 0} {r : Rules Message S K Note} {is_value : S → Message → Type 0} {opening : S} {part : Part Message S} {q : Queues S K}
    (h : StandsFor r is_value opening part q) where
  -- the oldest done event
  pub oldest-stands : option_map (λ e. e.message.time) (slice_get q.past.done 0) ≡ option_map (λ m. m.time) (slice_get part.done 0)
  oldest-stands = ap (λ es. option_map (λ e. e.message.time) (slice_get es 0)) h.past.past_of.done ∙ go (reached r opening part.committed) part.done
    where
      go : (s : S) (ms : List Message) → option_map (λ e. e.message.time) (slice_get (events_of r s ms) 0) ≡ option_map (λ m. m.time) (slice_get ms 0)
      go s [] = refl
      go s (m ∷ ms) = refl

  -- the oldest done event is the first one, and the past begins with it
  pub first-done : (event : Event K) → slice_get q.past.done 0 ≡ Some event → (rest : List Message) × (part.done ≡ event.message ∷ rest)
      × IsPastOf r is_value (reached r opening part.committed) (event.message ∷ rest) (rows_there r opening part q) q.past
  first-done event e =
      let k = go (reached r opening part.committed) part.done (sym (ap (λ es. slice_get es 0) h.past.past_of.done) ∙ e) in
      (k.0, k.1, subst (λ ms. IsPastOf r is_value (reached r opening part.committed) ms (rows_there r opening part q) q.past) k.1 h.past.past_of)
    where
      go : (s : S) (ms : List Message) → slice_get (events_of r s ms) 0 ≡ Some event → (rest : List Message) × (ms ≡ event.message ∷ rest)
      go s [] k = cc
      go s (m ∷ ms) k = let same : event_of r s m ≡ event = some-same (event_of r s m) event k in (ms, ap (λ z. z.message ∷ ms) same)

  -- so many rows of committed events are still there
  still-there : q.sealed ≡ length (rows_there r opening part q)
  still-there = let k = h.sealed in let d = length-drop q.left (rowed r opening part.committed) in omega arith

  -- those are the first ones
  pub sealed-rows : take q.sealed q.past.rows ≡ rows_there r opening part q
  sealed-rows = ap (take q.sealed) h.past.past_of.rows ∙ front-of (rows_there r opening part q) _ q.sealed still-there

  pub sealed-within : q.sealed ≤ length q.past.rows
  sealed-within =
      let a = ap length h.past.past_of.rows in
      let b = still-there in
      let c = length-append (rows_there r opening part q) (rowed r (reached r opening part.committed) part.done) in
      omega arith

module _ {S K : Type 0} (r : Rules Message S K Note) (O : IsOrder r.order) (until : ℕ) (part : Part Message S) where
  -- the least time of the unhandled messages is that of the next one
  pub floor-some : (m : Message) → next_of r.order part ≡ Some m → min (r.order.time m) (until + 1) ≡ floor_of r.order until (record part { tray = [] })
  floor-some m e =
      let l = least-some r.order O (unhandled r.order part.tally part.done) m e in
      let a = lowest-top r.order O (suc until) (map r.order.time (unhandled r.order part.tally part.done)) in
      let b = lowest-message r.order O (suc until) (unhandled r.order part.tally part.done) m l.inside in
      let c = lowest-messages r.order O (min (r.order.time m) (suc until)) (suc until) (unhandled r.order part.tally part.done) (omega arith)
      (λ x i. let k = not_less-time r.order O x m (l.lowest x i) in omega arith) in
      omega arith

  pub floor-none : next_of r.order part ≡ None → until + 1 ≡ floor_of r.order until (record part { tray = [] })
  floor-none e = let k = least-none r.order O (unhandled r.order part.tally part.done) e in
      let a = ap (λ ms. lowest (suc until) (map r.order.time ms)) k in
      omega arith

-- the least of these and one more behind them
pub lowest-push : (d x : ℕ) (xs : List ℕ) → lowest d (xs ++ x ∷ []) ≡ min x (lowest d xs)
lowest-push d x [] = refl
lowest-push d x (y ∷ ys) = let a = lowest-push d x ys in omega arith
