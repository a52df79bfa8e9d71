-- What a message is, in which order messages come, and what an actor does with one. An actor has a state; a message changes the state, and
-- makes the actor send messages and note what happened.
use Rattle.std.specs.Prelude.{◌≡◌, ℕ, ◌<◌, ◌==◌, Bool, true, false, List, [], ◌∷◌, ◌++◌, map, filter}
use Rattle.virtual_time.specs.declared.row.Row.{Row}

-- the messages M: when one is received, by which process, and from which sender with which number of that sender; and their order
pub record Order (M : Type 0) : Type 0 where
  pub time : M → ℕ
  pub receiver : M → ℕ
  pub sender : M → ℕ
  pub number : M → ℕ
  -- the first message comes before the second in the message order
  pub less : M → M → Bool

-- besides that the states S of an actor, the records K by which an event is undone, and the notes N
pub record Rules (M S K N : Type 0) : Type 0 where
  pub order : Order M
  -- what handling a message makes of a state, what is then sent, in this order, and what is noted
  pub after : S → M → S
  pub sends : S → M → List M
  pub notes : S → M → List N
  -- the number of the next message that is sent
  pub counter : S → ℕ
  -- the record that is kept of one event, and the state before the event from the state after it
  pub kept : S → M → K
  pub undo : S → M → K → S

-- the message order is total and strict, and an earlier message comes before a later one
pub record IsOrder {M : Type 0} (o : Order M) : Type 0 where
  pub irreflexive : (a : M) → o.less a a ≡ false
  pub transitive : (a b c : M) → o.less a b ≡ true → o.less b c ≡ true → o.less a c ≡ true
  pub total : (a b : M) → o.less a b ≡ false → o.less b a ≡ false → a ≡ b
  pub by_time : (a b : M) → o.time a < o.time b → o.less a b ≡ true

-- the notes of one event as rows
abbrev pub rows_of : {M N : Type 0} → Order M → M → List N → List (Row M N)
rows_of o m notes = map (λ n. record { message = m; place = o.receiver m; note = n }) notes

-- the rows of a process, in their order
abbrev pub rows_at : {M N : Type 0} → ℕ → List (Row M N) → List (Row M N)
rows_at p rows = filter (λ row. row.place == p) rows

module _ {M S K N : Type 0} (r : Rules M S K N) where
  -- the state after these messages were handled, one after another, from the state s on
  abbrev pub reached : S → List M → S
  reached s [] = s
  reached s (m ∷ ms) = reached (r.after s m) ms

  -- all that was sent on the way
  abbrev pub sent : S → List M → List M
  sent s [] = []
  sent s (m ∷ ms) = r.sends s m ++ sent (r.after s m) ms

  -- all rows that were noted on the way
  abbrev pub rowed : S → List M → List (Row M N)
  rowed s [] = []
  rowed s (m ∷ ms) = rows_of r.order m (r.notes s m) ++ rowed (r.after s m) ms

  -- these messages were handled from the state s on, and now is the state after them: the state that is left
  -- when they are undone, the newest first, each with its record
  abbrev pub undone : S → List M → S → S
  undone s [] now = now
  undone s (m ∷ ms) now = r.undo (undone (r.after s m) ms now) m (r.kept s m)
