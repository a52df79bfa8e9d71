-- What a group does in its turn, by what it does at a time: `handles` says that it handled so many messages, at most so many, no further ahead of the
-- GVT that it saw than so many ns; `stays`, that a look at it changed nothing.
use Rattle.std.specs.Prelude.{◌≡◌, ℕ, ◌-◌, ◌≤◌, List, [], ◌∷◌, sum}

module _ {G : Type 0} (handles : G → G → ℕ → ℕ → ℕ → Type 0) (stays : G → G → Type 0) where
  -- a piece of a turn: so many messages, no more than `most`, and none further ahead than the window
  pub record IsPiece (window most : ℕ) (old new : G) (count : ℕ) : Type 0 where
    pub ahead : ℕ
    pub behind : G
    pub near : ahead ≤ window
    pub few : count ≤ most
    pub handled : handles old behind most ahead count
    pub looked : stays behind new

  -- pieces of a turn with so many messages each, the last one first: each has no more than are left
  abbrev pub ArePieces : ℕ → ℕ → List ℕ → G → G → Type 0
  ArePieces turn window [] old new = new ≡ old
  ArePieces turn window (count ∷ counts) old new =
      (between : G) × ArePieces turn window counts old between × ((most : ℕ) × (most ≤ turn - sum counts) × IsPiece window most between new count)

  -- a turn of so many messages: pieces, one after another, together no more than a turn has
  pub record IsTurn (turn window : ℕ) (old new : G) (handled : ℕ) : Type 0 where
    pub counts : List ℕ
    pub pieces : ArePieces turn window counts old new
    pub all : handled ≡ sum counts
    pub few : handled ≤ turn
