-- Events earlier than GVT are committed, one after another, the oldest first.
use Rattle.std.specs.Prelude.{ℕ, zero, suc, Bool, false, ◌&&◌, if◌then◌else◌, nat_lt, List, [], ◌∷◌, Option, Some, None}
use Rattle.virtual_time.specs.Law.{Rules, Part, can_commit, commit_oldest}

-- the moment, if there is one, is earlier than another
abbrev pub is_moment_before : ℕ → Option ℕ → Bool
is_moment_before g None = false
is_moment_before g (Some t) = nat_lt t g

module _ {M S K N : Type 0} (r : Rules M S K N) where
  -- the oldest of these done events is earlier than g
  abbrev pub is_early : ℕ → List M → Bool
  is_early g [] = false
  is_early g (m ∷ ms) = nat_lt (r.order.time m) g

  -- the oldest done event is earlier than g and can be committed
  abbrev pub is_ready : ℕ → Part M S → Bool
  is_ready g part = is_early g part.done && can_commit r.order part part.done

  -- the part after its oldest done event was committed so many times
  abbrev pub committed_times : ℕ → Part M S → Part M S
  committed_times zero part = part
  committed_times (suc n) part = committed_times n (commit_oldest r part)

  -- how many events are committed one after another, n at most, as long as the oldest one is ready
  abbrev pub committed_below : ℕ → ℕ → Part M S → ℕ
  committed_below g zero part = 0
  committed_below g (suc n) part = if is_ready g part then suc (committed_below g n (commit_oldest r part)) else 0

  -- the part after its oldest done event was committed, if it is ready
  abbrev pub committed_once : ℕ → Part M S → Part M S
  committed_once g part = if is_ready g part then commit_oldest r part else part
