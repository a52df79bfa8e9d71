-- When an account passes frames, from whatever state.
use Rattle.std.specs.Prelude.{◌≡◌, ℕ, ◌+◌, ◌-◌, ◌*◌, ◌≤◌, ◌⊎◌, if◌then◌else◌, List, [], ◌∷◌}
use Rattle.policer.specs.declared.account.Arrival.{Arrival}
use Rattle.policer.specs.declared.account.Measure.TheVariants.{Bytes, Frames}
use Rattle.policer.specs.Account.{Policing, account, passes}
use Rattle.policer.specs.Bound.{IsBetween}
use Rattle.port_bounds.specs.Pacing.{IsPaced}
use Rattle.port_bounds.specs.Sublists.{Every, IsSublist}

-- the moments of those of these frames that pass
abbrev pub passages_of : Policing → List Arrival → List ℕ
passages_of a [] = []
passages_of a (frame ∷ frames) = if passes a frame then frame.at ∷ passages_of (account.after a frame) frames else passages_of (account.after a frame) frames

-- the account bounds how many frames pass, where each has at least so many bytes: it charges frames, or bytes of which no frame has fewer than
-- the greatest
pub record IsCounting (a : Policing) (least : ℕ) : Type 0 where
  pub positive : 1 ≤ a.smax
  pub counts : (a.measure ≡ Frames) ⊎ (a.smax ≤ least)

-- each of these frames has at least so many bytes
abbrev pub AreAtLeast : ℕ → List Arrival → Type 0
AreAtLeast least frames = Every (λ frame. least ≤ frame.size) frames

-- then frames that pass are paced, with the account's jitter, where their moments do not fall
abbrev pub ArePassagesPaced : Type 0
ArePassagesPaced =
    (a : Policing) (least : ℕ) (frames : List Arrival) (t u : ℕ) → IsCounting a least → AreAtLeast least frames → IsBetween t u frames → IsPaced a.bag a.jitter (passages_of a frames)

-- ---- an account that charges bytes

-- those of these frames that pass
abbrev pub passed_of : Policing → List Arrival → List Arrival
passed_of a [] = []
passed_of a (frame ∷ frames) = if passes a frame then frame ∷ passed_of (account.after a frame) frames else passed_of (account.after a frame) frames

abbrev pub bytes_of : List Arrival → ℕ
bytes_of [] = 0
bytes_of (frame ∷ frames) = frame.size + bytes_of frames

-- some of these frames, if they come from t to u, have no more bytes than Smax for each BAG that one BAG, the jitter and u - t have
pub record IsMetered (smax bag jitter : ℕ) (frames : List Arrival) : Type 0 where
  pub bounded : (some : List Arrival) (t u : ℕ) → IsSublist some frames → IsBetween t u some → bytes_of some * bag ≤ smax * ((bag + jitter) + (u - t))

-- those that pass are so, whatever sizes they have
abbrev pub ArePassagesMetered : Type 0
ArePassagesMetered = (a : Policing) (frames : List Arrival) (t u : ℕ) → a.measure ≡ Bytes → IsBetween t u frames → IsMetered a.smax a.bag a.jitter (passed_of a frames)
