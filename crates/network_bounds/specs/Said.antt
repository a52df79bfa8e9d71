-- What the lines of the bounds say, and how each is written. Times are in ns.
use Rattle.std.specs.Prelude.{ℕ, cond, Bool, codes, decimal, List, [], ◌∷◌, slice_get}
use Rattle.std.specs.Option.{option_map_or}
use Rattle.network.specs.Words.{Plan, line_name, lines_of}
use Rattle.trace_segments.specs.Words.{line, place_name}
use Rattle.network_bounds.specs.declared.reason.Reason.{Reason}
use Rattle.network_bounds.specs.declared.reason.Reason.TheVariants.{Number, Rate, Size, Way}

-- a frame of virtual link `link` takes so long at most from its release to node `place`, waits so long at most in its regulator, and takes so long at
-- most and at least from its offer; the latencies of two frames are so far apart at most
pub record LinkBound : Type 0 where
  pub link : ℕ
  pub place : ℕ
  pub network_ns : ℕ
  pub wait_ns : ℕ
  pub bound_ns : ℕ
  pub least_ns : ℕ
  pub jitter_ns : ℕ

-- at the port before line `line` so many bytes wait at most, and there is room for them
pub record PortBytes : Type 0 where
  pub line : ℕ
  pub bytes : ℕ
  pub holds : Bool

pub data Said : Type 0 where
  Bound : (bound : LinkBound) → Said
  NoBound : (link place : ℕ) (why : Reason) → Said
  Port : (port : PortBytes) → Said
  NoRoom : (line : ℕ) (why : Reason) → Said

-- how a reason is written
abbrev pub reason_name : Reason → List ℕ
reason_name Rate = codes "rate"
reason_name Size = codes "size"
reason_name Way = codes "way"
reason_name Number = codes "number"

-- the name of line k
abbrev pub line_named : Plan → ℕ → List ℕ
line_named plan k = option_map_or (line_name plan.nodes) (slice_get (lines_of plan) k) []

-- why there is no bound of what these two columns name
abbrev pub none_line : List ℕ → List ℕ → Reason → List ℕ
none_line of place why = line (codes "none" ∷ of ∷ place ∷ reason_name why ∷ [] ∷ [] ∷ [] ∷ [] ∷ [] ∷ [] ∷ [] ∷ [])

abbrev pub said_line : Plan → Said → List ℕ
said_line plan (Bound b) =
    line (codes "bound" ∷ decimal b.link ∷ place_name plan b.place ∷ decimal b.network_ns ∷ decimal b.wait_ns ∷ decimal b.bound_ns ∷ decimal b.least_ns ∷ decimal b.jitter_ns ∷ [] ∷ [] ∷ [] ∷ [])
said_line plan (NoBound link place why) = none_line (decimal link) (place_name plan place) why
said_line plan (Port p) =
    line (codes "port" ∷ line_named plan p.line ∷ [] ∷ decimal p.bytes ∷ cond p.holds (codes "yes") (codes "no") ∷ [] ∷ [] ∷ [] ∷ [] ∷ [] ∷ [] ∷ [])
said_line plan (NoRoom k why) = none_line (line_named plan k) [] why
