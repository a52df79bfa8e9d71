-- All that comes to a port: the curves of virtual links and of lines, put together.
use Rattle.std.specs.Prelude.{◌≡◌, ℕ, ◌+◌, ◌-◌, ◌*◌, ◌≤◌, ◌⊎◌, Bool, true, List, [], ◌∷◌, ⊤}
use Rattle.port_bounds.specs.Frames.{PutFrame, IsWithin, link_of}
use Rattle.port_bounds.specs.Arrivals.{IsClassWithin, is_of_link, is_by_line}

-- a virtual link at a port: its number, and its burst and rate
pub record Flow : Type 0 where
  pub link : ℕ
  pub burst : ℕ
  pub rate : ℕ

-- a line by which frames come: its number, its own burst and rate, how much of the bound is taken from these, and its virtual links
pub record Group : Type 0 where
  pub line : ℕ
  pub burst : ℕ
  pub rate : ℕ
  pub weight : ℕ
  pub flows : List Flow

abbrev pub flows_burst : List Flow → ℕ
flows_burst [] = 0
flows_burst (f ∷ fs) = f.burst + flows_burst fs

abbrev pub flows_rate : List Flow → ℕ
flows_rate [] = 0
flows_rate (f ∷ fs) = f.rate + flows_rate fs

-- the mixture: of `whole` parts, `weight` by the line and the others by its virtual links
abbrev pub mixed : ℕ → ℕ → ℕ → ℕ → ℕ
mixed whole weight line flows = weight * line + (whole - weight) * flows

abbrev pub groups_burst : ℕ → List Group → ℕ
groups_burst whole [] = 0
groups_burst whole (g ∷ gs) = mixed whole g.weight g.burst (flows_burst g.flows) + groups_burst whole gs

abbrev pub groups_rate : ℕ → List Group → ℕ
groups_rate whole [] = 0
groups_rate whole (g ∷ gs) = mixed whole g.weight g.rate (flows_rate g.flows) + groups_rate whole gs

abbrev pub links_of : List Flow → List ℕ
links_of [] = []
links_of (f ∷ fs) = f.link ∷ links_of fs

abbrev pub lines_of : List Group → List ℕ
lines_of [] = []
lines_of (g ∷ gs) = g.line ∷ lines_of gs

abbrev pub IsAmong : ℕ → List ℕ → Type 0
IsAmong k [] = ⊥
IsAmong k (n ∷ ns) = (k ≡ n) ⊎ IsAmong k ns

-- each of these frames that passes the test has a key among these
abbrev pub AreKeyed : (PutFrame → Bool) → (PutFrame → ℕ) → List ℕ → List PutFrame → Type 0
AreKeyed test key keys [] = ⊤
AreKeyed test key keys (x ∷ xs) = (test x ≡ true → IsAmong (key x) keys) × AreKeyed test key keys xs

-- each frame comes by one of the lines of these groups
abbrev pub AreByLines : List Group → List PutFrame → Type 0
AreByLines groups fs = AreKeyed (λ x. true) (λ x. x.line) (lines_of groups) fs

abbrev pub AreFlowsWithin : ℕ → List Flow → List PutFrame → Type 0
AreFlowsWithin scale [] fs = ⊤
AreFlowsWithin scale (f ∷ flows) fs = IsClassWithin scale f.burst f.rate (is_of_link f.link) fs × AreFlowsWithin scale flows fs

-- of each group the weight is at most `whole`, its virtual links have their curves, and so has the line if its weight is not 0; and only frames of
-- these virtual links come by the line
abbrev pub AreGroupsWithin : ℕ → ℕ → List Group → List PutFrame → Type 0
AreGroupsWithin scale whole [] fs = ⊤
AreGroupsWithin scale whole (g ∷ gs) fs =
    (g.weight ≤ whole) × (1 ≤ g.weight → IsClassWithin scale g.burst g.rate (is_by_line g.line) fs) × AreFlowsWithin scale g.flows fs ×
    AreKeyed (is_by_line g.line) link_of (links_of g.flows) fs × AreGroupsWithin scale whole gs fs

-- then all frames together have the curve of the mixture, whatever the weights are
abbrev pub AreMixturesWithin : Type 0
AreMixturesWithin =
    (scale whole : ℕ) (groups : List Group) (fs : List PutFrame) → AreGroupsWithin scale whole groups fs → AreByLines groups fs →
    IsWithin (whole * scale) (groups_burst whole groups) (groups_rate whole groups) fs
