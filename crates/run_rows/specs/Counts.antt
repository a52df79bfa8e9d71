-- The tables of a run, of the rows that are counted so far. Times are in ns.
use Rattle.std.specs.Prelude.{◌≡◌, ℕ, List, [], Option, Some, None, get_or, slice_get}
use Rattle.vlink.specs.Letters.{Row}
use Rattle.virtual_time.specs.Law.{rows_at}
use Rattle.network.specs.Words.{Plan}
use Rattle.trace_segments.specs.Words.{rows_before, rows_within}
use Rattle.network_actors.specs.Networks.{AreRowsOf}

-- of each group a moment: its own, where one is listed, and else the end of what is counted of all
abbrev pub moment_of : List ℕ → ℕ → ℕ → ℕ
moment_of own end g = get_or own g end

-- of each process the moment of its group, where it has one, and else that end
abbrev pub moment_in : List ℕ → ℕ → Option ℕ → ℕ
moment_in own end None = end
moment_in own end (Some g) = moment_of own end g

abbrev pub moment_at : List ℕ → List ℕ → ℕ → ℕ → ℕ
moment_at owners own end p = moment_in own end (slice_get owners p)

-- at each process the rows are those that the one-thread run of the network has of it before its moment
pub record AreCountedBefore (plan : Plan) (moment : ℕ → ℕ) (counted : List Row) : Type 0 where
  pub rows_are : (rows : List Row) → AreRowsOf plan rows → (p : ℕ) → rows_at p counted ≡ rows_at p (rows_before (moment p) rows)

-- rows of a group between two moments: at each of its processes those that the one-thread run of the network has there, and none at another process
pub record IsPartOfGroup (plan : Plan) (owners : List ℕ) (g from to : ℕ) (part : List Row) : Type 0 where
  pub mine : (rows : List Row) → AreRowsOf plan rows → (p : ℕ) → slice_get owners p ≡ Some g → rows_at p part ≡ rows_at p (rows_within from to rows)
  pub others : (rows : List Row) → AreRowsOf plan rows → (p : ℕ) → (slice_get owners p ≡ Some g → ⊥) → rows_at p part ≡ []
