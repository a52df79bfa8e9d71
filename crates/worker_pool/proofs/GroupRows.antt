-- Rows of a group of processes.
use Rattle.std.proofs.Common.{◌≡◌, ◌∙◌, ℕ, ◌==◌, ◌&&◌, nat_le, nat_lt, Bool, true, false, List, [], refl, sym, ap}
use Rattle.virtual_time.specs.Law.{one, rows_at}
use Rattle.vlink.specs.Letters.{Row}
use Rattle.network.specs.Words.{Plan}
use Rattle.nodes.specs.Words.{simulation_of}
use Rattle.group_exchange.specs.Rows.{rows_of_group}
use Rattle.group_exchange.specs.Views.{is_of}
use Rattle.group_exchange.proofs.Owners.{of-owner, owner-is}
use Rattle.trace_segments.specs.Words.{rows_within}
use Rattle.trace_segments.proofs.GatherLemmas.{rows_at-are, all-pass-at, none-pass-at}
use Rattle.trace_segments.proofs.SortedLemmas.{filters-swap}
use Rattle.seqsim.specs.Networks.{AreRowsOf}
use Rattle.run_rows.specs.Counts.{IsPartOfGroup}

-- rows of the group that are those of the one-thread run in some interval
abbrev pub AreOfGroup : Plan → List ℕ → ℕ → ℕ → ℕ → List Row → Type 0
AreOfGroup plan owners g from to rows =
    (event_count : ℕ) → (one (simulation_of plan) event_count).waiting ≡ [] →
    rows ≡ rows_within from to (rows_of_group owners g (one (simulation_of plan) event_count).rows)

-- they are those of its rows
pub group-rows : (plan : Plan) (owners : List ℕ) (g from to : ℕ) (rows run : List Row) → AreOfGroup plan owners g from to rows → AreRowsOf plan run →
    rows ≡ rows_within from to (rows_of_group owners g run)
group-rows plan owners g from to rows run here r = here r.0 r.1 ∙ ap (λ (z : List Row). rows_within from to (rows_of_group owners g z)) (sym r.2)

module _ (owners : List ℕ) (g p : ℕ) where
  -- a process of the group has all of its rows there
  pub mine-at : is_of owners g p ≡ true → (rows : List Row) → rows_at p (rows_of_group owners g rows) ≡ rows_at p rows
  mine-at o rows =
      filters-swap (λ row. row.place == p) (λ row. is_of owners g row.place) rows ∙ all-pass-at (is_of owners g) p (rows_at p rows) o (rows_at-are p rows)

  -- and one of another group none
  pub other-at : is_of owners g p ≡ false → (rows : List Row) → rows_at p (rows_of_group owners g rows) ≡ []
  other-at o rows =
      filters-swap (λ row. row.place == p) (λ row. is_of owners g row.place) rows ∙ none-pass-at (is_of owners g) p (rows_at p rows) o (rows_at-are p rows)

-- so they are, at each process of the group, those of the run, and none at another process
pub part-of-group : (plan : Plan) (owners : List ℕ) (g from to : ℕ) (rows : List Row) → AreOfGroup plan owners g from to rows → IsPartOfGroup plan owners g from to rows
part-of-group plan owners g from to rows here =
    record {
      mine = λ run r p t. ap (rows_at p) (all run r) ∙ mine-at owners g p (of-owner owners g p t) (rows_within from to run);
      others = λ run r p t. ap (rows_at p) (all run r) ∙ other-at owners g p (not-of (is_of owners g p) (λ o. t (owner-is owners g p o))) (rows_within from to run);
    }
  where
    all : (run : List Row) → AreRowsOf plan run → rows ≡ rows_of_group owners g (rows_within from to run)
    all run r =
        group-rows plan owners g from to rows run here r
        ∙ filters-swap (λ row. nat_le from row.message.time && nat_lt row.message.time to) (λ row. is_of owners g row.place) run

    not-of : (b : Bool) → (b ≡ true → ⊥) → b ≡ false
    not-of true never = absurd (never refl)
    not-of false never = refl
