-- Tables of rows so far.
use Rattle.std.proofs.Common.{◌≡◌, ◌∙◌, ℕ, ◌≤◌, List, ◌++◌, length, take, sym, ap, subst, ◌^◌}
use mathlib.Core.Logic.{∥∥₁_elim}
use Rattle.std.proofs.Props.{props}
use Rattle.std.proofs.Math.Seq.{take-append_seam}
use Rattle.vlink.specs.Letters.{Row}
use Rattle.network.specs.Words.{Plan}
use Rattle.trace_tables.specs.SoFar.{SoFarLists, AreInTables, IsSoFar}

-- what a call that counts rows says of the network, says it of its plan
pub counts-in : (plan network : Plan) → network ≡ plan → (rows more : List Row) → rows ≡ more → (old new : SoFarLists) →
    ((earlier : List Row) → IsSoFar network old earlier → IsSoFar network new (earlier ++ rows)) →
    (earlier : List Row) → IsSoFar plan old earlier → IsSoFar plan new (earlier ++ more)
counts-in plan network same rows more is old new counts earlier so_far =
    subst (λ (p : Plan). IsSoFar p new (earlier ++ more)) same (subst (λ (xs : List Row). IsSoFar network new (earlier ++ xs)) is
    (counts earlier (subst (λ (p : Plan). IsSoFar p old earlier) (sym same) so_far)))

-- tables of some rows, where no more is known of them
pub known-so-far : (plan : Plan) (tables : SoFarLists) (rows : List Row) → ∥ IsSoFar plan tables rows ∥₁ → IsSoFar plan tables rows
known-so-far plan tables rows some =
    record {
      first = take tables.counted rows;
      split = ∥∥₁_elim some (hlevel props) (λ s. s.split ∙ ap (λ (xs : List Row). xs ++ tables.rest) (sym (same s)));
      many = ∥∥₁_elim some (hlevel props) (λ s. s.many ∙ ap length (sym (same s)));
      few = ∥∥₁_elim some (hlevel props) (λ s. subst (λ (xs : List Row). length xs ≤ 2 ^ 63) (sym (same s)) s.few);
      counts = ∥∥₁_elim some (hlevel props) (λ s. subst (λ (xs : List Row). AreInTables plan xs tables.cells tables.drops) (sym (same s)) s.counts);
    }
  where
    same : (s : IsSoFar plan tables rows) → take tables.counted rows ≡ s.first
    same s =
        ap (take tables.counted) s.split
        ∙ (ap (λ (n : ℕ). take n (s.first ++ tables.rest)) s.many ∙ take-append_seam s.first tables.rest)
