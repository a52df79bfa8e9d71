use Rattle.std.proofs.Common.{◌≡◌, ℕ, [], get_or, vec_len}
use Rattle.network.specs.Words.{lists_of}
use Rattle.network_tables.proofs.tables.no_lists.Given as goal

abbrev pub invariant-loop : goal.invariant-loop
invariant-loop g l = record {
  len : vec_len l.table ≡ l.counter;
  empty : (k : ℕ) → get_or (lists_of l.table) k [] ≡ [];
}
