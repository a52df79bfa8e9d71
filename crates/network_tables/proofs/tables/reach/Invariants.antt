use Rattle.std.proofs.Common.{◌≡◌, ℕ, get_or, vec_len, None}
use Rattle.network_tables.proofs.tables.reach.Given as goal

abbrev pub invariant-loop : goal.invariant-loop
invariant-loop l = record {
  len : vec_len l.places ≡ l.counter;
  same : (n : ℕ) → get_or l.places.items n None ≡ get_or l.initial.places.items n None;
}
