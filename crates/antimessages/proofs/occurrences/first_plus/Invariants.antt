use Rattle.std.proofs.Common.{◌≡◌, option_map, find}
use Rattle.virtual_time.specs.Law.{is_plus}
use Rattle.antimessages.proofs.occurrences.first_plus.Given as goal

abbrev pub invariant-loop-occurrence : goal.invariant-loop-occurrence
invariant-loop-occurrence l =
    option_map (λ e. e.0.message) (find (λ e. is_plus e.1) l.rest) ≡ option_map (λ e. e.0.message) (find (λ e. is_plus e.1) l.fn.entries)
