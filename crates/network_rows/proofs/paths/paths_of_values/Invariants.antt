use Rattle.std.proofs.Common.{◌≡◌, Some}
use Rattle.std.specs.List.{AllZip}
use Rattle.toml.specs.Data.{as_str}
use Rattle.toml.specs.View.{view}
use Rattle.network_rows.specs.Values.{as_list}
use Rattle.network_rows.proofs.paths.paths_of_values.Given as goal

-- the paths of the values so far
abbrev pub invariant-loop-value : goal.invariant-loop-value
invariant-loop-value l = AllZip (λ v path. as_list as_str (view v) ≡ Some path) l.yielded l.paths.items
