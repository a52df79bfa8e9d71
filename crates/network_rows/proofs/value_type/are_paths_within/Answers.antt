use Rattle.std.proofs.Common.{length}
use Rattle.toml.specs.Data.{as_str}
use Rattle.network_rows.specs.Values.{as_list}
use Rattle.network_rows.specs.ValueTypes.{is_within}
use Rattle.network_rows.proofs.Items.{passes-all_as}
use Rattle.network_rows.proofs.value_type.are_paths_within.Goals as goal

pub returns-in-Some : goal.returns-in-Some
returns-in-Some c =
    rw (← c.in-Some.ensures, passes-all_as (as_list as_str) (λ names. is_within c.args.least c.args.greatest (length names)) c.in-Some.paths.now.items, ← c.as_slice.ensures.value)
    c.are_each_within.ensures
