use Rattle.toml.specs.Data.{as_str}
use Rattle.network_rows.specs.Values.{as_list}
use Rattle.network_rows.proofs.Items.{is_some-all_as}
use Rattle.network_rows.proofs.value.are_paths.Goals as goal

pub returns-in-Some : goal.returns-in-Some
returns-in-Some c =
    rw (← c.in-Some.ensures, is_some-all_as (as_list as_str) c.in-Some.paths.now.items, ← c.as_slice.ensures.value) c.are_each_path.ensures
