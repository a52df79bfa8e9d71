use Rattle.toml.proofs.Views.{view-Array}
use Rattle.toml.specs.Data.{as_str}
use Rattle.network_rows.specs.Values.{as_list}
use Rattle.network_rows.proofs.Items.{All-some, all_as-zip}
use Rattle.network_rows.proofs.paths.Paths.from_value.Goals as goal

pub paths_of_values-requires : goal.paths_of_values-requires
paths_of_values-requires c = All-some (as_list as_str) c.in-Array.values.items (rw (c.in-Array.is, view-Array c.in-Array.values) at c.requires)

pub returns : goal.returns
returns c =
    let made = c.in_ok-paths_of_values-in-Array in
    rw (c.in-Array.is, view-Array c.in-Array.values) (all_as-zip (as_list as_str) c.in-Array.values.items made.field-0.items made.ensures)
