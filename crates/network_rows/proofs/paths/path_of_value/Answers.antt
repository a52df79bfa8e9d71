use Rattle.toml.proofs.Views.{view-Array}
use Rattle.toml.specs.Data.{as_str}
use Rattle.network_rows.proofs.Items.{All-some, all_as-zip}
use Rattle.network_rows.proofs.paths.path_of_value.Goals as goal

pub names_of_values-requires : goal.names_of_values-requires
names_of_values-requires c = All-some as_str c.in-Array.values.items (rw (c.in-Array.is, view-Array c.in-Array.values) at c.requires)

pub returns : goal.returns
returns c =
    let made = c.in_ok-names_of_values-in-Array in
    rw (c.in-Array.is, view-Array c.in-Array.values) (all_as-zip as_str c.in-Array.values.items made.field-0.items made.ensures)
