use Rattle.std.proofs.Common.{None, ap, sym, ◌∙◌, flat_map}
use Rattle.toml.specs.View.{table_view}
use Rattle.network_rows.specs.declared.key.Section.TheVariants.{Top}
use Rattle.network_rows.specs.declared.first_places.FirstPlaces.{FirstPlaces}
use Rattle.network_rows.specs.Table.{lists}
use Rattle.network_rows.specs.Faults.{faults_in_table, faults_in_section}
use Rattle.network_rows.specs.Firsts.{all_stored}
use Rattle.network_rows.proofs.Stored.{all_stored_append}
use Rattle.network_rows.proofs.find_faults.note_document.Goals as goal

pub returns : goal.returns
returns c =
    let document = table_view c.args.document.now in
    c.note_lists.ensures
    ∙ ap (λ (firsts : FirstPlaces). all_stored firsts (flat_map (faults_in_section document) lists)) c.note_table.ensures
    ∙ sym (all_stored_append c.args.firsts.now (faults_in_table Top None document) (flat_map (faults_in_section document) lists))
