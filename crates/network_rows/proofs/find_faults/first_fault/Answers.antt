use Rattle.std.proofs.Common.{◌≡◌, ◌∙◌}
use Rattle.toml.specs.View.{table_view}
use Rattle.network_rows.specs.Faults.{faults_in_document}
use Rattle.network_rows.specs.Firsts.{nowhere, all_stored}
use Rattle.network_rows.proofs.Stored.{told_of_document}
use Rattle.network_rows.proofs.find_faults.first_fault.Goals as goal

pub returns : goal.returns
returns c =
    let document = table_view c.args.document.now in
    let all : c.note_document.new.firsts ≡ all_stored nowhere (faults_in_document document) = rw c.none-firsts.ensures at c.note_document.ensures in
    c.told_fault.ensures ∙ told_of_document document c.note_document.new.firsts all
