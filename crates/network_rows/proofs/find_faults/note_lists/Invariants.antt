use Rattle.std.proofs.Common.{◌≡◌, drop, flat_map}
use Rattle.toml.specs.View.{table_view}
use Rattle.network_rows.specs.Faults.{faults_in_section}
use Rattle.network_rows.specs.Firsts.{all_stored}
use Rattle.network_rows.proofs.find_faults.note_lists.Given as goal

-- with what is left, all faults are stored
abbrev pub invariant-loop-section : goal.invariant-loop-section
invariant-loop-section l =
    all_stored l.firsts (flat_map (faults_in_section (table_view l.document)) (drop l.section-index l.sections))
    ≡ all_stored l.initial.firsts (flat_map (faults_in_section (table_view l.document)) l.sections)
