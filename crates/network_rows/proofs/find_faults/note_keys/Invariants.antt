use Rattle.std.proofs.Common.{◌≡◌, drop, flat_map}
use Rattle.toml.specs.View.{table_view}
use Rattle.network_rows.specs.Faults.{faults_at}
use Rattle.network_rows.specs.Firsts.{all_stored}
use Rattle.network_rows.proofs.find_faults.note_keys.Given as goal

-- with what is left, all faults are stored
abbrev pub invariant-loop-rule : goal.invariant-loop-rule
invariant-loop-rule l =
    all_stored l.firsts (flat_map (faults_at l.section l.number (table_view l.row)) (drop l.rule-index l.rules))
    ≡ all_stored l.initial.firsts (flat_map (faults_at l.section l.number (table_view l.row)) l.rules)
