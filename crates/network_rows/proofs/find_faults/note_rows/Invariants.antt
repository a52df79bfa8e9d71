use Rattle.std.proofs.Common.{◌≡◌, ◌+◌, map, drop}
use Rattle.toml.specs.View.{view}
use Rattle.network_rows.specs.Faults.{faults_in_rows}
use Rattle.network_rows.specs.Firsts.{all_stored}
use Rattle.network_rows.proofs.find_faults.note_rows.Given as goal

-- with what is left, all faults are stored
abbrev pub invariant-loop-i : goal.invariant-loop-i
invariant-loop-i l = all_stored l.firsts (faults_in_rows l.section (l.i + 1) (map view (drop l.i l.rows))) ≡ all_stored l.initial.firsts (faults_in_rows l.section 1 (map view l.rows))
