use Rattle.network_rows.proofs.Items.{list_of-items_view}
use Rattle.network_rows.proofs.find_faults.note_list_value.Goals as goal

pub returns-in-Some : goal.returns-in-Some
returns-in-Some c = rw (← c.in-Some.ensures, list_of-items_view c.in-Some.rows.now.items, ← c.as_slice.ensures.value) c.note_rows.ensures
