use Rattle.run_rows.proofs.LawfulRows.{lawful-rows}
use Rattle.run_rows.proofs.lawful_rows.rows_law.Goals as goal

pub returns : goal.returns
returns c = lawful-rows c.args.network.now c.network_law.ensures c.message_order_law.ensures.total
