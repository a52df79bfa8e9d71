use Rattle.network_tables.proofs.tables.tables_by_line.Goals as goal

pub returns-clause-outages : goal.returns-clause-outages
returns-clause-outages c = c.in_ok-outages.ensures.outages
