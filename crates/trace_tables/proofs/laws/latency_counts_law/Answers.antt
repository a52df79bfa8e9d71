use Rattle.trace_tables.proofs.LatencyCountLemmas.{latencies-counted, least-le, le-greatest, least-occurs, greatest-occurs}
use Rattle.trace_tables.proofs.laws.latency_counts_law.Goals as goal

pub returns-clause-counted : goal.returns-clause-counted
returns-clause-counted c vl place rows = latencies-counted vl place rows

pub returns-clause-least : goal.returns-clause-least
returns-clause-least c latencies = least-le latencies

pub returns-clause-greatest : goal.returns-clause-greatest
returns-clause-greatest c latencies = le-greatest latencies

pub returns-clause-least_occurs : goal.returns-clause-least_occurs
returns-clause-least_occurs c latencies some = least-occurs latencies some

pub returns-clause-greatest_occurs : goal.returns-clause-greatest_occurs
returns-clause-greatest_occurs c latencies some = greatest-occurs latencies some
