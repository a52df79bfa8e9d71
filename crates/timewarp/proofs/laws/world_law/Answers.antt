use Rattle.timewarp.proofs.laws.world_law.Goals as goal

pub returns-clause-counts : goal.returns-clause-counts
returns-clause-counts c steps m = c.headline_law.ensures.counts _ c.network_law.ensures steps m

pub returns-clause-once : goal.returns-clause-once
returns-clause-once c steps m = c.headline_law.ensures.once _ c.network_law.ensures steps m

pub returns-clause-seen : goal.returns-clause-seen
returns-clause-seen c steps g h p = c.headline_law.ensures.seen _ c.network_law.ensures steps g h p

pub returns-clause-ascend : goal.returns-clause-ascend
returns-clause-ascend c steps p = c.headline_law.ensures.ascend _ c.network_law.ensures steps p

pub returns-clause-committed_early : goal.returns-clause-committed_early
returns-clause-committed_early c steps p m h = c.headline_law.ensures.committed_early _ c.network_law.ensures steps p m h

pub returns-clause-floors : goal.returns-clause-floors
returns-clause-floors c steps p h = c.headline_law.ensures.floors _ c.network_law.ensures steps p h

pub returns-clause-gvt_low : goal.returns-clause-gvt_low
returns-clause-gvt_low c steps p h = c.headline_law.ensures.gvt_low _ c.network_law.ensures steps p h

pub returns-clause-outboxes : goal.returns-clause-outboxes
returns-clause-outboxes c steps p m h = c.headline_law.ensures.outboxes _ c.network_law.ensures steps p m h

pub returns-clause-rows : goal.returns-clause-rows
returns-clause-rows c event_count p = c.headline_law.ensures.rows _ c.network_law.ensures event_count p
