use Rattle.virtual_time.proofs.headline_law.Goals as goal
use Rattle.virtual_time.proofs.Safety.{ascend, committed_early, floors, gvt_low, outboxes, rows, once, handled_once, never_undone, safe, counts, seen, rises, whole, stays}
use Rattle.virtual_time.specs.Law.{start}
use Rattle.virtual_time.proofs.Own.{run-own}

pub returns-clause-safe : goal.returns-clause-safe
returns-clause-safe g c f L xs = safe f L xs

pub returns-clause-counts : goal.returns-clause-counts
returns-clause-counts g c f L xs m = counts f L xs m

pub returns-clause-rises : goal.returns-clause-rises
returns-clause-rises g c f L xs ys = rises f L xs ys

pub returns-clause-whole : goal.returns-clause-whole
returns-clause-whole g c f L xs h = whole f L xs h

pub returns-clause-stays : goal.returns-clause-stays
returns-clause-stays g c f x w e = stays f x w e

pub returns-clause-alone : goal.returns-clause-alone
returns-clause-alone g c f xs p = run-own f p xs (start f)

pub returns-clause-seen : goal.returns-clause-seen
returns-clause-seen g c f L xs g' h p = seen f L xs g' h p

pub returns-clause-once : goal.returns-clause-once
returns-clause-once g c f L xs m = once f L xs m

pub returns-clause-handled_once : goal.returns-clause-handled_once
returns-clause-handled_once g c f L xs p m = handled_once f L xs p m

pub returns-clause-never_undone : goal.returns-clause-never_undone
returns-clause-never_undone g c f L xs ys p = never_undone f L xs ys p

pub returns-clause-ascend : goal.returns-clause-ascend
returns-clause-ascend g c f L xs p = ascend f L xs p

pub returns-clause-committed_early : goal.returns-clause-committed_early
returns-clause-committed_early g c f L xs p m h = committed_early f L xs p m h

pub returns-clause-floors : goal.returns-clause-floors
returns-clause-floors g c f L xs p h = floors f L xs p h

pub returns-clause-gvt_low : goal.returns-clause-gvt_low
returns-clause-gvt_low g c f L xs p h = gvt_low f L xs p h

pub returns-clause-outboxes : goal.returns-clause-outboxes
returns-clause-outboxes g c f L xs p m h = outboxes f L xs p m h

pub returns-clause-rows : goal.returns-clause-rows
returns-clause-rows g c f L n p = rows f L n p
