use Rattle.std.proofs.Common.{length, ap, arith}
use Rattle.actor_run.proofs.Errors.{on-ok}
use Rattle.turns.proofs.workers.fn.start_all.scope.Goals as goal

pub returns : goal.returns
returns g c =
    let started = c.start_each-start in
    record {
      told = record {
        start = started.result;
        threads = length started.new.handles.items;
        why = started.ensures.why;
        all = on-ok (λ all. let none = ap length c.new-handles.ensures.items in omega (arith, all, none)) started.result started.ensures.all;
        least = c.watch_all.ensures.told;
      };
      watched = c.watch_all.ensures.watched;
    }
