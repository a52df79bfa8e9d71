use Rattle.std.proofs.Common.{◌≡◌, ◌<◌, ℕ, List}
use Rattle.vlink.specs.declared.time.TheConstants.{GREATEST_NS}
use Rattle.vlink.specs.Letters.{Row}
use Rattle.reverse.specs.Rules.{rules_of}
use Rattle.actor_run.specs.Load.{load}
use Rattle.actor_run.specs.RunningAhead.{OfEachOpened, StandsAhead, is_marked}
use Rattle.actor_run.proofs.Advancing.{HadRoom}
use Rattle.actor_run.specs.declared.watch.TheConstants.{EVENTS_PER_LOOK}
use Rattle.actor_run.proofs.ahead.handle_all_ahead.Given as goal

abbrev pub invariant-events : goal.invariant-events
invariant-events g l = record {
  stands : OfEachOpened (rules_of g.A.Reversible.plain) (is_marked l.ahead) l.initial.actors l.initial.waiting
      (λ f. (k : ℕ) × (later : List Row) × g.R.Recorder.has_taken l.recorder later × StandsAhead f (is_marked l.ahead) k l.actors l.waiting later × HadRoom f (is_marked l.ahead) k);
  purpose : g.R.Recorder.purpose l.recorder ≡ g.R.Recorder.purpose l.initial.recorder;
  unseen : l.unseen < EVENTS_PER_LOOK;
  watched : g.W.Watch.becomes l.initial.watch l.watch;
}

abbrev pub decreases-events : goal.decreases-events
decreases-events g l = load GREATEST_NS l.waiting
