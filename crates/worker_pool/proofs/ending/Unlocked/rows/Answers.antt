use Rattle.std.proofs.Common.{◌≡◌, List, subst}
use Rattle.vlink.specs.declared.message.Message.{Message}
use Rattle.vlink.specs.Letters.{Row}
use Rattle.virtual_time.specs.Law.{IsFinished}
use Rattle.virtual_time.specs.declared.step.Step.{Step}
use Rattle.network.specs.Words.{Plan}
use Rattle.nodes.specs.Words.{simulation_of}
use Rattle.trace_segments.specs.Words.{AreInMessageOrder, rows_of_event}
use Rattle.seqsim.specs.Committed.{after, AreCommittedRows}
use Rattle.seqsim.specs.Networks.{AreRowsOf}
use Rattle.worker_pool.proofs.ending.Unlocked.rows.Goals as goal

-- committed rows of a finished world, in message order, are those of the one-thread run
abbrev AreOrdered : Plan → Type 0
AreOrdered plan =
    (steps : List Step) → IsFinished (simulation_of plan) (after plan steps) → (rows ordered : List Row) → AreCommittedRows plan steps rows →
    AreInMessageOrder ordered → ((m : Message) → rows_of_event m ordered ≡ rows_of_event m rows) → AreRowsOf plan ordered

pub returns : goal.returns
returns g c =
    subst AreOrdered c.args.self.now.planned c.rows_by_process_law.ensures.finished c.args.self.now.exchange.steps c.requires.ended.finished
    _ _ c.in_ok-rows.ensures c.in_ok-put_in_message_order.ensures.ascending c.put_in_message_order.ensures.each_event
