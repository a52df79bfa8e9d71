use Rattle.std.proofs.Common.{◌≡◌, ◌-◌, length, map}
use Rattle.vlink.specs.Order.{message_order}
use Rattle.virtual_time.specs.Law.{before}
use Rattle.process_queues.proofs.Before.{firsts}
use Rattle.process_queues.proofs.late.done_before.Given as goal

abbrev pub invariant-loop-late : goal.invariant-loop-late
invariant-loop-late g l =
    length (before message_order l.message (map (λ e. e.message) l.done.items))
    ≡ length (before message_order l.message (firsts (l.events - l.late) l.done.items))
