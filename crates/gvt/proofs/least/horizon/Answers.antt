use Rattle.std.proofs.Common.{◌≡◌, ◌+◌, ◌<◌, length, take, sym, ap, ◌∙◌, arith}
use Rattle.std.proofs.Math.Seq.{take-length}
use Rattle.virtual_time.specs.Law.{lowest, times_of}
use Rattle.vlink.specs.Order.{message_order}
use Rattle.antimessages.specs.Mailing.{letters_for}
use Rattle.gvt.specs.Horizon.{all_letters}
use Rattle.gvt.proofs.Lowest.{lowest-append, boxes-more}
use Rattle.gvt.proofs.least.horizon.Goals as goal

pub loop-process-preserved : goal.loop-process-preserved
loop-process-preserved c =
    let floors = c.args.floors.now in
    let mail = c.args.mail.now in
    let process = c.loop-process.process in
    let within : process < length mail = omega arith in
    let so_far = ap (λ h. lowest h (times_of message_order (letters_for process mail))) c.loop-process.invariant in
    let more = boxes-more (lowest (floors.until + 1) floors.floors) mail process within in
    omega arith

pub returns : goal.returns
returns c =
    let floors = c.args.floors.now in
    let mail = c.args.mail.now in
    let all : c.loop-process.process ≡ length mail = omega arith in
    c.loop-process.invariant
    ∙ (ap (λ boxes. lowest (lowest (floors.until + 1) floors.floors) (times_of message_order (all_letters boxes))) (ap (λ n. take n mail) all ∙ take-length mail)
    ∙ sym (lowest-append (floors.until + 1) floors.floors (times_of message_order (all_letters mail))))
