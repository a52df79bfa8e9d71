use Rattle.std.proofs.Common.{◌≡◌, ◌++◌, ◌*◌, map, ap, ◌∙◌, arith}
use Rattle.std.specs.List.{range_with_len}
use Rattle.traffic.specs.Offers.{offer_by}
use Rattle.traffic.proofs.BurstLemmas.{frame_more}
use Rattle.traffic.proofs.drawing.push_burst.Goals as goal

pub loop-i-preserved : goal.loop-i-preserved
loop-i-preserved c = λ late is.
    let appended = c.in_ok-push.ensures.items in
    let pushed = rw (c.from.ensures, c.from-in-loop-i.ensures) at appended in
    frame_more c.args.stream.now c.args.k c.loop-i.i late c.args.time c.sender.result c.size.result c.sub.result c.args.offers.now.items c.loop-i.offers.items c.push.new.self.items
    (let inside = c.loop-i-test.true in omega arith) is c.sender.ensures c.size.ensures c.sub.ensures (c.loop-i.invariant late is) pushed

pub returns : goal.returns
returns c = λ late is.
    let upto = c.loop-i.auto.i-end in
    let done = c.loop-i-test.false in
    let all : c.loop-i.i ≡ c.args.stream.now.stream.frames = omega arith in
    c.loop-i.invariant late is
    ∙ ap (λ n. c.args.offers.now.items ++ map (λ j. offer_by c.args.stream.now j late) (range_with_len (c.args.k * c.args.stream.now.stream.frames) n)) all
