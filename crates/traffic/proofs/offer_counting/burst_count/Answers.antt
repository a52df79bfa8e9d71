use Rattle.std.proofs.Common.{◌≡◌, ◌+◌, ap, sym, ◌∙◌, arith, nat_le}
use Rattle.traffic.specs.Counting.{come_count}
use Rattle.traffic.specs.Offers.{drawn_at, drawn_by, due_count, due_of}
use Rattle.traffic.proofs.BurstLemmas.{sum_more}
use Rattle.traffic.proofs.CountingLemmas.{count_more, count_sure, generator_at-jumped, one-at-most}
use Rattle.traffic.proofs.DrawingLemmas as drawing
use Rattle.traffic.proofs.offer_counting.burst_count.Goals as goal

pub loop-k-init : goal.loop-k-init
loop-k-init c = record {
  count_is = sym (count_sure c.args.seed c.args.last c.args.stream.now c.sure_count-sure.result (λ k lt. c.sure_count-sure.ensures.sure c.args.seed k lt));
  words = c.advance.ensures ∙ rw (c.new-words.ensures, c.from.ensures) (generator_at-jumped c.args.seed c.args.stream.now.number c.sure_count-sure.result);
  before = c.sure_count-sure.ensures.sum c.args.seed;
  most = omega arith;
  few = omega arith;
}

pub loop-k-preserved : goal.loop-k-preserved
loop-k-preserved c =
    let seed = c.args.seed in
    let s = c.args.stream.now in
    let last = c.args.last in
    let k = c.loop-k.k in
    let before = c.loop-k.invariant.before in
    let drawn = drawing.drawn_at seed s.number k _ _ _ c.loop-k.invariant.words c.next_word.ensures in
    let drawn_is : c.drawn-drawn.result ≡ drawn_at seed s k = c.drawn-drawn.ensures ∙ ap (drawn_by s.stream) drawn.0 in
    let more = count_more seed last s k c.loop-k.before c.drawn-drawn.result c.late-late.result c.requires.last before drawn_is c.late-late.ensures in
    let added = c.counted-count.ensures in
    record {
      count_is = omega (arith, more, c.loop-k.invariant.count_is, added);
      words = drawn.1;
      before = sum_more seed s k c.loop-k.before c.drawn-drawn.result c.min-before.result before drawn_is c.min-before.ensures;
      most = (let least = c.min-before.ensures in omega arith);
      few = (let least = one-at-most (nat_le (due_of s.stream k + c.late-late.result) last) in omega (arith, c.loop-k.invariant.few, added, least));
    }

pub returns : goal.returns
returns c =
    let upto = c.loop-k.auto.k-end in
    let done = c.loop-k-test.false in
    let count = c.due_count-k-end.ensures.value in
    let all : c.loop-k.k ≡ due_count c.args.last c.args.stream.now.stream = omega arith in
    record {
      value = c.loop-k.invariant.count_is ∙ ap (come_count c.args.seed c.args.last c.args.stream.now) all;
      few = omega (arith, c.loop-k.invariant.few, all);
    }
