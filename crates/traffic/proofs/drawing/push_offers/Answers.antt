use Rattle.std.proofs.Common.{◌≡◌, ◌++◌, ◌+◌, ◌*◌, ◌≤◌, inl, inr, map, append-nil, sym, ap, ◌∙◌, arith, refl}
use Rattle.std.proofs.lemmas.Bool.{cases_lt, false≢true}
use Rattle.std.specs.List.{range_with_len}
use Rattle.vlink.specs.declared.time.TheConstants.{LATEST_NS}
use Rattle.traffic.proofs.DrawingLemmas as drawing
use Rattle.traffic.proofs.DrawingLemmas.{generator_at-first}
use Rattle.traffic.specs.Offers.{drawn_at, drawn_by, due_of, last_of, offer_by}
use Rattle.traffic.proofs.BurstLemmas.{burst_came, burst_given, burst_late, sum-none, sum_more}
use Rattle.traffic.proofs.drawing.push_offers.Goals.{in-Some+in_ok-push_burst, in_default}
use Rattle.traffic.proofs.drawing.push_offers.Goals as goal

pub loop-k-init : goal.loop-k-init
loop-k-init c = record {
  pushed = let none : 0 * c.args.stream.now.stream.frames ≡ 0 = omega arith in rw none (sym (append-nil _));
  words = c.new-words.ensures ∙ rw c.from.ensures (sym (generator_at-first c.args.seed c.args.stream.now.number));
  before = sum-none c.args.stream.now.stream.timing;
  most = omega arith;
}

pub loop-k-preserved : goal.loop-k-preserved
loop-k-preserved c =
    let seed = c.args.seed in
    let s = c.args.stream.now in
    let k = c.loop-k.k in
    let late = c.late-late.result in
    let last = last_of c.args.until s.stream in
    let ends = c.last-last.ensures in
    let within : last ≤ LATEST_NS = (let until = c.requires.until in omega arith) in
    let drawn = drawing.drawn_at seed s.number k _ _ _ c.loop-k.invariant.words c.next_word.ensures in
    let drawn_is : c.drawn-drawn.result ≡ drawn_at seed s k = c.drawn-drawn.ensures ∙ ap (drawn_by s.stream) drawn.0 in
    let so_far = c.loop-k.offers.items in
    let given = burst_given seed last s k c.loop-k.before c.drawn-drawn.result late c.args.offers.now.items so_far c.match-moment.offers.items within c.loop-k.invariant.before drawn_is c.late-late.ensures c.loop-k.invariant.pushed in
    record {
      pushed = elim c.match-moment.branch [
        | in-Some+in_ok-push_burst w ↦ (
            let time : w.in-Some.time ≡ due_of s.stream k + late = w.in-Some.ensures.value in
            let comes = w.in-Some.ensures.within.0 refl in
            let pushed : w.push_burst.new.offers.items ≡ so_far ++ map (λ n. offer_by s n late) (range_with_len (k * s.stream.frames) s.stream.frames) = w.in_ok-push_burst.ensures late time in
            let same = w.offers-is in
            given (burst_came last s k late so_far c.match-moment.offers.items (omega (arith, comes)) (let it = pushed in cc)))
        | in_default w ↦ (
            let none = w.in_default.ensures in
            let same = w.offers-is in
            given (burst_late last s k late so_far c.match-moment.offers.items
            (elim (cases_lt last (due_of s.stream k + late)) [ inl beyond ↦ beyond | inr comes ↦ absurd (false≢true (none.within.1 (omega (arith, comes, ends)))) ]) (let it = same in cc)))
      ];
      words = drawn.1;
      before = sum_more seed s k c.loop-k.before c.drawn-drawn.result c.min-before.result c.loop-k.invariant.before drawn_is c.min-before.ensures;
      most = (let least = c.min-before.ensures in omega arith);
    }
