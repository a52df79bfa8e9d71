use Rattle.std.proofs.Common.{◌≡◌, None, length, take, get_or, arith, ap, ◌∙◌, take_all}
use Rattle.std.proofs.lemmas.List.FromFn.{fill_by_all}
use Rattle.network.specs.Words.{lines_of}
use Rattle.nodes.specs.Words.{line_ahead_among, lines_ahead_of}
use Rattle.nodes.proofs.LineAheadLemmas.{line_ahead_among-more}
use Rattle.nodes.proofs.opening.wiring.lines_ahead_of.Goals as goal

pub loop-k-preserved : goal.loop-k-preserved
loop-k-preserved c =
    let plan = c.args.network.now in
    let k = c.loop-k.k in
    let before = c.loop-k.invariant in
    record {
      len = c.note_line.ensures.len ∙ before.len;
      stored = λ q h. line_ahead_among-more c.args.node q (length plan.nodes) k c.process_of.result (lines_of plan) c.line-line.result (get_or c.loop-k.lines_ahead.items q None) (get_or c.note_line.new.lines_ahead.items q None)
          c.line-line.ensures.value c.process_of.ensures (before.stored q h) (c.note_line.ensures.stored q (omega (arith, before.len)));
    }

pub returns : goal.returns
unfolding lines_ahead_of
returns c =
    let plan = c.args.network.now in
    let n = c.args.node in
    let stored = c.loop-k.invariant.stored in
    let all : take c.loop-k.k (lines_of plan) ≡ lines_of plan = take_all c.loop-k.k (lines_of plan) (omega (arith, c.line_count-k-end.ensures.value)) in
    fill_by_all (λ q. line_ahead_among n q (length plan.nodes) (lines_of plan)) c.loop-k.lines_ahead.items c.args.count None (omega (arith, c.loop-k.lines_ahead.ok.0, c.loop-k.invariant.len))
    (λ q h. stored q h ∙ ap (line_ahead_among n q (length plan.nodes)) all)
