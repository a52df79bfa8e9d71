use Rattle.std.proofs.Common.{◌≡◌, ℕ, ◌<◌, None, length, take, get_or, vec_len}
use Rattle.network.specs.Words.{lines_of}
use Rattle.nodes.specs.Words.{line_ahead_among}
use Rattle.nodes.proofs.opening.wiring.lines_ahead_of.Given as goal

abbrev pub invariant-loop-k : goal.invariant-loop-k
invariant-loop-k l = record {
  len : vec_len l.lines_ahead ≡ l.count;
  stored : (q : ℕ) → q < l.count → get_or l.lines_ahead.items q None ≡ line_ahead_among l.node q (length l.network.nodes) (take l.k (lines_of l.network));
}
