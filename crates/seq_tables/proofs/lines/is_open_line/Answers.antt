use Rattle.std.proofs.Common.{◌≡◌, [], ◌-◌, ◌+◌, ◌<◌, ◌≤◌, length, arith}
use Rattle.actor_run.proofs.Passing.{item-there}
use Rattle.network.specs.Words.{lines_of}
use Rattle.network.proofs.BuildLemmas.{length-lines}
use Rattle.seq_tables.proofs.lines.is_open_line.Goals as goal

pub returns : goal.returns
returns c = λ e.
    let plan = c.args.network.now in
    let k = c.from-2.result - c.node_count-nodes.result in
    let behind : length plan.nodes ≤ c.args.process = omega arith in
    let place : c.args.process ≡ length plan.nodes + k = omega arith in
    let inside : k < length (lines_of plan) = (let a = c.requires in let b = length-lines plan.nodes [] plan.links in omega arith) in
    let at = item-there (lines_of plan) k inside in
    record {
      k = k;
      line = at.0;
      read = at.1;
      process = place;
      is_open = c.has_no_outages.ensures e;
    }
