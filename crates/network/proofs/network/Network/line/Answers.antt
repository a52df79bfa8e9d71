use Rattle.std.proofs.Common.{◌≡◌, ◌<◌, length, Some, ap, sym, ◌∙◌, subst, arith, slice_get}
use Rattle.std.proofs.lemmas.Option.{slice_get_read}
use Rattle.network.specs.Words.{lines_of, IsAccepted}
use Rattle.network.proofs.BuildLemmas.{line-read}
use Rattle.network.proofs.PortLemmas.{line-within}
use Rattle.network.proofs.network.Network.line.Goals as goal

pub returns : goal.returns
returns c =
    let lines = c.self.inside.tables.lines in
    let plan = c.args.self.now in
    let line = c.index.result.now in
    let same : lines.items ≡ lines_of plan = c.self.invariant.1.lines ∙ ap lines_of c.self.view_is in
    let lt : c.args.line < lines.len = omega (arith, ap length same, lines.ok.0) in
    let read : slice_get (lines_of plan) c.args.line ≡ Some line =
    ap (λ xs. slice_get xs c.args.line) (sym same) ∙ slice_get_read lines.items lines.len c.args.line line lines.ok.0 lt c.index.ensures in
    let accepted = subst IsAccepted c.self.view_is c.self.invariant.0 in
    let nodes = line-read plan c.args.line line accepted read in
    let within = line-within plan c.args.line line accepted read in
    record {
      value = read;
      from = nodes.0;
      to = nodes.1;
      from_port = within.from_port;
      to_port = within.to_port;
      byte = within.times.byte;
      greatest_byte = within.times.greatest_byte;
      propagation = within.times.propagation;
      greatest_propagation = within.times.greatest_propagation;
    }
