use Rattle.network_tables.proofs.RouteLemmas.{input-faces, faces-input, output-faces, faces-output, arrival-faces, faces-arrival, departure-faces, faces-departure}
use Rattle.network_tables.proofs.SwitchLemmas.{one-input, from-network, to-network}
use Rattle.network_tables.proofs.RoutedLemmas.{routed, links}
use Rattle.network_tables.proofs.laws.port_law.Goals as goal

pub returns : goal.returns
returns c =
    let plan = c.args.network.now in
    let accepted = c.accepted_law.ensures in
    record {
      inputs = λ vl node port. (input-faces plan vl node port, faces-input plan vl node port (links plan accepted));
      outputs = λ vl node port. (output-faces plan vl node port, faces-output plan vl node port (links plan accepted));
      arrivals = λ node way. (arrival-faces plan node way, faces-arrival plan node way (links plan accepted));
      departures = λ node way. (departure-faces plan node way, faces-departure plan node way (links plan accepted));
      one_input = λ vl node there through. one-input plan vl node (links plan accepted) (routed plan accepted vl there) through;
      from_network = λ vl net node port other there end precedes faces. from-network plan vl net node port other (routed plan accepted vl there) (links plan accepted) end precedes faces;
      to_network = λ vl net node port other there end precedes faces. to-network plan vl net node port other (routed plan accepted vl there) (links plan accepted) end precedes faces;
    }
