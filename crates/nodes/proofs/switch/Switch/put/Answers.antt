use Rattle.std.proofs.Common.{◌≡◌, ap, ◌∙◌, sym, subst, option_map}
use Rattle.output_port.specs.declared.event.PortEvent.TheVariants.{Put}
use Rattle.output_port.specs.declared.event.PortRecord.TheVariants as saved
use Rattle.nodes.specs.rules.Ports.{port_change, port_kept}
use Rattle.nodes.specs.Words.{PortsState, SwitchState, put-kept, switch-port-last, IsLastOfSwitch}
use Rattle.nodes.proofs.switch.Switch.put.Goals as goal

-- the port keeps of the frame what it keeps of any event
pub returns-clause-last : goal.returns-clause-last
returns-clause-last c =
    let i = c.self.inside in
    let q = c.args.port in
    let frame = c.args.frame.now in
    let priority = c.in-Some.priority in
    let s : SwitchState = record { latency = i.latency_ns; transits = i.transits.items; ports = i.ports } in
    let change : c.of_put.result ≡ port_change q (port_kept q (Put frame priority) s.ports) =
    c.of_put.ensures
    ∙ ap (λ kept. port_change q (option_map (λ k. saved.Put k) kept)) c.put.ensures.kept
    ∙ ap (port_change q) (put-kept q frame priority s.ports) in
    subst (λ change. IsLastOfSwitch change (record s { ports = c.put.new.self })) (sym change)
    (subst (λ (ports : PortsState). IsLastOfSwitch (port_change q (port_kept q (Put frame priority) s.ports)) (record s { ports = ports })) (sym c.put.ensures.state)
    (switch-port-last s q (Put frame priority) c.put.ensures.valid))
