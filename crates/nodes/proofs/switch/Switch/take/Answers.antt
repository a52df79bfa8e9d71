use Rattle.std.proofs.Common.{◌≡◌, Some, ap, ◌∙◌, sym, subst, slice_get, slice_set}
use Rattle.reverse.specs.Sending.{replied}
use Rattle.nodes.specs.rules.Switch.{taken_in, transit_change}
use Rattle.nodes.specs.Words.{SwitchState, entered, entered_reply, found-there, transit-last, transit_at, transit_number, IsLastOfSwitch}
use Rattle.nodes.proofs.NumberLemmas.{found-read}
use Rattle.nodes.proofs.switch.Switch.take.Goals as goal

found : (c : goal.After-of_transit) → transit_at c.args.self.now c.args.frame.now.vl ≡ Some (record { place = c.in-Some.place; entry = c.index_mut-transit.result.now })
found c =
    let transits = ap (λ (s : SwitchState). s.transits) c.self.view_is in
    found-read transit_number _ _ c.args.self.now.transits c.args.frame.now.vl.0 c.in-Some.place c.index_mut-transit.result.now (sym transits) transits c.in-Some.ensures.place c.index_mut-transit.ensures.value

pub returns-clause-state : goal.returns-clause-state
returns-clause-state c =
    let i = c.self.inside in
    let place = c.in-Some.place in
    let frame = c.args.frame.now in
    let transit = c.index_mut-transit.result.now in
    subst (λ (s : SwitchState).
    record { latency = i.latency_ns; transits = slice_set i.transits.items place c.enter.new.transit; ports = i.ports }
    ≡ record s { transits = slice_set s.transits place (entered c.args.at c.args.port frame transit) }) c.self.view_is
    (λ t. record { latency = i.latency_ns; transits = slice_set i.transits.items place (c.enter.ensures.transit t); ports = i.ports })
    ∙ ap (λ found. (taken_in c.args.out.now.sender.number c.args.at c.args.port frame c.args.self.now found).state) (sym (found c))

pub returns-clause-reply : goal.returns-clause-reply
returns-clause-reply c =
    let out = c.args.out.now in
    let number = out.sender.number in
    let frame = c.args.frame.now in
    let transit = c.index_mut-transit.result.now in
    subst (λ (s : SwitchState). c.enter.new.out ≡ replied out (entered_reply number c.args.at s.latency c.args.port frame transit)) c.self.view_is c.enter.ensures.reply
    ∙ ap (λ found. replied out (taken_in number c.args.at c.args.port frame c.args.self.now found).reply) (sym (found c))

pub returns-clause-change : goal.returns-clause-change
returns-clause-change c =
    c.of_transit.ensures ∙ ap (transit_change c.in-Some.place) c.enter.ensures.kept
    ∙ ap (λ found. (taken_in c.args.out.now.sender.number c.args.at c.args.port c.args.frame.now c.args.self.now found).change) (sym (found c))

pub returns-clause-last : goal.returns-clause-last
returns-clause-last c =
    let i = c.self.inside in
    let place = c.in-Some.place in
    let transit = c.index_mut-transit.result.now in
    let s : SwitchState = record { latency = i.latency_ns; transits = i.transits.items; ports = i.ports } in
    let there = subst (λ (s : SwitchState). slice_get s.transits place ≡ Some transit) (sym c.self.view_is) (found-there transit_number c.args.self.now.transits c.args.frame.now.vl.0 (record { place = place; entry = transit }) (found c)) in
    subst (λ change. IsLastOfSwitch change (record s { transits = slice_set s.transits place c.enter.new.transit })) (sym c.of_transit.ensures)
    (transit-last s place transit c.enter.new.transit c.enter.result there c.enter.ensures.last)
