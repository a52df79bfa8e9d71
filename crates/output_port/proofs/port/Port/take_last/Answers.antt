use Rattle.std.proofs.Common.{sym}
use Rattle.frame_ring.proofs.Popping.{without_last-popped}
use Rattle.output_port.proofs.port.Port.take_last.Goals as goal

pub returns-in-High : goal.returns-in-High
returns-in-High c =
    let e = c.pop_back-last.ensures in
    let left = without_last-popped c.self.inside.high.frames c.pop_back-last.new.self.frames c.pop_back-last.result e.empty e.last e.none in
    rw (c.in-High.is, sym c.self.view_is) (λ i. record { busy = c.self.inside.busy; high = left i; low = c.self.inside.low.frames; bytes = c.self.inside.port_bytes })

pub returns-in-Low : goal.returns-in-Low
returns-in-Low c =
    let e = c.pop_back-last-in-Low.ensures in
    let left = without_last-popped c.self.inside.low.frames c.pop_back-last-in-Low.new.self.frames c.pop_back-last-in-Low.result e.empty e.last e.none in
    rw (c.in-Low.is, sym c.self.view_is) (λ i. record { busy = c.self.inside.busy; high = c.self.inside.high.frames; low = left i; bytes = c.self.inside.port_bytes })
