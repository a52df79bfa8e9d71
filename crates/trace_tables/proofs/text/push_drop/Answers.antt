use Rattle.std.proofs.Common.{◌≡◌, ℕ, ◌<◌, Bool, true, cond, nat_lt, List, [], ap, sym, ◌∙◌, subst, OnOk, arith, ◌&&◌, lt-ltb}
use Rattle.trace_segments.specs.Words.{is_in_network, Adds}
use Rattle.trace_tables.specs.Text.{loss_line}
use Rattle.trace_tables.proofs.text.push_drop.Goals as goal

pub returns : goal.returns
returns c =
    let plan = c.args.network.now in
    let loss = c.args.loss.now in
    let known : is_in_network plan loss.vl.0 loss.place ≡ true = sym c.is_in_network.ensures ∙ c.if-not-is_in_network.false in
    let some : 0 < c.args.count = omega (arith, c.if-count-eq0.false) in
    let both : (is_in_network plan loss.vl.0 loss.place && nat_lt 0 c.args.count) ≡ true = ap (λ (b : Bool). b && nat_lt 0 c.args.count) known ∙ lt-ltb 0 c.args.count some in
    subst (λ (bytes : List ℕ). OnOk c.push_loss.result (Adds c.args.out.now c.push_loss.new.out bytes))
    (sym (ap (λ (b : Bool). cond b (loss_line plan loss c.args.count) []) both)) c.push_loss.ensures
