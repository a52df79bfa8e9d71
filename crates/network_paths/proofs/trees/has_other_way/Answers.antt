use Rattle.std.proofs.Common.{◌≡◌, ◌<◌, ◌==◌, length, take, sym, subst, arith, take_all}
use Rattle.std.proofs.lemmas.List.{take_more}
use Rattle.std.specs.HashMap.{get}
use Rattle.network_paths.specs.Findings.{AreWays}
use Rattle.network_paths.proofs.WayLemmas.{no-other-way, other-way-at, no_hop}
use Rattle.network_paths.proofs.trees.has_other_way.Goals as goal

pub returns-then-branch : goal.returns-then-branch
returns-then-branch c =
    let hops = c.args.hops.now in
    let i = c.loop-hop.hop-index in
    let lt : i < length hops = omega arith in
    let found = rw c.if-branch.true at (c.in_ok-is_other_way.ensures (take i hops) c.loop-hop.invariant) in
    sym (other-way-at hops i no_hop found.0 lt found.1 found.2)

pub loop-hop-preserved : goal.loop-hop-preserved
loop-hop-preserved c =
    let hops = c.args.hops.now in
    let i = c.loop-hop.hop-index in
    let lt : i < length hops = omega arith in
    let found = rw c.if-branch.false at (c.in_ok-is_other_way.ensures (take i hops) c.loop-hop.invariant) in
    subst (AreWays c.is_other_way.new.ways) (sym (take_more hops i no_hop lt)) found

pub returns : goal.returns
returns c =
    let hops = c.args.hops.now in
    let all : take c.loop-hop.hop-index hops ≡ hops = take_all c.loop-hop.hop-index hops (omega arith) in
    sym (no-other-way (get (λ x y. x == y) c.loop-hop.ways) hops (subst (AreWays c.loop-hop.ways) all c.loop-hop.invariant))
