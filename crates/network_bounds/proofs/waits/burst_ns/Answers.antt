use Rattle.std.proofs.Common.{arith}
use Rattle.std.proofs.lemmas.Nat.{mul-le}
use Rattle.network_bounds.proofs.waits.burst_ns.Goals as goal

-- 64 frames at most, of 128 ms
pub overflow_mul-result : goal.overflow_mul-result
overflow_mul-result c =
    let most = mul-le c.from.result c.bag_ns.result 64 128000000 (omega (arith, c.from.ensures, c.requires.own.greatest_frames)) (omega (arith, c.bag_ns.ensures, c.requires.greatest_bag)) in
    omega (arith, most)

pub returns-clause-within : goal.returns-clause-within
returns-clause-within c =
    let most = mul-le c.from.result c.bag_ns.result 64 128000000 (omega (arith, c.from.ensures, c.requires.own.greatest_frames)) (omega (arith, c.bag_ns.ensures, c.requires.greatest_bag)) in
    omega (arith, most)
