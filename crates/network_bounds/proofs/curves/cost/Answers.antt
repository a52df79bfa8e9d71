use Rattle.std.proofs.Common.{◌+◌, arith}
use Rattle.std.proofs.lemmas.Nat.{mul-le}
use Rattle.network_bounds.proofs.curves.cost.Goals as goal

-- 1518 bytes at most, and 16 bits
pub overflow_mul-result : goal.overflow_mul-result
overflow_mul-result c =
    let most = mul-le (c.from.result + 20) c.from-2.result 1538 65535 (omega (arith, c.from.ensures, c.bytes.ensures.value, c.bytes.ensures.greatest)) (omega (arith, c.from-2.ensures)) in
    omega (arith, most)
