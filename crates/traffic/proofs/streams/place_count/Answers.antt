use Rattle.std.proofs.Common.{length, ap, arith}
use Rattle.traffic.proofs.IdLemmas.{few-vls}
use Rattle.traffic.proofs.streams.place_count.Goals as goal

pub overflow_add-result : goal.overflow_add-result
overflow_add-result c = omega (arith, few-vls c.args.network.now c.accepted_law.ensures, c.vl_count.ensures.value, c.streams-rows.ensures.few, ap length c.streams-rows.ensures.value)

pub returns-clause-few : goal.returns-clause-few
returns-clause-few c = omega (arith, few-vls c.args.network.now c.accepted_law.ensures, c.vl_count.ensures.value, c.streams-rows.ensures.few, ap length c.streams-rows.ensures.value)
