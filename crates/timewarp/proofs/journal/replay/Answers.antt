use Rattle.std.proofs.Common.{◌≡◌, Err, take, subst}
use Rattle.std.proofs.lemmas.Result.{err_from_is_err_and}
use Rattle.network.specs.Words.{Plan}
use Rattle.nodes.specs.Words.{simulation_of}
use Rattle.actor_world.specs.declared.fault.StepFault.TheVariants.{Exhausted}
use Rattle.actor_world.specs.Worlds.{IsExhausted}
use Rattle.seqsim.specs.Committed.{after}
use Rattle.timewarp.proofs.Beginnings.{beginnings-rise, beginnings-stay}
use Rattle.timewarp.proofs.journal.replay.Goals as goal

pub returns-in_err-replay-clause-rises : goal.returns-in_err-replay-clause-rises
returns-in_err-replay-clause-rises c = beginnings-rise c.args.network c.world_law.ensures.rises c.args.steps.now

pub returns-in_err-replay-clause-never_undone : goal.returns-in_err-replay-clause-never_undone
returns-in_err-replay-clause-never_undone c = beginnings-stay c.args.network c.world_law.ensures.never_undone c.args.steps.now

pub returns-in_err-do_all-clause-rises : goal.returns-in_err-do_all-clause-rises
returns-in_err-do_all-clause-rises c = beginnings-rise c.args.network c.world_law.ensures.rises c.args.steps.now

pub returns-in_err-do_all-clause-never_undone : goal.returns-in_err-do_all-clause-never_undone
returns-in_err-do_all-clause-never_undone c = beginnings-stay c.args.network c.world_law.ensures.never_undone c.args.steps.now

pub returns-clause-rises : goal.returns-clause-rises
returns-clause-rises c = beginnings-rise c.args.network c.world_law.ensures.rises c.args.steps.now

pub returns-clause-never_undone : goal.returns-clause-never_undone
returns-clause-never_undone c = beginnings-stay c.args.network c.world_law.ensures.never_undone c.args.steps.now

pub returns-in_err-do_all-clause-exhausted : goal.returns-in_err-do_all-clause-exhausted
returns-in_err-do_all-clause-exhausted c = λ e.
    let p = err_from_is_err_and c.from_residual-in_err-do_all.result c.from_residual-in_err-do_all.ensures.1 in
    let q : p.0 ≡ c.in_err-do_all.field-0.0 = p.2 in
    let w : c.do_all.result ≡ Err c.in_err-do_all.field-0.0 = c.in_err-do_all.was in
    let k : c.do_all.result ≡ Err Exhausted = cc in
    let (n, x, stands, met) = c.do_all.ensures.exhausted k in (
      n,
      x,
      stands.there,
      subst (λ (plan : Plan). IsExhausted (simulation_of plan) x (after plan (take n c.args.steps.now))) c.in_ok-replay.ensures.network met,
    )

pub returns-in_err-replay-clause-safe : goal.returns-in_err-replay-clause-safe
returns-in_err-replay-clause-safe c = λ n. c.world_law.ensures.safe (take n c.args.steps.now)

pub returns-in_err-replay-clause-whole : goal.returns-in_err-replay-clause-whole
returns-in_err-replay-clause-whole c = λ n. c.world_law.ensures.whole (take n c.args.steps.now)

pub returns-in_err-replay-clause-balances : goal.returns-in_err-replay-clause-balances
returns-in_err-replay-clause-balances c = λ n. c.world_law.ensures.counts (take n c.args.steps.now)

pub returns-in_err-do_all-clause-safe : goal.returns-in_err-do_all-clause-safe
returns-in_err-do_all-clause-safe c = λ n. c.world_law.ensures.safe (take n c.args.steps.now)

pub returns-in_err-do_all-clause-whole : goal.returns-in_err-do_all-clause-whole
returns-in_err-do_all-clause-whole c = λ n. c.world_law.ensures.whole (take n c.args.steps.now)

pub returns-in_err-do_all-clause-balances : goal.returns-in_err-do_all-clause-balances
returns-in_err-do_all-clause-balances c = λ n. c.world_law.ensures.counts (take n c.args.steps.now)

pub returns-clause-safe : goal.returns-clause-safe
returns-clause-safe c = λ n. c.world_law.ensures.safe (take n c.args.steps.now)

pub returns-clause-whole : goal.returns-clause-whole
returns-clause-whole c = λ n. c.world_law.ensures.whole (take n c.args.steps.now)

pub returns-clause-balances : goal.returns-clause-balances
returns-clause-balances c = λ n. c.world_law.ensures.counts (take n c.args.steps.now)
