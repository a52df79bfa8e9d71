use Rattle.std.proofs.Common.{arith}
use Rattle.virtual_time.specs.declared.moved.Move.TheVariants.{Arrived}
use Rattle.reverse.specs.Rules.{rules_of}
use Rattle.reverse.specs.Setting.{simulation_of}
use Rattle.process_exchange.proofs.Moves.{moved-more}
use Rattle.journal.proofs.Refused.{err-on-ok}
use Rattle.process_exchange.proofs.held.Held.arrive_all.Goals as goal

pub loop-arrived-preserved : goal.loop-arrived-preserved
loop-arrived-preserved g c =
    let f = simulation_of (rules_of g.R.Reversible.plain) g.J.ActorRun.setting in
    record {
      did = moved-more f c.loop-arrived.arrived Arrived c.args.self.now c.loop-arrived.self c.arrive.new.self c.loop-arrived.invariant.did c.in_ok-arrive.ensures.arrived;
      left = let a = c.in_ok-arrive.ensures.tray in let b = c.loop-arrived.invariant.left in omega arith;
    }

pub returns-in_err-arrive-clause-arrived : goal.returns-in_err-arrive-clause-arrived
returns-in_err-arrive-clause-arrived g c = err-on-ok _ _ c.from_residual.result c.from_residual.ensures.1
