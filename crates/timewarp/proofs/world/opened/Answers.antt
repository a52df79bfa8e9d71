use Rattle.std.proofs.Common.{◌≡◌, ◌∙◌, ℕ, List, [], Result, Ok, Err, IfOk, sym}
use Rattle.vlink.specs.declared.message.Message.{Message}
use Rattle.virtual_time.specs.Law.{run, start}
use Rattle.reverse.specs.Setting as setting
use Rattle.reverse.specs.Setting.{Setting, Opens}
use Rattle.network.specs.Words.{Plan}
use Rattle.nodes.specs.declared.node.NodeRecord.{NodeRecord}
use Rattle.nodes.specs.Words.{NodeState, IsNodeValue, simulation_of}
use Rattle.seqsim.specs.Networks.{setting_of}
use Rattle.actor_world.specs.declared.fault.StepFault.{StepFault}
use Rattle.actor_world.specs.Worlds.{Holdings, StandsForWorld}
use Rattle.timewarp.specs.Networks.{IsAfter}
use Rattle.timewarp.proofs.NetworkWorlds.{world}
use Rattle.timewarp.proofs.world.opened.Goals as goal

-- what stands for the start of each setting with these nodes and offers is the world after no steps
at-start : (plan : Plan) (made : List NodeState) (sent : List Message) (until : ℕ) → Opens (setting_of plan) made sent → (setting_of plan).until ≡ until → (answer : Result (Holdings NodeState NodeRecord) StepFault) →
    IfOk answer (λ held. (x : Setting NodeState) → Opens x made sent → x.until ≡ until →
    StandsForWorld (setting.simulation_of (simulation_of plan).rules x) IsNodeValue (start (setting.simulation_of (simulation_of plan).rules x)) held) →
    IfOk answer (λ held. IsAfter (world plan held) [])
unfolding run
at-start plan made sent until opens e (Ok held) h = h (setting_of plan) opens e
at-start plan made sent until opens e (Err fault) h = tt

pub returns-clause-opens : goal.returns-clause-opens
returns-clause-opens c =
    at-start c.args.network.now _ _ _ (record { actors_open = c.in_ok-nodes.ensures; offered = c.deref.ensures.value ∙ c.in_ok-offers.ensures }) (sym c.until.ensures.value)
    c.new.result c.new.ensures.opens
