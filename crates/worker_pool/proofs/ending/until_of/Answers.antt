use Rattle.std.proofs.Common.{◌∙◌, ap, subst}
use Rattle.virtual_time.specs.Law.{Laws}
use Rattle.network.specs.Words.{Plan}
use Rattle.nodes.specs.Words.{simulation_of}
use Rattle.worker_pool.proofs.ending.until_of.Goals as goal

pub returns-clause-laws : goal.returns-clause-laws
returns-clause-laws g c = subst (λ (plan : Plan). Laws (simulation_of plan)) c.requires c.network_law.ensures

pub returns-clause-until : goal.returns-clause-until
returns-clause-until g c = c.until.ensures.value ∙ ap (λ (z : Plan). z.until) c.requires
