-- The refusals of a process, as those of a step.
use Rattle.process_queues.specs.declared.fault.ProcFault.{ProcFault}
use Rattle.process_queues.specs.declared.fault.ProcFault.TheVariants as process
use Rattle.actor_world.specs.declared.fault.StepFault.{StepFault}
use Rattle.actor_world.specs.declared.fault.StepFault.TheVariants.{OutOfMemory, Exhausted}

abbrev pub fault_of : ProcFault → StepFault
fault_of process.OutOfMemory = OutOfMemory
fault_of process.Exhausted = Exhausted
