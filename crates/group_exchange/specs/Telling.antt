-- The steps that an addition to a journal represents.
use Rattle.std.specs.Prelude.{List, [], ◌∷◌, map}
use Rattle.virtual_time.specs.Law.{behind}
use Rattle.virtual_time.specs.declared.step.Step.{Step}
use Rattle.virtual_time.specs.declared.step.Step.TheVariants.{Take, Gvt}
use Rattle.group_queues.specs.Block.{steps_told}
use Rattle.group_boxes.specs.Boxing.{box_of, waiting_for}
use Rattle.group_exchange.specs.declared.addition.Addition.{Addition}
use Rattle.group_exchange.specs.declared.addition.Addition.TheVariants.{Collected, Posted, Published}

-- each letter was taken by its receiver, the first of its mail; a group did its words, each Take behind the letters on their way; or GVT was set
abbrev pub steps_by : Addition → List Step
steps_by (Collected group boxes) = map (λ l. Take l.message.receiver 0) (box_of boxes.value.boxes group)
steps_by (Posted words boxes) = map (behind (waiting_for boxes.value)) (steps_told words.value.words)
steps_by Published = Gvt ∷ []
