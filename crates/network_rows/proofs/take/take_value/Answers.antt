use Rattle.network_rows.specs.Keys.{key_text}
use Rattle.network_rows.proofs.take.take_value.Goals as goal

pub returns-clause-value : goal.returns-clause-value
returns-clause-value c = rw (← c.text.ensures) c.take.ensures.value

pub returns-clause-others : goal.returns-clause-others
returns-clause-others c = λ other apart. c.take.ensures.others (key_text other) (rw c.text.ensures apart)
