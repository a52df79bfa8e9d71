use Rattle.std.proofs.Common.{refl, sym, ap, ◌∙◌, option_map, find}
use Rattle.virtual_time.specs.Law.{is_plus}
use Rattle.antimessages.proofs.First.{plus-head, minus-head}
use Rattle.antimessages.proofs.occurrences.first_plus.Goals as goal

pub loop-occurrence-init : goal.loop-occurrence-init
loop-occurrence-init c = refl

pub returns-in-Plus : goal.returns-in-Plus
returns-in-Plus c =
    plus-head (c.in-Some.occurrence.now, c.in-Some.sign.now) c.next.new.self c.loop-occurrence.rest c.in-Some.ensures.steps c.in-Plus.is ∙ c.loop-occurrence.invariant

pub loop-occurrence-preserved : goal.loop-occurrence-preserved
loop-occurrence-preserved c =
    minus-head (c.in-Some.occurrence.now, c.in-Some.sign.now) c.next.new.self c.loop-occurrence.rest c.in-Some.ensures.steps c.in-Minus.is ∙ c.loop-occurrence.invariant

pub returns : goal.returns
returns c =
    sym (ap (λ es. option_map (λ e. e.0.message) (find (λ e. is_plus e.1) es)) c.in_default.ensures.steps.0) ∙ c.loop-occurrence.invariant
