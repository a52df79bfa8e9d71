use Rattle.std.proofs.Common.{[], refl, ap, ◌∙◌, rules}
use Rattle.reverse.specs.Rules.{rules_of}
use Rattle.group_hand.proofs.Adding.{adds-both, adds-none}
use Rattle.group_hand.proofs.Still.{still}
use Rattle.group_hand.proofs.Telling.{does-nothing, does-both}
use Rattle.group_hand.proofs.hand.Hand.arrive_all.Goals as goal

pub letters-init : goal.letters-init
letters-init g c = (does-nothing (rules_of g.R.Reversible.plain) g.R.Reversible.is_value c.args.self.now [], adds-none _ _ refl)

pub returns-in_err-arrive_front-clause-did : goal.returns-in_err-arrive_front-clause-did
returns-in_err-arrive_front-clause-did g c =
    does-both (rules_of g.R.Reversible.plain) g.R.Reversible.is_value c.args.self.now c.letters.self c.arrive_front.new.self [] [] [] c.letters.invariant.0 c.arrive_front.ensures.did

pub letters-preserved : goal.letters-preserved
letters-preserved g c = (
  does-both (rules_of g.R.Reversible.plain) g.R.Reversible.is_value c.args.self.now c.letters.self c.arrive_front.new.self [] [] [] c.letters.invariant.0 c.arrive_front.ensures.did,
  adds-both _ _ _ c.letters.invariant.1 c.arrive_front.ensures.words,
)

pub returns-clause-did : goal.returns-clause-did
returns-clause-did g c =
    let r = rules_of g.R.Reversible.plain in
    let V = g.R.Reversible.is_value in
    does-both r V c.args.self.now c.arrive_front.new.self c.sort_many.new.self [] [] []
    (does-both r V c.args.self.now c.letters.self c.arrive_front.new.self [] [] [] c.letters.invariant.0 c.arrive_front.ensures.did)
    (still g.R.Reversible.plain V c.actor_rules_law.ensures.order c.actor_rules_law.ensures.undoes c.arrive_front.new.self c.sort_many.new.self c.sort_many.ensures)

pub returns-clause-quiet : goal.returns-clause-quiet
returns-clause-quiet g c = ap (λ h. h.flow.tray) c.sort_many.ensures ∙ c.arrive_front.ensures.quiet (search rules)

pub returns-in_err-arrive_front-clause-words : goal.returns-in_err-arrive_front-clause-words
returns-in_err-arrive_front-clause-words g c = adds-both _ _ _ c.letters.invariant.1 c.arrive_front.ensures.words

pub returns-clause-words : goal.returns-clause-words
returns-clause-words g c =
    adds-both c.args.self.now.flow.words c.arrive_front.new.self.flow.words c.sort_many.new.self.flow.words (adds-both _ _ _ c.letters.invariant.1 c.arrive_front.ensures.words)
    (adds-none _ _ (ap (λ h. h.flow.words) c.sort_many.ensures))
