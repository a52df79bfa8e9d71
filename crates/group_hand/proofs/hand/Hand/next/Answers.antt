use Rattle.std.proofs.Common.{refl, subst, ◌≡◌, [], false, All, Contains, IfSome, IfNone}
use Rattle.group_hand.proofs.Still.{as-roomy}
use Rattle.reverse.specs.Rules.{is_before}
use Rattle.group_hand.proofs.hand.Hand.next.Goals as goal

pub returns-clause-same : goal.returns-clause-same
returns-clause-same g c =
    as-roomy c.args.self.now c.self.inside.members.items c.self.inside.done.events c.self.inside.done.events c.self.inside.rows c.self.inside.letters c.first.new.self c.self.view_is refl c.first.ensures.unchanged

pub returns-clause-among : goal.returns-clause-among
returns-clause-among g c = subst (λ h. IfSome c.first.result (Contains h.flow.queue)) c.self.view_is c.first.ensures.among

pub returns-clause-first : goal.returns-clause-first
returns-clause-first g c = subst (λ h. IfSome c.first.result (λ m. All (λ x. is_before x m ≡ false) h.flow.queue)) c.self.view_is c.first.ensures.first

pub returns-clause-none : goal.returns-clause-none
returns-clause-none g c = subst (λ h. IfNone c.first.result (h.flow.queue ≡ [])) c.self.view_is c.first.ensures.none
