use Rattle.std.proofs.Common.{◌≡◌, ◌∙◌, Bool, true, false, not, refl, sym, subst}
use Rattle.commands.specs.MoreProgress.{one_line}
use Rattle.commands.specs.Progress.{HearsAsked, groups_text}
use Rattle.commands.proofs.progress.tell_groups.Goals as goal

-- what is not false is true
asked-for : (b : Bool) → not b ≡ false → b ≡ true
asked-for true p = refl
asked-for false p = sym p

pub returns : goal.returns
returns g c =
    let asked = asked-for c.args.asked.is_asked c.if-not-asked.false in
    subst (λ is_asked. HearsAsked g.E.Sink.taken g.E.Sink.failures is_asked (λ line. line ≡ groups_text c.args.groups c.args.workers) c.args.errors.now c.say.new.errors)
    (sym asked)
    (one_line g.E.Sink.taken g.E.Sink.failures (λ line. line ≡ groups_text c.args.groups c.args.workers) c.args.errors.now c.say.new.errors c.as_str.result.now
    c.say.ensures.failed (c.as_str.ensures.value ∙ c.in-Ok.ensures) c.say.ensures.took)
