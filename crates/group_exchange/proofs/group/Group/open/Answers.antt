use Rattle.std.proofs.Common.{length, IsPermutation, refl, sym, ap, ◌∙◌, subst}
use Rattle.reverse.specs.Rules.{rules_of}
use Rattle.group_hand.specs.Hands.{HasDoneNothing}
use Rattle.group_exchange.specs.Opening.{AreMembersOf}
use Rattle.group_exchange.proofs.Opened.{holds-opened, nothing-done}
use Rattle.group_exchange.proofs.Parting.{members-ours, members-state}
use Rattle.group_exchange.proofs.RowsKept.{rows-opened}
use Rattle.group_exchange.proofs.group.Group.open.Given.{Over}
use Rattle.group_exchange.proofs.group.Group.open.Goals.{In-Ok}
use Rattle.group_exchange.proofs.group.Group.open.Goals as goal

members : (g : Over) (c : In-Ok g) → AreMembersOf g.J.GroupRun.setting g.J.GroupRun.owners c.args.number c.in-Ok.hand.members
members g c = subst (AreMembersOf g.J.GroupRun.setting g.J.GroupRun.owners c.args.number) (sym c.in-Ok.ensures.members) c.requires.members

nothing : (g : Over) (c : In-Ok g) → HasDoneNothing c.in-Ok.hand
nothing g c =
    let told = c.in-Ok.ensures in
    let queue = subst (λ qs. IsPermutation qs c.in-Ok.hand.flow.queue) c.new.ensures.items told.queue in
    nothing-done c.in-Ok.hand told.done told.rows queue told.extra told.tray told.abroad

pub invariant_of-result : goal.invariant_of-result
invariant_of-result g c =
    let x = g.J.GroupRun.setting in
    let owners = g.J.GroupRun.owners in
    let hand = c.in-Ok.hand in
    let told = c.in-Ok.ensures in
    let each = c.requires.grouped.each in
    let here = (goal.at.invariant_of-result g c).In-Ok in
    let its = members g here in (
      holds-opened c.requires.layout c.requires.grouped (c.actor_law.ensures x c.requires.layout) c.args.number c.requires.within hand
          (members-ours x owners each c.args.number hand.members its) told.words its.count (members-state x owners each c.args.number hand.members its)
          (λ v opened. c.hand_law.ensures.opens hand (nothing g here) x v opened) _ c.requires.blank.0 _ c.requires.blank.2,
      record { name = c.requires.name; value = c.requires.told },
      told.keeps ∙ c.requires.keeps,
      c.requires.blank.1 ∙ sym (ap length c.requires.blank.0),
      c.requires.end,
      rows-opened (rules_of g.R.Reversible.plain) owners c.args.number c.args.standing.seen c.default.result hand told.rows told.done,
    )

pub returns-in-Ok-clause-opened : goal.returns-in-Ok-clause-opened
returns-in-Ok-clause-opened g c =
    let here = (goal.at.returns-in-Ok-clause-opened g c).In-Ok in
    record {
      number = refl;
      members = members g here;
      nothing = nothing g here;
      words = c.in-Ok.ensures.words;
      last = c.requires.blank.0;
      seen = c.requires.blank.2;
      gone = c.default.ensures;
    }
