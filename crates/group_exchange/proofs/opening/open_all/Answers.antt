use Rattle.std.proofs.Common.{◌<◌, All, length, map, slice_index, sym, ap, ◌∙◌, subst, arith}
use Rattle.std.proofs.lemmas.List.{length-map}
use Rattle.halves.specs.declared.LeftHalf.{LeftHalf}
use Rattle.halves.specs.declared.RightHalf.{RightHalf}
use Rattle.halves.proofs.InLists.{first-name, names-left, some-left}
use Rattle.journal.proofs.Refused.{err-if-ok}
use Rattle.group_exchange.specs.declared.mark.Standing.{Standing}
use Rattle.group_exchange.specs.Opening.{HasOpened}
use Rattle.group_exchange.specs.Views.{IsUnplaced}
use Rattle.group_exchange.proofs.Halves.{blanks-set}
use Rattle.group_exchange.proofs.Parting.{parted, pushed-each, still-there}
use Rattle.group_exchange.proofs.opening.open_all.Given.{Over}
use Rattle.group_exchange.proofs.opening.open_all.Goals.{After-tell_both, In_ok-members}
use Rattle.group_exchange.proofs.opening.open_all.Goals as goal

-- no mark tells of a step
blanks : (g : Over) (c : After-tell_both g) → All IsUnplaced (map (λ (b : LeftHalf Standing). b.value) c.tell_both.new.marks.items)
blanks g c =
    subst (All IsUnplaced) (sym c.tell_both.ensures.marks)
    (blanks-set _ _ _ c.loop-made.invariant.blanks c.unplaced-standing.ensures)

-- there is a name for the group
inside : (g : Over) (c : In_ok-members g) → c.loop-made.made < length g.J.GroupRun.names
inside g c = omega (arith, c.loop-made-test.true, c.loop-made.invariant.all)

pub returns-in_err-group-clause-blanks : goal.returns-in_err-group-clause-blanks
returns-in_err-group-clause-blanks g c = blanks g (goal.at.returns-in_err-group-clause-blanks g c).After-tell_both

pub loop-made-preserved : goal.loop-made-preserved
loop-made-preserved g c =
    let x = g.J.GroupRun.setting in
    let owners = g.J.GroupRun.owners in
    let names = g.J.GroupRun.names in
    let inv = c.loop-made.invariant in
    let made = c.loop-made.made in
    let within = inside g (goal.at.loop-made-preserved g c).In_ok-members in
    let left = c.members_of.new.slots.items in
    let groups = c.loop-made.groups.items in
    record {
      count = omega (arith, inv.count, c.push_reserved.ensures.len);
      all = inv.all;
      room = omega (arith, inv.room, c.push_reserved.ensures.capacity);
      slots = c.in_ok-members.ensures.slots ∙ inv.slots;
      there = still-there x owners c.args.owners.now c.requires.owners c.requires.grouped.each made c.loop-made.slots.items left c.in_ok-members.members.items
          c.in_ok-members.ensures.left inv.there;
      rights = names-left names c.loop-made.marks.items made inv.rights within c.remove-mark.new.self.items c.remove-mark.ensures.items;
      left_names = c.tell_both.ensures.names ∙ inv.left_names;
      blanks = blanks g (goal.at.loop-made-preserved g c).After-tell_both;
      each = pushed-each (λ h k. HasOpened x owners h k) groups c.push_reserved.new.self.items c.in_ok-group.group made (omega (arith, inv.count, c.loop-made.groups.ok.0))
          c.push_reserved.ensures.items inv.each c.in_ok-group.ensures.opened;
    }

pub returns-clause-each : goal.returns-clause-each
returns-clause-each g c = λ h i. c.loop-made.invariant.each h (omega (arith, c.loop-made.invariant.all))

pub open-requires-clause-members : goal.open-requires-clause-members
open-requires-clause-members g c =
    let told = c.in_ok-members.ensures in
    parted g.J.GroupRun.setting g.J.GroupRun.owners c.args.owners.now c.requires.owners c.requires.grouped.each c.loop-made.made c.loop-made.slots.items c.members_of.new.slots.items c.in_ok-members.members.items told.count
    told.ours told.others c.loop-made.invariant.there

pub process_number-count-requires : goal.process_number-count-requires
process_number-count-requires g c =
    omega (arith, c.len.ensures, c.args.marks.now.ok.0, length-map c.args.marks.now.items (λ (s : RightHalf Standing). s.name), ap length c.requires.names, c.requires.few)

pub returns-in_err-groups-clause-count : goal.returns-in_err-groups-clause-count
returns-in_err-groups-clause-count g c = err-if-ok _ _ c.from_residual.result c.from_residual.ensures.1

pub returns-in_err-groups-clause-each : goal.returns-in_err-groups-clause-each
returns-in_err-groups-clause-each g c = err-if-ok _ _ c.from_residual.result c.from_residual.ensures.1

pub returns-in_err-groups-clause-left_names : goal.returns-in_err-groups-clause-left_names
returns-in_err-groups-clause-left_names g c = c.requires.left_names

pub returns-in_err-groups-clause-blanks : goal.returns-in_err-groups-clause-blanks
returns-in_err-groups-clause-blanks g c = c.requires.blanks

pub loop-made-init : goal.loop-made-init
loop-made-init g c = record {
  count = c.in_ok-groups.ensures.len;
  all = omega (arith, c.process_number-count.ensures, c.len.ensures, c.args.marks.now.ok.0, length-map c.args.marks.now.items (λ (s : RightHalf Standing). s.name), ap length c.requires.names);
  room = omega (arith, c.in_ok-groups.ensures.capacity, c.from.ensures);
  slots = c.requires.count;
  there = λ p i h o low. c.requires.each p i;
  rights = c.requires.names;
  left_names = c.requires.left_names;
  blanks = c.requires.blanks;
  each = λ h i. absurd (omega (arith, i));
}

pub returns-in_err-members-clause-count : goal.returns-in_err-members-clause-count
returns-in_err-members-clause-count g c = err-if-ok _ _ c.from_residual-in_err-members.result c.from_residual-in_err-members.ensures.1

pub returns-in_err-members-clause-each : goal.returns-in_err-members-clause-each
returns-in_err-members-clause-each g c = err-if-ok _ _ c.from_residual-in_err-members.result c.from_residual-in_err-members.ensures.1

pub returns-in_err-members-clause-left_names : goal.returns-in_err-members-clause-left_names
returns-in_err-members-clause-left_names g c = c.loop-made.invariant.left_names

pub returns-in_err-members-clause-blanks : goal.returns-in_err-members-clause-blanks
returns-in_err-members-clause-blanks g c = c.loop-made.invariant.blanks

pub remove-mark-requires : goal.remove-mark-requires
remove-mark-requires g c =
    let names = g.J.GroupRun.names in
    omega (arith, some-left names c.loop-made.marks.items c.loop-made.made c.loop-made.invariant.rights (inside g (goal.at.remove-mark-requires g c).In_ok-members), c.loop-made.marks.ok.0)

pub tell_both-requires-clause-within : goal.tell_both-requires-clause-within
tell_both-requires-clause-within g c =
    let within = inside g (goal.at.tell_both-requires-clause-within g c).In_ok-members in
    omega (arith, within, length-map c.loop-made.lefts.items (λ (b : LeftHalf Standing). b.name), ap length c.loop-made.invariant.left_names)

pub tell_both-requires-clause-one : goal.tell_both-requires-clause-one
tell_both-requires-clause-one g c =
    let names = g.J.GroupRun.names in
    let made = c.loop-made.made in
    ap (λ ns. slice_index ns made) c.loop-made.invariant.left_names ∙
    sym (first-name names c.loop-made.marks.items made c.loop-made.invariant.rights (inside g (goal.at.tell_both-requires-clause-one g c).In_ok-members) c.remove-mark.result c.remove-mark.ensures.value)

pub open-requires-clause-within : goal.open-requires-clause-within
open-requires-clause-within g c = inside g (goal.at.open-requires-clause-within g c).In_ok-members

pub open-requires-clause-grouped : goal.open-requires-clause-grouped
open-requires-clause-grouped g c = c.requires.grouped

pub open-requires-clause-layout : goal.open-requires-clause-layout
open-requires-clause-layout g c = c.requires.layout

pub open-requires-clause-name : goal.open-requires-clause-name
open-requires-clause-name g c =
    c.tell_both.ensures.name ∙
    first-name g.J.GroupRun.names c.loop-made.marks.items c.loop-made.made c.loop-made.invariant.rights (inside g (goal.at.open-requires-clause-name g c).In_ok-members) c.remove-mark.result c.remove-mark.ensures.value

pub open-requires-clause-told : goal.open-requires-clause-told
open-requires-clause-told g c = c.tell_both.ensures.mark

pub open-requires-clause-blank : goal.open-requires-clause-blank
open-requires-clause-blank g c = c.unplaced-standing.ensures

pub open-requires-clause-end : goal.open-requires-clause-end
open-requires-clause-end g c = c.requires.end

pub open-requires-clause-keeps : goal.open-requires-clause-keeps
open-requires-clause-keeps g c = c.requires.keeps

pub returns-in_err-group-clause-count : goal.returns-in_err-group-clause-count
returns-in_err-group-clause-count g c = err-if-ok _ _ c.from_residual-in_err-group.result c.from_residual-in_err-group.ensures.1

pub returns-in_err-group-clause-each : goal.returns-in_err-group-clause-each
returns-in_err-group-clause-each g c = err-if-ok _ _ c.from_residual-in_err-group.result c.from_residual-in_err-group.ensures.1

pub returns-in_err-group-clause-left_names : goal.returns-in_err-group-clause-left_names
returns-in_err-group-clause-left_names g c = c.tell_both.ensures.names ∙ c.loop-made.invariant.left_names

pub push_reserved-requires : goal.push_reserved-requires
push_reserved-requires g c = omega (arith, c.loop-made.invariant.count, c.loop-made.invariant.room, c.loop-made-test.true)

pub returns-clause-left_names : goal.returns-clause-left_names
returns-clause-left_names g c = c.loop-made.invariant.left_names

pub returns-clause-blanks : goal.returns-clause-blanks
returns-clause-blanks g c = c.loop-made.invariant.blanks

pub returns-clause-memory : goal.returns-clause-memory
returns-clause-memory g c = tt
