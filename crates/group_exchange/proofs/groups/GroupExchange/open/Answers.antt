use Rattle.std.proofs.Common.{◌≡◌, ℕ, suc, List, ◌+◌, ◌<◌, All, length, map, Some, sym, ap, ◌∙◌, subst, arith}
use Rattle.std.proofs.lemmas.List.{length-map}
use Rattle.vlink.specs.Order.{message_order}
use Rattle.virtual_time.specs.Law.{plus_of}
use Rattle.halves.specs.declared.LeftHalf.{LeftHalf}
use Rattle.group_exchange.specs.declared.mark.Standing.{Standing}
use Rattle.journal.proofs.Refused.{err-if-ok}
use Rattle.group_exchange.specs.Views.{for_group}
use Rattle.group_exchange.proofs.Halves.{each-blank, marks-blank}
use Rattle.group_exchange.proofs.Opened.{kept-opened, offers-home}
use Rattle.group_exchange.proofs.groups.GroupExchange.open.Given.{Over}
use Rattle.group_exchange.proofs.groups.GroupExchange.open.Goals.{After-groups_of, After-process_number-count}
use Rattle.group_exchange.proofs.groups.GroupExchange.open.Goals as goal

-- there is a mark for each group
as-many : (g : Over) (c : After-groups_of g) → length (map (λ (b : LeftHalf Standing). b.value) c.groups_of.new.lefts.items) ≡ length g.J.GroupRun.names
as-many g c =
    let lefts = c.groups_of.new.lefts.items in
    length-map lefts (λ (b : LeftHalf Standing). b.value) ∙ (sym (length-map lefts (λ (b : LeftHalf Standing). b.name)) ∙ ap length c.groups_of.ensures.left_names)

-- so many are counted
counted : (g : Over) (c : After-process_number-count g) → c.process_number-count.result ≡ length g.J.GroupRun.names
counted g c =
    let pairs = ap length (c.pairs.view_is ∙ c.requires.names) in
    omega (arith, c.process_number-count.ensures, c.len.ensures, c.pairs.inside.lefts.ok.0, length-map c.pairs.inside.lefts.items (λ (b : LeftHalf Standing). b.name), pairs)

pub with_offers-requires-clause-receivers : goal.with_offers-requires-clause-receivers
with_offers-requires-clause-receivers g c =
    let L = c.actor_law.ensures g.J.GroupRun.setting c.requires.layout in
    offers-home c.requires.layout c.requires.grouped L.order c.args.offers.now c.requires.opens.offered (length c.args.owners.items) (ap length c.requires.owners ∙ c.requires.grouped.each)

pub invariant_of-exchange : goal.invariant_of-exchange
invariant_of-exchange g c =
    let x = g.J.GroupRun.setting in
    let names = g.J.GroupRun.names in
    let L = c.actor_law.ensures x c.requires.layout in
    let groups = counted g (goal.at.invariant_of-exchange g c).After-process_number-count in
    let end : c.args.until + 1 ≡ suc x.until = omega (arith, c.requires.until) in
    let standings = map (λ (b : LeftHalf Standing). b.value) c.groups_of.new.lefts.items in (
      (let none = ap length c.new-journal.ensures.steps in omega arith),
      c.requires.most,
      omega (arith, c.of_known-end.ensures, c.ns.ensures.value, end),
      kept-opened c.requires.layout c.requires.grouped L.order
          c.in_ok-boxes.boxes (c.in_ok-boxes.ensures.owners ∙ c.requires.owners) (c.in_ok-boxes.ensures.count ∙ groups)
          (λ h i. c.in_ok-boxes.ensures.letters h (subst (λ n. h < n) (sym groups) i) ∙ (λ j. for_group message_order (c.requires.owners j) h (map plus_of (c.requires.opens.offered j))))
          c.in_ok-floors.floors (c.in_ok-floors.ensures.processes ∙ groups) (c.in_ok-floors.ensures.until ∙ c.requires.until)
          (λ h i. c.in_ok-floors.ensures.each h (subst (λ n. h < n) (sym groups) i) ∙ ap (λ n. Some n) end)
          standings (as-many g (goal.at.invariant_of-exchange g c).After-groups_of) (each-blank standings c.groups_of.ensures.blanks)
          c.new-journal.result.steps c.new-journal.ensures.steps c.default.result c.default.ensures,
      c.groups_of.ensures.left_names,
      c.new-journal.ensures.keeps ∙ c.requires.keeps,
    )

pub returns-clause-exchange : goal.returns-clause-exchange
returns-clause-exchange g c =
    let standings = map (λ (b : LeftHalf Standing). b.value) c.groups_of.new.lefts.items in
    let marks = marks-blank standings (length g.J.GroupRun.names) (as-many g (goal.at.returns-clause-exchange g c).After-groups_of) c.groups_of.ensures.blanks in
    λ i. record { steps = c.new-journal.ensures.steps i; marks = marks i; limit = c.args.limit }

pub process_number-count-requires : goal.process_number-count-requires
process_number-count-requires g c =
    let pairs = ap length (c.pairs.view_is ∙ c.requires.names) in
    omega (arith, c.len.ensures, c.pairs.inside.lefts.ok.0, length-map c.pairs.inside.lefts.items (λ (b : LeftHalf Standing). b.name), pairs, c.requires.few_groups)

pub groups_of-requires-clause-count : goal.groups_of-requires-clause-count
groups_of-requires-clause-count g c = c.requires.opens.actors_open.count

pub groups_of-requires-clause-each : goal.groups_of-requires-clause-each
groups_of-requires-clause-each g c = c.requires.opens.actors_open.each

pub groups_of-requires-clause-owners : goal.groups_of-requires-clause-owners
groups_of-requires-clause-owners g c = c.deref.ensures.value ∙ c.requires.owners

pub groups_of-requires-clause-grouped : goal.groups_of-requires-clause-grouped
groups_of-requires-clause-grouped g c = c.requires.grouped

pub groups_of-requires-clause-layout : goal.groups_of-requires-clause-layout
groups_of-requires-clause-layout g c = c.requires.layout

pub groups_of-requires-clause-names : goal.groups_of-requires-clause-names
groups_of-requires-clause-names g c = c.pairs.invariant.0 ∙ (c.pairs.view_is ∙ c.requires.names)

pub groups_of-requires-clause-left_names : goal.groups_of-requires-clause-left_names
groups_of-requires-clause-left_names g c = c.pairs.view_is ∙ c.requires.names

pub groups_of-requires-clause-blanks : goal.groups_of-requires-clause-blanks
groups_of-requires-clause-blanks g c = c.pairs.invariant.1

pub groups_of-requires-clause-end : goal.groups_of-requires-clause-end
groups_of-requires-clause-end g c = omega (arith, c.of_known-end.ensures, c.ns.ensures.value, c.requires.until)

pub groups_of-requires-clause-keeps : goal.groups_of-requires-clause-keeps
groups_of-requires-clause-keeps g c = c.requires.keeps

pub groups_of-requires-clause-few : goal.groups_of-requires-clause-few
groups_of-requires-clause-few g c = c.requires.few_groups

pub returns-in_err-groups-clause-exchange : goal.returns-in_err-groups-clause-exchange
returns-in_err-groups-clause-exchange g c = err-if-ok _ _ c.from_residual.result c.from_residual.ensures.1

pub returns-in_err-groups-clause-count : goal.returns-in_err-groups-clause-count
returns-in_err-groups-clause-count g c = err-if-ok _ _ c.from_residual.result c.from_residual.ensures.1

pub returns-in_err-groups-clause-groups : goal.returns-in_err-groups-clause-groups
returns-in_err-groups-clause-groups g c = err-if-ok _ _ c.from_residual.result c.from_residual.ensures.1

pub with_offers-requires-clause-each : goal.with_offers-requires-clause-each
with_offers-requires-clause-each g c =
    let count = counted g (goal.at.with_offers-requires-clause-each g c).After-process_number-count in
    subst (λ (os : List ℕ). All (λ owner. owner < c.process_number-count.result) os) (sym c.requires.owners)
    (subst (λ n. All (λ owner. owner < n) g.J.GroupRun.owners) (sym count) c.requires.grouped.within)

pub returns-in_err-boxes-clause-exchange : goal.returns-in_err-boxes-clause-exchange
returns-in_err-boxes-clause-exchange g c = err-if-ok _ _ c.from_residual-in_err-boxes.result c.from_residual-in_err-boxes.ensures.1

pub returns-in_err-boxes-clause-count : goal.returns-in_err-boxes-clause-count
returns-in_err-boxes-clause-count g c = err-if-ok _ _ c.from_residual-in_err-boxes.result c.from_residual-in_err-boxes.ensures.1

pub returns-in_err-boxes-clause-groups : goal.returns-in_err-boxes-clause-groups
returns-in_err-boxes-clause-groups g c = err-if-ok _ _ c.from_residual-in_err-boxes.result c.from_residual-in_err-boxes.ensures.1

pub returns-in_err-floors-clause-exchange : goal.returns-in_err-floors-clause-exchange
returns-in_err-floors-clause-exchange g c = err-if-ok _ _ c.from_residual-in_err-floors.result c.from_residual-in_err-floors.ensures.1

pub returns-in_err-floors-clause-count : goal.returns-in_err-floors-clause-count
returns-in_err-floors-clause-count g c = err-if-ok _ _ c.from_residual-in_err-floors.result c.from_residual-in_err-floors.ensures.1

pub returns-in_err-floors-clause-groups : goal.returns-in_err-floors-clause-groups
returns-in_err-floors-clause-groups g c = err-if-ok _ _ c.from_residual-in_err-floors.result c.from_residual-in_err-floors.ensures.1

pub returns-clause-count : goal.returns-clause-count
returns-clause-count g c = c.in_ok-groups.ensures.count

pub returns-clause-groups : goal.returns-clause-groups
returns-clause-groups g c = c.in_ok-groups.ensures.each

pub returns-clause-memory : goal.returns-clause-memory
returns-clause-memory g c = tt

pub new-requires : goal.new-requires
new-requires g c = c.requires.end

pub of_known-end-requires : goal.of_known-end-requires
of_known-end-requires g c = omega (arith, c.ns.ensures.value, c.requires.end)

pub overflow_add-ns : goal.overflow_add-ns
overflow_add-ns g c = omega (arith, c.ns.ensures.value, c.requires.end)
