use Rattle.std.proofs.Common.{Some, length, slice_get, ap, ◌∙◌}
use Rattle.std.specs.Option.{option_map}
use Rattle.std.proofs.lemmas.List.{length-map}
use Rattle.std.proofs.lemmas.Option.{slice_get-map}
use Rattle.journal.proofs.Refused.{err-if-ok}
use Rattle.group_exchange.proofs.opening.groups_of.Goals as goal

pub open_all-groups-requires-clause-each : goal.open_all-groups-requires-clause-each
open_all-groups-requires-clause-each g c = λ p i.
    ap (λ xs. slice_get xs p) c.in_ok-slots.ensures ∙ (slice_get-map (λ x. Some x) c.args.actors.items p ∙ ap (option_map (λ x. Some x)) (c.requires.each p i))

pub returns-in_err-slots-clause-count : goal.returns-in_err-slots-clause-count
returns-in_err-slots-clause-count g c = err-if-ok _ _ c.from_residual.result c.from_residual.ensures.1

pub returns-in_err-slots-clause-each : goal.returns-in_err-slots-clause-each
returns-in_err-slots-clause-each g c = err-if-ok _ _ c.from_residual.result c.from_residual.ensures.1

pub returns-in_err-slots-clause-left_names : goal.returns-in_err-slots-clause-left_names
returns-in_err-slots-clause-left_names g c = c.requires.left_names

pub returns-in_err-slots-clause-blanks : goal.returns-in_err-slots-clause-blanks
returns-in_err-slots-clause-blanks g c = c.requires.blanks

pub open_all-groups-requires-clause-count : goal.open_all-groups-requires-clause-count
open_all-groups-requires-clause-count g c = ap length c.in_ok-slots.ensures ∙ (length-map c.args.actors.items (λ x. Some x) ∙ c.requires.count)

pub open_all-groups-requires-clause-owners : goal.open_all-groups-requires-clause-owners
open_all-groups-requires-clause-owners g c = c.requires.owners

pub open_all-groups-requires-clause-grouped : goal.open_all-groups-requires-clause-grouped
open_all-groups-requires-clause-grouped g c = c.requires.grouped

pub open_all-groups-requires-clause-layout : goal.open_all-groups-requires-clause-layout
open_all-groups-requires-clause-layout g c = c.requires.layout

pub open_all-groups-requires-clause-names : goal.open_all-groups-requires-clause-names
open_all-groups-requires-clause-names g c = c.requires.names

pub open_all-groups-requires-clause-left_names : goal.open_all-groups-requires-clause-left_names
open_all-groups-requires-clause-left_names g c = c.requires.left_names

pub open_all-groups-requires-clause-blanks : goal.open_all-groups-requires-clause-blanks
open_all-groups-requires-clause-blanks g c = c.requires.blanks

pub open_all-groups-requires-clause-end : goal.open_all-groups-requires-clause-end
open_all-groups-requires-clause-end g c = c.requires.end

pub open_all-groups-requires-clause-keeps : goal.open_all-groups-requires-clause-keeps
open_all-groups-requires-clause-keeps g c = c.requires.keeps

pub open_all-groups-requires-clause-few : goal.open_all-groups-requires-clause-few
open_all-groups-requires-clause-few g c = c.requires.few

pub returns-clause-count : goal.returns-clause-count
returns-clause-count g c = c.open_all-groups.ensures.count

pub returns-clause-each : goal.returns-clause-each
returns-clause-each g c = c.open_all-groups.ensures.each

pub returns-clause-left_names : goal.returns-clause-left_names
returns-clause-left_names g c = c.open_all-groups.ensures.left_names

pub returns-clause-blanks : goal.returns-clause-blanks
returns-clause-blanks g c = c.open_all-groups.ensures.blanks

pub returns-clause-memory : goal.returns-clause-memory
returns-clause-memory g c = c.open_all-groups.ensures.memory
