use Rattle.std.proofs.Common.{◌==◌, get_or, ap, sym, ◌∙◌, arith, eq-eqb, take_all}
use Rattle.std.specs.List.{list_any}
use Rattle.network.specs.Words.{place_by}
use Rattle.network.proofs.PlaceLemmas.{is_some-place_by, none_of, place_by-at}
use Rattle.trace_tables.proofs.cells.place_among.Goals as goal

pub returns-then-process-places : goal.returns-then-process-places
returns-then-process-places c =
    let places = c.args.places.now in
    let i = c.loop-at.at in
    sym (place_by-at (λ p. c.args.process == p) places i 0 (omega (arith, c.loop-at-test.true)) (eq-eqb c.args.process (get_or places i 0) (omega (arith, c.if-process-places.true))) c.loop-at.invariant)

pub returns : goal.returns
returns c =
    let places = c.args.places.now in
    let i = c.loop-at.at in
    sym (none_of (place_by (λ p. c.args.process == p) places)
    (is_some-place_by (λ p. c.args.process == p) places ∙ ap (list_any (λ p. c.args.process == p)) (sym (take_all i places (omega (arith, c.loop-at-test.false)))) ∙ c.loop-at.invariant))
