use Rattle.std.proofs.Common.{◌≡◌, ◌==◌, Some, ap, sym, ◌∙◌, arith, inl, inr}
use Rattle.std.specs.HashMap.{get}
use Rattle.std.proofs.lemmas.Bool.{cases_Bool}
use Rattle.std.proofs.lemmas.Bool.Decides.{nat_tests}
use Rattle.network_paths.proofs.WayLemmas.{AreWays-kept, AreWays-put, other-way}
use Rattle.network_paths.proofs.trees.is_other_way.Goals as goal

pub returns-in-Some : goal.returns-in-Some
returns-in-Some c = λ hops are.
    let from = c.in-Some.from.now in
    let hop = c.args.hop in
    let found : get (λ x y. x == y) c.args.ways.now hop.to ≡ Some from = sym c.in-Some.ensures.value in
    elim (cases_Bool (from == hop.from)) [
      | inl same ↦ (let equal : from ≡ hop.from = grind (arith, nat_tests) in rw same (AreWays-kept (get (λ x y. x == y) c.args.ways.now) hops hop are (found ∙ ap Some equal)))
      | inr apart ↦ rw apart (other-way (get (λ x y. x == y) c.args.ways.now) hops hop from are found apart)
    ]

pub returns-in_ok-insert-in-None : goal.returns-in_ok-insert-in-None
returns-in_ok-insert-in-None c = λ hops are. AreWays-put c.args.ways.now c.insert.new.self hops c.args.hop are (sym c.in-None.ensures.value) c.in_ok-insert-in-None.ensures.updates
