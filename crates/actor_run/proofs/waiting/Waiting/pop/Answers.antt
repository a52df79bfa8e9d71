use Rattle.std.proofs.Common.{List, ◌∷◌, ◌++◌, IfSome, IsPermutation, subst}
use Rattle.std.proofs.lemmas.List.Sorted.{IsPermutation-append_left}
use Rattle.vlink.specs.declared.message.Message.{Message}
use Rattle.two_lists.proofs.Firsts.{NoneBefore}
use Rattle.two_lists.proofs.NearAndFar.{taken-of-second, first-in-first, first-in-second}
use Rattle.actor_run.proofs.waiting.Waiting.pop.Goals as goal

pub returns-in_default-clause-one : goal.returns-in_default-clause-one
returns-in_default-clause-one c =
    subst (λ (xs : List Message). IfSome c.pop.result (λ m. IsPermutation xs (m ∷ (c.pop_before.new.self.messages ++ c.pop.new.self)))) c.self.view_is
    (taken-of-second c.self.inside.lists.messages c.pop_before.new.self.messages c.self.inside.beside c.pop.new.self c.pop.result c.in_default.ensures.left c.pop.ensures.one)

pub returns-in_default-clause-first : goal.returns-in_default-clause-first
returns-in_default-clause-first c =
    subst (λ (xs : List Message). IfSome c.pop.result (λ m. NoneBefore m xs)) c.self.view_is
    (first-in-second c.message_order_law.ensures.total c.self.inside.lists.messages c.pop_before.new.self.messages c.self.inside.beside c.pop.result c.first.result
    c.pop.ensures.first c.first.ensures.among c.in_default.ensures.rival)

pub returns-clause-one : goal.returns-clause-one
returns-clause-one c =
    let lists = c.self.inside.lists.messages in
    let beside = c.self.inside.beside in
    subst (λ (xs : List Message). IsPermutation xs (c.in-Some.message ∷ (c.pop_before.new.self.messages ++ beside))) c.self.view_is
    (IsPermutation-append_left beside lists (c.in-Some.message ∷ c.pop_before.new.self.messages) c.in-Some.ensures.one)

pub returns-clause-first : goal.returns-clause-first
returns-clause-first c =
    subst (NoneBefore c.in-Some.message) c.self.view_is
    (first-in-first c.message_order_law.ensures.total c.self.inside.lists.messages c.self.inside.beside c.in-Some.message c.first.result
    c.in-Some.ensures.first c.in-Some.ensures.before c.first.ensures.first c.first.ensures.none)
