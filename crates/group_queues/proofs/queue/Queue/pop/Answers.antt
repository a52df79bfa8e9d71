use Rattle.std.proofs.Common.{◌≡◌, ◌-◌, false, List, [], ◌∷◌, ◌++◌, length, slice_get, IfSome, IfNone, subst, ap, arith, option_copied, vec_len}
use Rattle.std.proofs.lemmas.List.Sorted.{All-permutation, IsPermutation-append_left}
use Rattle.vlink.specs.declared.message.Message.{Message}
use Rattle.reverse.specs.Rules.{is_before}
use Rattle.two_lists.proofs.Firsts.{NoneBefore}
use Rattle.two_lists.proofs.NearAndFar.{first-in-first, first-in-second, taken-of-second}
use Rattle.group_queues.specs.Waiting.{ordered}
use Rattle.group_queues.proofs.Offers.{last-before, last-none, last-in, last-out, last-out-before, none-out}
use Rattle.group_queues.proofs.Waiting.{first-ordered, if-first, if-none, if-out, ordered-permuted}
use Rattle.group_queues.proofs.queue.Queue.pop.Goals.{After-pop, In-Some}
use Rattle.group_queues.proofs.queue.Queue.pop.Goals as goal

-- none comes before the last of the offers, or before the first of the lists, where that is taken
none-first : (c : After-pop) → IfSome c.pop.result (λ m. NoneBefore m (c.self.inside.lists.messages ++ c.self.inside.offers.items))
none-first c =
    let last = subst (λ (xs : List Message). option_copied c.last.result ≡ slice_get xs (length xs - 1)) c.deref.ensures.value c.last.ensures.value in
    first-in-second c.message_order_law.ensures.total c.self.inside.lists.messages c.pop_before.new.self.messages c.self.inside.offers.items c.pop.result c.last.result
    (last-out-before c.message_order_law.ensures.total c.self.inside.offers.items c.pop.new.self.items c.pop.result c.self.inside.falling c.pop.ensures.items)
    (last-in c.self.inside.offers.items c.last.result last) c.in_default.ensures.rival

some-first : (c : In-Some) → NoneBefore c.in-Some.message (c.self.inside.lists.messages ++ c.self.inside.offers.items)
some-first c =
    let offers = c.self.inside.offers.items in
    let last = subst (λ (xs : List Message). option_copied c.last.result ≡ slice_get xs (length xs - 1)) c.deref.ensures.value c.last.ensures.value in
    first-in-first c.message_order_law.ensures.total c.self.inside.lists.messages offers c.in-Some.message c.last.result
    c.in-Some.ensures.first c.in-Some.ensures.before (last-before c.message_order_law.ensures.total offers c.self.inside.falling c.last.result last)
    (last-none offers c.last.result last)

pub returns-in_default-clause-one : goal.returns-in_default-clause-one
returns-in_default-clause-one c =
    let lists = c.self.inside.lists.messages in
    let offers = c.self.inside.offers.items in
    let now = c.pop_before.new.self.messages in
    subst (λ (xs : List Message). IfSome c.pop.result (λ m. xs ≡ m ∷ ordered (now ++ c.pop.new.self.items))) (ap (λ z. z.messages) c.self.view_is)
    (if-out c.order_law.ensures c.pop.result (lists ++ offers) (now ++ c.pop.new.self.items)
    (taken-of-second lists now offers c.pop.new.self.items c.pop.result c.in_default.ensures.left
    (last-out offers c.pop.new.self.items c.pop.result c.pop.ensures.items))
    (none-first (goal.at.returns-in_default-clause-one c).After-pop))

pub returns-in_default-clause-first : goal.returns-in_default-clause-first
returns-in_default-clause-first c =
    subst (λ (xs : List Message). IfSome c.pop.result (λ m. NoneBefore m xs)) (ap (λ z. z.messages) c.self.view_is)
    (if-first c.pop.result (c.self.inside.lists.messages ++ c.self.inside.offers.items) (none-first (goal.at.returns-in_default-clause-first c).After-pop))

pub returns-in_default-clause-none : goal.returns-in_default-clause-none
returns-in_default-clause-none c =
    let last = subst (λ (xs : List Message). option_copied c.last.result ≡ slice_get xs (length xs - 1)) c.deref.ensures.value c.last.ensures.value in
    subst (λ (xs : List Message). IfNone c.pop.result (xs ≡ [])) (ap (λ z. z.messages) c.self.view_is)
    (if-none c.pop.result (c.self.inside.lists.messages ++ c.self.inside.offers.items)
    (none-out c.self.inside.lists.messages c.pop_before.new.self.messages c.self.inside.offers.items c.pop.new.self.items c.pop.result c.last.result
    (vec_len c.self.inside.offers) (omega arith) c.pop.ensures.items c.pop.ensures.variant last c.in_default.ensures.rival).0)

pub returns-in_default-clause-empty : goal.returns-in_default-clause-empty
returns-in_default-clause-empty c =
    let last = subst (λ (xs : List Message). option_copied c.last.result ≡ slice_get xs (length xs - 1)) c.deref.ensures.value c.last.ensures.value in
    if-none c.pop.result (c.pop_before.new.self.messages ++ c.pop.new.self.items)
    (none-out c.self.inside.lists.messages c.pop_before.new.self.messages c.self.inside.offers.items c.pop.new.self.items c.pop.result c.last.result
    (vec_len c.self.inside.offers) (omega arith) c.pop.ensures.items c.pop.ensures.variant last c.in_default.ensures.rival).1

pub returns-clause-one : goal.returns-clause-one
returns-clause-one c =
    let lists = c.self.inside.lists.messages in
    let offers = c.self.inside.offers.items in
    let now = c.pop_before.new.self.messages in
    subst (λ (xs : List Message). xs ≡ c.in-Some.message ∷ ordered (now ++ offers)) (ap (λ z. z.messages) c.self.view_is)
    (first-ordered c.order_law.ensures c.in-Some.message (lists ++ offers) (now ++ offers)
    (IsPermutation-append_left offers lists (c.in-Some.message ∷ now) c.in-Some.ensures.one) (some-first (goal.at.returns-clause-one c).In-Some))

pub returns-clause-first : goal.returns-clause-first
returns-clause-first c =
    let all = c.self.inside.lists.messages ++ c.self.inside.offers.items in
    subst (NoneBefore c.in-Some.message) (ap (λ z. z.messages) c.self.view_is)
    (All-permutation (λ x. is_before x c.in-Some.message ≡ false) all _ (ordered-permuted all) (some-first (goal.at.returns-clause-first c).In-Some))
