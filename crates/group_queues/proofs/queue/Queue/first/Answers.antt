use Rattle.std.proofs.Common.{◌≡◌, ◌-◌, false, List, [], ◌++◌, length, slice_get, Contains, IfSome, IfNone, ◌∙◌, subst, sym, ap, option_copied}
use Rattle.std.proofs.lemmas.List.Elements.{Contains-append_left}
use Rattle.std.proofs.lemmas.List.Sorted.{All-permutation, Contains-permutation, IsPermutation-append_left}
use Rattle.vlink.specs.declared.message.Message.{Message}
use Rattle.reverse.specs.Rules.{is_before}
use Rattle.two_lists.proofs.Firsts.{NoneBefore}
use Rattle.two_lists.proofs.NearAndFar.{first-in-first}
use Rattle.group_queues.proofs.Offers.{last-before, last-none, last-of-all, last-among, none-of-all}
use Rattle.group_queues.proofs.Waiting.{if-among, if-first, if-none, ordered-permuted, same-ordered}
use Rattle.group_queues.proofs.queue.Queue.first.Goals as goal

pub returns-in_default-clause-same : goal.returns-in_default-clause-same
returns-in_default-clause-same c =
    let lists = c.self.inside.lists.messages in
    let offers = c.self.inside.offers.items in
    let now = c.first_before.new.self.messages in
    sym (same-ordered c.order_law.ensures (lists ++ offers) (now ++ offers) (IsPermutation-append_left offers lists now c.first_before.ensures.same)) ∙ ap (λ z. z.messages) c.self.view_is

pub returns-in_default-clause-among : goal.returns-in_default-clause-among
returns-in_default-clause-among c =
    let last = subst (λ (xs : List Message). option_copied c.last-last.result ≡ slice_get xs (length xs - 1)) c.deref.ensures.value c.last-last.ensures.value in
    subst (λ o. IfSome o (Contains c.args.self.now.messages)) (sym c.copied.ensures)
    (subst (λ (xs : List Message). IfSome (option_copied c.last-last.result) (Contains xs)) (ap (λ z. z.messages) c.self.view_is)
    (if-among (option_copied c.last-last.result) (c.self.inside.lists.messages ++ c.self.inside.offers.items)
    (last-among c.self.inside.lists.messages c.self.inside.offers.items c.last-last.result last)))

pub returns-in_default-clause-first : goal.returns-in_default-clause-first
returns-in_default-clause-first c =
    let last = subst (λ (xs : List Message). option_copied c.last-last.result ≡ slice_get xs (length xs - 1)) c.deref.ensures.value c.last-last.ensures.value in
    subst (λ o. IfSome o (λ m. NoneBefore m c.args.self.now.messages)) (sym c.copied.ensures)
    (subst (λ (xs : List Message). IfSome (option_copied c.last-last.result) (λ m. NoneBefore m xs)) (ap (λ z. z.messages) c.self.view_is)
    (if-first (option_copied c.last-last.result) (c.self.inside.lists.messages ++ c.self.inside.offers.items)
    (last-of-all c.message_order_law.ensures.total c.self.inside.lists.messages c.self.inside.offers.items c.self.inside.falling c.last-last.result last c.in_default.ensures.rival)))

pub returns-in_default-clause-none : goal.returns-in_default-clause-none
returns-in_default-clause-none c =
    let last = subst (λ (xs : List Message). option_copied c.last-last.result ≡ slice_get xs (length xs - 1)) c.deref.ensures.value c.last-last.ensures.value in
    subst (λ o. IfNone o (c.args.self.now.messages ≡ [])) (sym c.copied.ensures)
    (subst (λ (xs : List Message). IfNone (option_copied c.last-last.result) (xs ≡ [])) (ap (λ z. z.messages) c.self.view_is)
    (if-none (option_copied c.last-last.result) (c.self.inside.lists.messages ++ c.self.inside.offers.items)
    (none-of-all c.self.inside.lists.messages c.self.inside.offers.items c.last-last.result last c.in_default.ensures.rival)))

pub returns-clause-same : goal.returns-clause-same
returns-clause-same c =
    let lists = c.self.inside.lists.messages in
    let offers = c.self.inside.offers.items in
    let now = c.first_before.new.self.messages in
    sym (same-ordered c.order_law.ensures (lists ++ offers) (now ++ offers) (IsPermutation-append_left offers lists now c.first_before.ensures.same)) ∙ ap (λ z. z.messages) c.self.view_is

pub returns-clause-among : goal.returns-clause-among
returns-clause-among c =
    let lists = c.self.inside.lists.messages in
    let offers = c.self.inside.offers.items in
    subst (λ (xs : List Message). Contains xs c.in-Some.message) (ap (λ z. z.messages) c.self.view_is)
    (Contains-permutation (lists ++ offers) _ c.in-Some.message (ordered-permuted (lists ++ offers)) (Contains-append_left lists offers c.in-Some.message c.in-Some.ensures.among))

pub returns-clause-first : goal.returns-clause-first
returns-clause-first c =
    let lists = c.self.inside.lists.messages in
    let offers = c.self.inside.offers.items in
    let last = subst (λ (xs : List Message). option_copied c.last-last.result ≡ slice_get xs (length xs - 1)) c.deref.ensures.value c.last-last.ensures.value in
    subst (NoneBefore c.in-Some.message) (ap (λ z. z.messages) c.self.view_is)
    (All-permutation (λ x. is_before x c.in-Some.message ≡ false) (lists ++ offers) _ (ordered-permuted (lists ++ offers))
    (first-in-first c.message_order_law.ensures.total lists offers c.in-Some.message c.last-last.result
    c.in-Some.ensures.first c.in-Some.ensures.before (last-before c.message_order_law.ensures.total offers c.self.inside.falling c.last-last.result last)
    (last-none offers c.last-last.result last)))
