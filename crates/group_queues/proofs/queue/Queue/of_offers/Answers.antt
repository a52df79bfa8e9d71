use Rattle.std.proofs.Common.{◌++◌, List, IsPermutation, ap, subst}
use Rattle.std.proofs.lemmas.List.Sorted.{IsPermutation-trans}
use Rattle.vlink.specs.declared.message.Message.{Message}
use Rattle.group_queues.specs.Waiting.{ordered}
use Rattle.group_queues.proofs.Waiting.{ordered-permuted}
use Rattle.group_queues.proofs.queue.Queue.of_offers.Goals as goal

pub returns : goal.returns
returns c =
    let lists = c.in_ok-empty.field-0.messages in
    let offers = c.sort.new.messages.items in
    IsPermutation-trans c.args.offers.items offers (ordered (lists ++ offers)) c.sort.ensures.same
    (subst (λ (xs : List Message). IsPermutation xs (ordered (lists ++ offers))) (ap (λ z. z ++ offers) c.in_ok-empty.ensures.empty) (ordered-permuted (lists ++ offers)))
