use Rattle.std.proofs.Common.{◌==◌, not, refl, arith}
use Rattle.std.proofs.lemmas.List.Filters.{length-filter_both}
use Rattle.vlink.specs.Letters.{Letter}
use Rattle.antimessages.proofs.posting.make_room.Goals as goal

pub returns-then-letters-capacity-clause-ok : goal.returns-then-letters-capacity-clause-ok
returns-then-letters-capacity-clause-ok c =
    let at_most = length-filter_both (λ (l : Letter). l.message.receiver == c.args.receiver) (λ (l : Letter). not (l.message.receiver == c.args.receiver)) (λ l. refl) c.args.letters.now in
    omega (arith, c.args.mailbox.now.small.1)
