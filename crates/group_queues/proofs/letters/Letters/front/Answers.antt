use Rattle.std.proofs.Common.{◌≡◌, ◌<◌, ◌∷◌, List, length, get_or, subst, ap, rules}
use Rattle.vlink.specs.Letters.{Letter}
use Rattle.group_queues.proofs.FromFirst.{first-rest}
use Rattle.group_queues.proofs.letters.Letters.front.Goals as goal

pub returns-in-Some-clause-front : goal.returns-in-Some-clause-front
returns-in-Some-clause-front c =
    let items = c.self.inside.tray.items in
    let l = c.in-Some.letter.now in
    let some : 0 < length items = search rules in
    let at : l ≡ get_or items 0 l = search rules in
    subst (λ (xs : List Letter). (rest : List Letter) × (xs ≡ l ∷ rest)) (ap (λ z. z.tray) c.self.view_is) (first-rest items l some at)
