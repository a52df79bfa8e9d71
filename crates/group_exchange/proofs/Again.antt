-- A group that is as before, or whose block left.
use Rattle.std.proofs.Common.{◌≡◌, [], sym, ap, ◌∙◌}
use Rattle.group_hand.specs.Hands.{Held, IsAsBefore}
use Rattle.group_exchange.specs.Views.{GroupState}
use Rattle.group_exchange.specs.Effects.{CountsDone, IsGroupAsBefore, LeftBlock}

module _ {S K : Type 0} where
  -- room changed
  pub group-as-before : (g : GroupState S K) (new : Held S K) → IsAsBefore g.held new → IsGroupAsBefore g (record g { held = new })
  group-as-before g new a = λ i. record g { held = a i }

  -- messages that are done count beside
  pub group-counted : (g : GroupState S K) (new : Held S K) → new ≡ record g.held { flow = record g.held.flow { queue = new.flow.queue; extra = new.flow.extra; room = new.flow.room } } →
      CountsDone g (record g { held = new })
  group-counted g new e = λ i. record g { held = e i }

  -- where nothing changed, none does
  pub counts-none : (g k : GroupState S K) → IsGroupAsBefore g k → CountsDone g k
  counts-none g k a =
      a ∙ (λ i. record g { held = record g.held { flow = record g.held.flow { queue = ap (λ z. z.held.flow.queue) (sym a) i; extra = ap (λ z. z.held.flow.extra) (sym a) i; room = k.held.flow.room } } })

  -- messages that are done count beside, the floor was looked up, the block and the letters to others left
  pub left-block : (h counted floored new : Held S K) →
      counted ≡ record h { flow = record h.flow { queue = counted.flow.queue; extra = counted.flow.extra; room = counted.flow.room } } → IsAsBefore counted floored →
      new ≡ record floored { flow = record floored.flow { abroad = []; words = []; room = new.flow.room } } → LeftBlock h new
  left-block h counted floored new a b c =
      let e = c ∙ ap (λ (z : Held S K). record z { flow = record z.flow { abroad = []; words = []; room = new.flow.room } }) (b ∙ ap (λ (z : Held S K). record z { flow = record z.flow { room = floored.flow.room } }) a) in
      e ∙ (λ i. record h { flow = record h.flow { queue = ap (λ (z : Held S K). z.flow.queue) (sym e) i; extra = ap (λ (z : Held S K). z.flow.extra) (sym e) i; abroad = []; words = []; room = new.flow.room } })
