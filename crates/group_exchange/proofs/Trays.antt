-- A group whose tray grew.
use Rattle.std.proofs.Common.{◌≡◌, ◌++◌, List, [], ◌∷◌, sym, ap, ◌∙◌, append_assoc, append-nil}
use Rattle.vlink.specs.Letters.{Letter}
use Rattle.group_hand.specs.Hands.{Held, IsAsBefore}
use Rattle.group_exchange.specs.Effects.{TookLetters}

module _ {S K : Type 0} where
  pub tray-none : (h : Held S K) → h ≡ record h { flow = record h.flow { tray = h.flow.tray ++ []; room = h.flow.room } }
  tray-none h = λ i. record h { flow = record h.flow { tray = sym (append-nil h.flow.tray) i } }

  pub tray-members : (first h : Held S K) (ls : List Letter) → h ≡ record first { flow = record first.flow { tray = first.flow.tray ++ ls; room = h.flow.room } } → h.members ≡ first.members
  tray-members first h ls e = ap (λ (z : Held S K). z.members) e

  pub tray-more : (first h new : Held S K) (ls more : List Letter) (l : Letter) → h ≡ record first { flow = record first.flow { tray = first.flow.tray ++ ls; room = h.flow.room } } →
      new ≡ record h { flow = record h.flow { tray = h.flow.tray ++ l ∷ []; room = new.flow.room } } → more ≡ ls ++ l ∷ [] →
      new ≡ record first { flow = record first.flow { tray = first.flow.tray ++ more; room = new.flow.room } }
  tray-more first h new ls more l a b m =
      b ∙ ((λ i. record (a i) { flow = record (a i).flow { tray = (a i).flow.tray ++ l ∷ []; room = new.flow.room } }) ∙
      (λ i. record first { flow = record first.flow { tray = (append_assoc first.flow.tray ls (l ∷ []) ∙ ap (λ z. first.flow.tray ++ z) (sym m)) i; room = new.flow.room } }))

  pub tray-all : (first h : Held S K) (ls all : List Letter) → h ≡ record first { flow = record first.flow { tray = first.flow.tray ++ ls; room = h.flow.room } } → ls ≡ all →
      h ≡ record first { flow = record first.flow { tray = first.flow.tray ++ all; room = h.flow.room } }
  tray-all first h ls all e a = e ∙ (λ i. record first { flow = record first.flow { tray = first.flow.tray ++ a i; room = h.flow.room } })

  -- room was made, and these letters came
  pub took-letters : (h reserved new : Held S K) (ls : List Letter) → IsAsBefore h reserved →
      new ≡ record reserved { flow = record reserved.flow { tray = reserved.flow.tray ++ ls; room = new.flow.room } } → TookLetters ls h new
  took-letters h reserved new ls a e = e ∙ ap (λ (z : Held S K). record z { flow = record z.flow { tray = z.flow.tray ++ ls; room = new.flow.room } }) a

  -- no letter came
  pub took-none : (h : Held S K) (ls : List Letter) → ls ≡ [] → TookLetters ls h h
  took-none h ls e = tray-all h h [] ls (tray-none h) (sym e)
