-- What holds of one process alone, whatever letters come and in whatever order it acts.
use Rattle.std.specs.Prelude.{◌≡◌, ◌+◌, List, [], ◌∷◌, ◌++◌, true, ⊤}
use Rattle.virtual_time.specs.Rules.{Rules, reached, sent}
use Rattle.virtual_time.specs.Lists.{IsAscending, IsIn, times_in}
use Rattle.virtual_time.specs.Letters.{pluses, minuses, IsPresent}
use Rattle.virtual_time.specs.Part.{Part}

-- a fact holds of each state in which one of these messages was handled, from the state s on
abbrev pub HoldsAlong : {M S K N : Type 0} → Rules M S K N → (S → Type 0) → S → List M → Type 0
HoldsAlong r Good s [] = ⊤
HoldsAlong r Good s (m ∷ ms) = Good s × HoldsAlong r Good (r.after s m) ms

-- the signed count of m in the outbox has changed as the times that the committed and done events sent it
abbrev pub SendsKept : {M S K N : Type 0} → Rules M S K N → S → Part M S → Part M S → M → Type 0
SendsKept r opening old new m =
    pluses r.order m new.outbox + minuses r.order m old.outbox + times_in r.order m (sent r opening (old.committed ++ old.done))
    ≡ pluses r.order m old.outbox + minuses r.order m new.outbox + times_in r.order m (sent r opening (new.committed ++ new.done))

-- a process that opened in this state is well. A good state is one on which undoing gives back the state before.
pub record IsWell {M S K N : Type 0} (r : Rules M S K N) (Good : S → Type 0) (opening : S) (part : Part M S) : Type 0 where
  -- the state is what the committed and done events make of the opening one
  pub state_is : part.state ≡ reached r opening (part.committed ++ part.done)
  -- each done event was handled in a good state
  pub good : HoldsAlong r Good (reached r opening part.committed) part.done
  -- the done events ascend, are present, and come before each present message that is not done
  pub ascending : IsAscending r.order part.done
  pub done_present : (m : M) → IsIn r.order m part.done → IsPresent r.order part.tally m
  pub done_first : (m : M) → IsPresent r.order part.tally m → times_in r.order m part.done ≡ 0 →
      (d : M) → IsIn r.order d part.done → r.order.less d m ≡ true
