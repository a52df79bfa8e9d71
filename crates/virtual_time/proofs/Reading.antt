-- What ties code to the definitions: the next message by what is true of it, and a fact of states that every message keeps.
use Rattle.std.proofs.Common.{◌≡◌, inl, inr, false, List, [], ◌∷◌, Option, Some, None, refl, ap, arith}
use Rattle.std.proofs.lemmas.Bool.{cases_lt}
use Rattle.virtual_time.specs.Law.{Rules, IsOrder, reached, IsIn, times_in, IsPresent, Part, unhandled, next_of}
use Rattle.virtual_time.proofs.Least.{least-none, least-some, least-from}
use Rattle.virtual_time.proofs.Presence.{unhandled-is, unhandled-from}

module _ {M S K N : Type 0} (r : Rules M S K N) (O : IsOrder r.order) where
  -- m is present and not done, and nothing that is so comes before it
  pub record IsNext (part : Part M S) (m : M) : Type 0 where
    pub present : IsPresent r.order part.tally m
    pub not_done : times_in r.order m part.done ≡ 0
    pub first : (x : M) → IsPresent r.order part.tally x → times_in r.order x part.done ≡ 0 → r.order.less x m ≡ false

  pub next-is : (part : Part M S) (m : M) → next_of r.order part ≡ Some m → IsNext part m
  next-is part m e =
      let l = least-some r.order O (unhandled r.order part.tally part.done) m e in
      let a = unhandled-is r.order O part.tally part.done m l.inside in
      record {
        present = a.0;
        not_done = a.1;
        first = λ x h z. l.lowest x (unhandled-from r.order O part.tally part.done x h z);
      }

  pub next-from : (part : Part M S) (m : M) → IsNext part m → next_of r.order part ≡ Some m
  next-from part m h =
      least-from r.order O (unhandled r.order part.tally part.done) m
      (record {
        inside = unhandled-from r.order O part.tally part.done m h.present h.not_done;
        lowest = λ x i. let a = unhandled-is r.order O part.tally part.done x i in h.first x a.0 a.1;
      })

  pub none-next : (part : Part M S) → next_of r.order part ≡ None → (m : M) → IsPresent r.order part.tally m → IsIn r.order m part.done
  none-next part e m h =
      elim (cases_lt 0 (times_in r.order m part.done)) [
        | inl i ↦ i
        | inr i ↦ absurd (let a = unhandled-from r.order O part.tally part.done m h (omega arith) in let b = ap (times_in r.order m) (least-none r.order O (unhandled r.order part.tally part.done) e) in omega arith)
      ]

  pub none-next_from : (part : Part M S) → ((m : M) → IsPresent r.order part.tally m → IsIn r.order m part.done) → next_of r.order part ≡ None
  none-next_from part h = go (next_of r.order part) refl
    where
      go : (o : Option M) → next_of r.order part ≡ o → o ≡ None
      go None e = refl
      go (Some m) e = absurd (let k = next-is part m e in let a = h m k.present in let b = k.not_done in omega arith)

  -- what the opening state has and each message keeps, each state has that is reached
  pub reached-keeps : (Good : S → Type 0) → ((s : S) (m : M) → Good s → Good (r.after s m)) → (s : S) (ms : List M) → Good s → Good (reached r s ms)
  reached-keeps Good step s [] g = g
  reached-keeps Good step s (m ∷ ms) g = reached-keeps Good step (r.after s m) ms (step s m g)
