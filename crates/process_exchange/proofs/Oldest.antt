-- Whether a done event is earlier than a moment is told by the oldest one.
use Rattle.std.proofs.Common.{◌≡◌, ◌≢◌, ◌↔◌, ℕ, ◌+◌, ◌≤◌, Bool, true, false, ◌&&◌, IsTrue, cond, nat_lt, List, [], ◌∷◌, slice_get, refl, sym, ap, ◌∙◌, subst, arith, Option, IfSome, option_map, le-ltb, ltb-true, ltb-false, eq-eqb}
use Rattle.vlink.specs.declared.message.Message.{Message}
use Rattle.vlink.specs.declared.note.Note.{Note}
use Rattle.virtual_time.specs.Law.{Rules, IsOrder, IsAscending, IsIn, pluses, minuses, Simulation, Laws, Part, IsSafePart, can_commit, can_move, earlier, is_early}
use Rattle.virtual_time.specs.declared.moved.Move.TheVariants.{Committed}
use Rattle.virtual_time.proofs.Lists.{filter-none, in-head}
use Rattle.virtual_time.proofs.Order.{less-time}

module _ {S K : Type 0} (r : Rules Message S K Note) (O : IsOrder r.order) (moment : ℕ) where
  -- events behind one that is not earlier than the moment are not earlier either
  none-behind : (x : Message) (xs : List Message) → ((y : Message) → IsIn r.order y xs → r.order.less x y ≡ true) → moment ≤ r.order.time x → earlier r.order moment xs ≡ []
  none-behind x xs up late =
      filter-none r.order O (λ y. nat_lt (r.order.time y) moment) xs (λ y j. le-ltb (r.order.time y) moment (let a = less-time r.order O x y (up y j) in omega arith))

  pub oldest-is : (done : List Message) → IsAscending r.order done →
      IfSome (option_map r.order.time (slice_get done 0)) (λ time. moment ≤ time) ↔ (earlier r.order moment done ≡ [])
  oldest-is [] up = (λ t. refl, λ n. tt)
  oldest-is (x ∷ xs) up = pick (nat_lt (r.order.time x) moment) refl
    where
      pick : (a : Bool) → nat_lt (r.order.time x) moment ≡ a → (moment ≤ r.order.time x) ↔ (cond a (x ∷ earlier r.order moment xs) (earlier r.order moment xs) ≡ [])
      pick true h = (λ late. absurd (let early = ltb-true _ _ h in omega arith), λ n. absurd cc)
      pick false h = (λ late. none-behind x xs up.0 late, λ n. ltb-false _ _ h)

  pub oldest-tells : (done : List Message) → IsAscending r.order done → (first : Option ℕ) → first ≡ option_map r.order.time (slice_get done 0) →
      (late : Bool) → IsTrue late ↔ IfSome first (λ time. moment ≤ time) → IsTrue late ↔ (earlier r.order moment done ≡ [])
  oldest-tells done up first e late told = (
    λ t. (oldest-is done up).0 (subst (λ (z : Option ℕ). IfSome z (λ time. moment ≤ time)) e (told.0 t)),
    λ n. told.1 (subst (λ (z : Option ℕ). IfSome z (λ time. moment ≤ time)) (sym e) ((oldest-is done up).1 n)),
  )

-- where a done event is earlier than g, the oldest one can be committed, since a process that is safe counts it just once
pub some-commits : {S K : Type 0} (f : Simulation Message S K Note) → Laws f → (p g : ℕ) (part : Part Message S) → IsSafePart f p g part → earlier f.rules.order g part.done ≢ [] → can_move f g Committed part ≡ true
some-commits f L p g part s some = go part.done refl
  where
    go : (ms : List Message) → part.done ≡ ms → can_move f g Committed part ≡ true
    go [] d = absurd (some (ap (earlier f.rules.order g) d))
    go (m ∷ ms) d = pick (nat_lt (f.rules.order.time m) g) refl
      where
        pick : (b : Bool) → nat_lt (f.rules.order.time m) g ≡ b → can_move f g Committed part ≡ true
        pick true early =
            let one = s.counts_one m (subst (λ z. IsIn f.rules.order m z) (sym d) (in-head f.rules.order L.order m ms)) (ltb-true _ _ early) in
            let once = eq-eqb (pluses f.rules.order m part.tally) (minuses f.rules.order m part.tally + 1) one in
            ap (λ (z : List Message). is_early f g z && can_commit f.rules.order part z) d ∙ (λ i. early i && once i)
        pick false late =
            absurd (some ((oldest-is f.rules L.order g part.done s.well.ascending).0
            (subst (λ (z : List Message). IfSome (option_map f.rules.order.time (slice_get z 0)) (λ time. g ≤ time)) (sym d) (ltb-false _ _ late))))
