-- What the passing actor sends.
use Rattle.std.proofs.Common.{◌≡◌, ℕ, ◌+◌, ◌<◌, ◌≤◌, ◌%◌, Bool, true, false, cond, nat_le, List, [], ◌∷◌, ◌++◌, length, All, refl, arith, subst, add-one, leb-true}
use Rattle.std.proofs.lemmas.List.Elements.{All-nil, All-cons, All-append}
use Rattle.vlink.specs.declared.message.Message.{Message}
use Rattle.vlink.specs.declared.message.Body.TheVariants.{PortFree}
use Rattle.virtual_time.specs.Law.{IsNumbered}
use Rattle.sample_actor.specs.declared.passing.Passing.{Passing}
use Rattle.sample_actor.specs.Passing.{passed_on, after_passing, passes}

-- what holds of the message, where it is sent in time, holds of all that is passed on
passed-all : (P : Message → Type 0) (s : Passing) (ns : ℕ) →
    (ns ≤ s.until → P (record { time = ns; receiver = ns % 5; sender = s.number; number = s.counter; body = PortFree 0 })) → All P (passed_on s ns)
passed-all P s ns h = go (nat_le ns s.until) refl
  where
    go : (b : Bool) → nat_le ns s.until ≡ b → All P (cond b (record { time = ns; receiver = ns % 5; sender = s.number; number = s.counter; body = PortFree 0 } ∷ []) [])
    go true t = All-cons P _ [] (h (leb-true ns s.until t)) (All-nil P)
    go false t = All-nil P

pub passes-own : (s : Passing) (e : Message) → All (λ m. m.sender ≡ s.number) (passes s e)
passes-own s e =
    All-append (λ m. m.sender ≡ s.number) (passed_on s (e.time + 5)) (passed_on (after_passing s (e.time + 5)) (e.time + 7))
    (passed-all (λ m. m.sender ≡ s.number) s (e.time + 5) (λ h. refl)) (passed-all (λ m. m.sender ≡ s.number) (after_passing s (e.time + 5)) (e.time + 7) (λ h. refl))

pub passes-later : (s : Passing) (e : Message) → All (λ m. e.time < m.time) (passes s e)
passes-later s e =
    All-append (λ m. e.time < m.time) (passed_on s (e.time + 5)) (passed_on (after_passing s (e.time + 5)) (e.time + 7))
    (passed-all (λ m. e.time < m.time) s (e.time + 5) (λ h. omega arith)) (passed-all (λ m. e.time < m.time) (after_passing s (e.time + 5)) (e.time + 7) (λ h. omega arith))

pub passes-timely : (s : Passing) (e : Message) → All (λ m. m.time ≤ s.until) (passes s e)
passes-timely s e =
    All-append (λ m. m.time ≤ s.until) (passed_on s (e.time + 5)) (passed_on (after_passing s (e.time + 5)) (e.time + 7))
    (passed-all (λ m. m.time ≤ s.until) s (e.time + 5) (λ h. h)) (passed-all (λ m. m.time ≤ s.until) (after_passing s (e.time + 5)) (e.time + 7) (λ h. h))

pub passes-numbered : (s : Passing) (e : Message) → IsNumbered (λ (m : Message). m.number) s.counter (passes s e)
passes-numbered s e = go (nat_le (e.time + 5) s.until)
  where
    more : (t : Passing) (ns : ℕ) → IsNumbered (λ (m : Message). m.number) t.counter (passed_on t ns)
    more t ns = one (nat_le ns t.until)
      where
        one : (b : Bool) → IsNumbered (λ (m : Message). m.number) t.counter (cond b (record { time = ns; receiver = ns % 5; sender = t.number; number = t.counter; body = PortFree 0 } ∷ []) [])
        one true = (refl, tt)
        one false = tt

    go : (b : Bool) → IsNumbered (λ (m : Message). m.number) s.counter
        (cond b (record { time = e.time + 5; receiver = (e.time + 5) % 5; sender = s.number; number = s.counter; body = PortFree 0 } ∷ []) []
        ++ passed_on (record s { counter = s.counter + length {A = Message} (cond b (record { time = e.time + 5; receiver = (e.time + 5) % 5; sender = s.number; number = s.counter; body = PortFree 0 } ∷ []) []) }) (e.time + 7))
    go true = (
      refl,
      subst (λ n. IsNumbered (λ (m : Message). m.number) n (passed_on (record s { counter = s.counter + 1 }) (e.time + 7))) (add-one s.counter)
          (more (record s { counter = s.counter + 1 }) (e.time + 7)),
    )
    go false = subst (λ n. IsNumbered (λ (m : Message). m.number) n (passed_on (record s { counter = s.counter + 0 }) (e.time + 7))) (omega arith)
        (more (record s { counter = s.counter + 0 }) (e.time + 7))
