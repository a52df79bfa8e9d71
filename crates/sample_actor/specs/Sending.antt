-- What the summing actor sends.
use Rattle.std.proofs.Common.{◌≡◌, ◌+◌, ◌<◌, ◌≤◌, Bool, true, false, cond, nat_le, [], ◌∷◌, All, refl, arith, leb-true}
use Rattle.std.proofs.lemmas.List.Elements.{All-nil, All-cons}
use Rattle.vlink.specs.declared.message.Message.{Message}
use Rattle.vlink.specs.declared.message.Body.TheVariants.{PortFree}
use Rattle.virtual_time.specs.Law.{IsNumbered}
use Rattle.sample_actor.specs.declared.summing.Summing.{Summing}
use Rattle.sample_actor.specs.Summing.{sends}

-- what holds of the one message, where it is sent in time, holds of all that is sent
sends-all : (P : Message → Type 0) (s : Summing) (e : Message) →
    (e.time + 5 ≤ s.until → P (record { time = e.time + 5; receiver = 1; sender = 0; number = s.counter; body = PortFree 0 })) → All P (sends s e)
sends-all P s e h = go (nat_le (e.time + 5) s.until) refl
  where
    go : (b : Bool) → nat_le (e.time + 5) s.until ≡ b →
        All P (cond b (record { time = e.time + 5; receiver = 1; sender = 0; number = s.counter; body = PortFree 0 } ∷ []) [])
    go true t = All-cons P _ [] (h (leb-true (e.time + 5) s.until t)) (All-nil P)
    go false t = All-nil P

pub sends-own : (s : Summing) (e : Message) → All (λ m. m.sender ≡ 0) (sends s e)
sends-own s e = sends-all (λ m. m.sender ≡ 0) s e (λ h. refl)

pub sends-later : (s : Summing) (e : Message) → All (λ m. e.time < m.time) (sends s e)
sends-later s e = sends-all (λ m. e.time < m.time) s e (λ h. omega arith)

pub sends-timely : (s : Summing) (e : Message) → All (λ m. m.time ≤ s.until) (sends s e)
sends-timely s e = sends-all (λ m. m.time ≤ s.until) s e (λ h. h)

pub sends-numbered : (s : Summing) (e : Message) → IsNumbered (λ (m : Message). m.number) s.counter (sends s e)
sends-numbered s e = go (nat_le (e.time + 5) s.until)
  where
    go : (b : Bool) → IsNumbered (λ (m : Message). m.number) s.counter
        (cond b (record { time = e.time + 5; receiver = 1; sender = 0; number = s.counter; body = PortFree 0 } ∷ []) [])
    go true = (refl, tt)
    go false = tt
