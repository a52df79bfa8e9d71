-- How many done events can be committed, by the rules of an actor and by those of messages alone.
use Rattle.std.proofs.Common.{◌≡◌, ℕ, zero, suc, ◌+◌, ◌≤◌, ◌==◌, ◌&&◌, if◌then◌else◌, nat_lt, List, [], ◌∷◌, map, take, pos, ◌-ℤ◌, refl, sym, ap, ◌∙◌, arith}
use Rattle.std.proofs.lemmas.Bool.Decides.{nat_tests}
use Rattle.std.proofs.lemmas.Int.{ints}
use Rattle.vlink.specs.declared.message.Message.{Message}
use Rattle.vlink.specs.declared.note.Note.{Note}
use Rattle.virtual_time.specs.Law.{Order, Rules, pluses, minuses, Part}
use Rattle.virtual_time.specs.declared.letter.Letter.{Letter}
use Rattle.vlink.specs.Order.{message_order}
use Rattle.antimessages.specs.Counting.{HaveSameCounts}
use Rattle.process_queues.specs.Queues.{Queues, StandsFor}
use Rattle.process_queues.specs.Committing.{is_committable, committable}
use Rattle.process_queues.proofs.Rolls.{done-messages}

-- no more than are looked at
pub committable-within : {M : Type 0} (order : Order M) (g : ℕ) (tally : List (Letter M)) (n : ℕ) (ms : List M) → committable order g tally (take n ms) ≤ n
committable-within order g tally zero ms = omega arith
committable-within order g tally (suc n) [] = omega arith
committable-within order g tally (suc n) (m ∷ ms) = let i = committable-within order g tally n ms in grind arith

-- one letter more of one sign than of the other, by the difference of their numbers
same-one : (p q p' q' : ℕ) → pos p -ℤ pos q ≡ pos p' -ℤ pos q' → (p == q + 1) ≡ (p' == q' + 1)
same-one p q p' q' e = grind (arith, nat_tests, ints)

is_committable-agree : (g : ℕ) (a b : List (Letter Message)) → HaveSameCounts message_order a b → (m : Message) → is_committable message_order g a m ≡ is_committable message_order g b m
is_committable-agree g a b h m =
    ap (λ one. nat_lt m.time g && one) (same-one (pluses message_order m a) (minuses message_order m a) (pluses message_order m b) (minuses message_order m b) (h m))

committable-agree : (g : ℕ) (a b : List (Letter Message)) → HaveSameCounts message_order a b → (ms : List Message) → committable message_order g a ms ≡ committable message_order g b ms
committable-agree g a b h [] = refl
committable-agree g a b h (m ∷ ms) =
    ap (λ can. if can then suc (committable message_order g a ms) else 0) (is_committable-agree g a b h m) ∙
    ap (λ n. if is_committable message_order g b m then suc n else 0) (committable-agree g a b h ms)

pub committable-stands : {S K : Type 0} {r : Rules Message S K Note} → r.order ≡ message_order →
    {is_value : S → Message → Type 0} {opening : S} {part : Part Message S} {q : Queues S K} →
    StandsFor r is_value opening part q → (g n : ℕ) → committable message_order g q.tally (take n (map (λ e. e.message) q.past.done)) ≡ committable r.order g part.tally (take n part.done)
committable-stands same {part = part} {q} h g n =
    ap (λ ms. committable message_order g q.tally (take n ms)) (done-messages h.past) ∙
    (sym (committable-agree g part.tally q.tally h.counts (take n part.done)) ∙ sym (ap (λ o. committable o g part.tally (take n part.done)) same))
