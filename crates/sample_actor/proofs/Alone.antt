-- The summing actor alone: where the run ends before 5 ns it sends nothing.
use Rattle.std.proofs.Common.{◌≡◌, ℕ, zero, suc, ◌+◌, ◌<◌, ◌≤◌, inl, inr, Bool, true, false, cond, List, [], ◌∷◌, Some, refl, sym, ap, subst, arith, slice_get}
use Rattle.std.specs.Prelude.{⊤}
use Rattle.std.proofs.lemmas.Bool.{lt-leb}
use Rattle.vlink.specs.declared.message.Message.{Message}
use Rattle.vlink.specs.declared.note.Note.{Note}
use Rattle.vlink.specs.declared.message.Body.TheVariants.{PortFree}
use Rattle.vlink.specs.Order.{message_order}
use Rattle.virtual_time.specs.Law.{Rules, IsOrder, reached, IsIn, times_in, one_if, same}
use Rattle.virtual_time.proofs.Lists.{in-cons}
use Rattle.virtual_time.proofs.Reading.{reached-keeps}
use Rattle.reverse.specs.Rules.{rules_of}
use Rattle.reverse.specs.Setting.{Setting, AreInStates, Opens, IsLaidOut}
use Rattle.sample_actor.specs.declared.summing.Summing.{Summing}
use Rattle.sample_actor.specs.declared.summing.SumRecord.{SumRecord}
use Rattle.sample_actor.specs.Summing.{summing, sends}

abbrev summing_rules : Rules Message Summing SumRecord Note
summing_rules = rules_of summing

-- one process, this actor, and one offer
abbrev pub setting : Summing → Message → Setting Summing
setting actor offer = record { processes = 1; until = actor.until; opening = λ p. actor; offers = offer ∷ [] }

pub opens : (actor : Summing) (offer : Message) (actors : List Summing) (offers : List Message) → actors ≡ actor ∷ [] → offers ≡ offer ∷ [] → Opens (setting actor offer) actors offers
opens actor offer actors offers a o =
    record {
      actors_open = subst (AreInStates 1 (λ p. actor)) (sym a) (record { count = refl; each = each });
      offered = o;
    }
  where
    each : (p : ℕ) → p < 1 → slice_get (actor ∷ []) p ≡ Some actor
    each zero h = refl
    each (suc p) h = absurd (omega arith)

sends-none : (s : Summing) (e : Message) → s.until < 5 → sends s e ≡ []
sends-none s e h =
    ap (λ b. cond b (record { time = e.time + 5; receiver = 1; sender = 0; number = s.counter; body = PortFree 0 } ∷ []) []) (lt-leb (e.time + 5) s.until (omega arith))

module _ (O : IsOrder message_order) (actor : Summing) (short : actor.until < 5) (offer : Message) where
  reached-short : (s : Summing) → (ms : List Message) → s ≡ reached summing_rules actor ms → s.until < 5
  reached-short s ms e = subst (λ (z : Summing). z.until < 5) (sym e) (reached-keeps summing_rules O (λ (z : Summing). z.until < 5) (λ z m g. g) actor ms short)

  the-offer : (m : Message) → IsIn message_order m (offer ∷ []) → m ≡ offer
  the-offer m j = elim (in-cons message_order O m offer [] j) [ inl e ↦ e | inr none ↦ absurd (omega arith) ]

  once : (m : Message) → times_in message_order m (offer ∷ []) ≤ 1
  once m = go (same message_order m offer)
    where
      go : (b : Bool) → one_if b + 0 ≤ 1
      go true = omega arith
      go false = omega arith

  pub laid-out : offer.receiver ≡ 0 → offer.sender ≡ 1 → offer.time ≡ 0 → IsLaidOut summing_rules (λ s. 0) (λ s. s.until) (λ s. ⊤) (setting actor offer)
  laid-out to from at =
      record {
        number_is = λ p h. omega arith;
        end_is = λ p h. refl;
        placed = λ p h. tt;
        receivers = λ p h s r e m j.
            let none = sends-none s e (reached-short s r.0 r.1) in
            let bad = subst (λ ms. IsIn message_order m ms) none j in
            absurd (omega arith);
        offered_once = once;
        offered_from = λ m j. let k = ap (λ (z : Message). z.sender) (the-offer m j) in omega arith;
        offered_to = λ m j. let k = ap (λ (z : Message). z.receiver) (the-offer m j) in omega arith;
        offered_in_time = λ m j. let k = ap (λ (z : Message). z.time) (the-offer m j) in omega arith;
      }
