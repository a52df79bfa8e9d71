-- What a group in hand states of its processes in the small world: what they handle next waits in its queue, and no letter is left at them.
use Rattle.std.proofs.Common.{◌≡◌, ℕ, ◌≤◌, ◌++◌, Bool, true, false, All, List, [], Some, slice_get, sym, ap, ◌∙◌, subst, arith, append-nil}
use Rattle.vlink.specs.declared.message.Message.{Message}
use Rattle.vlink.specs.Order.{message_order}
use Rattle.virtual_time.specs.Law.{IsOrder, World, IsIn, next_of, received_by, times_in}
use Rattle.virtual_time.proofs.Lists.{times-append}
use Rattle.virtual_time.proofs.Reading.{next-is}
use Rattle.ends.specs.Rounds.{IsCleared}
use Rattle.reverse.specs.Plain.{Plain}
use Rattle.reverse.specs.Rules.{is_before, rules_of}
use Rattle.reverse.specs.Setting.{Setting, simulation_of}
use Rattle.reverse.specs.declared.sends.Sends.{Sends}
use Rattle.reverse.proofs.Members.{in-all}
use Rattle.group_queues.specs.DoneEvents.{messages_of}
use Rattle.group_hand.specs.Hands.{Held, IsMember, StandsForGroup, is_ours}
use Rattle.group_hand.proofs.Going.{held-is, received-none}
use Rattle.group_hand.proofs.Member.{done-times, is-for, present-there}

module _ {S K : Type 0} (plain : Plain S Message Sends K) (O : IsOrder message_order) (V : S → Message → Type 0) (x : Setting S) (v : World Message S) (h : Held S K) (stands : StandsForGroup (rules_of plain) V x v h) where
  -- what is done is not after the end
  pub in-time : (m : Message) → IsIn message_order m (messages_of h.done) → m.time ≤ x.until
  in-time m i = stands.in_time m (let a = times-append message_order O m h.flow.queue (messages_of h.done) in omega arith)

  module _ (ours : ℕ → Bool) (mine : (p : ℕ) → is_ours h.members p ≡ ours p) where
    at : (p : ℕ) → ours p ≡ true → (s : S) × (slice_get h.members p ≡ Some (Some s))
    at p o = held-is (slice_get h.members p) (mine p ∙ o)

    its : (p : ℕ) (o : ours p ≡ true) → IsMember (rules_of plain) V (x.opening p) p (v.parts p) (at p o).0 h
    its p o = stands.members p (at p o).0 (at p o).1

    -- what a process of the group handles next waits in the queue
    pub waits-there : (p : ℕ) → ours p ≡ true → (y : Message) → next_of message_order (v.parts p) ≡ Some y → IsIn message_order y h.flow.queue
    waits-there p o y e =
        let n = next-is (rules_of plain) O (v.parts p) y e in
        let k = its p o in
        let a = present-there (rules_of plain) O V (x.opening p) p (v.parts p) (at p o).0 h stands.beside k y n.present in
        let b = done-times (rules_of plain) O V (x.opening p) p (v.parts p) (at p o).0 h stands.beside k y (is-for (rules_of plain) O V (x.opening p) p (v.parts p) (at p o).0 h stands.beside k y n.present) in
        let c = times-append message_order O y h.flow.queue (messages_of h.done) in
        let z = n.not_done in
        omega arith

    -- so it does not come before the first of the queue
    pub first-all : (m : Message) → All (λ z. is_before z m ≡ false) h.flow.queue → (q : ℕ) → ours q ≡ true → (y : Message) → next_of message_order (v.parts q) ≡ Some y → message_order.less y m ≡ false
    first-all m before q o y e = in-all message_order O (λ z. is_before z m ≡ false) y h.flow.queue before (waits-there q o y e)

    -- what a process has done and not committed, the group has
    pub done-there : (p : ℕ) → ours p ≡ true → (m : Message) → IsIn message_order m (v.parts p).done → IsIn message_order m (messages_of h.done)
    done-there p o m i =
        let k = its p o in
        let b = done-times (rules_of plain) O V (x.opening p) p (v.parts p) (at p o).0 h stands.beside k m
        (is-for (rules_of plain) O V (x.opening p) p (v.parts p) (at p o).0 h stands.beside k m (k.well.done_present m i)) in
        omega arith

    -- where no letter is to arrive, none is left at its processes, and their floors are what they have in hand
    pub cleared : h.flow.tray ≡ [] → (p : ℕ) → ours p ≡ true → IsCleared (simulation_of (rules_of plain) x) v p
    cleared none p o = record {
      mail = stands.mail p ∙ (ap (received_by message_order p) (append-nil h.flow.abroad) ∙ received-none message_order h.members p h.flow.abroad (mine p ∙ o) stands.elsewhere);
      tray = (its p o).tray ∙ ap (received_by message_order p) none;
      outbox = (its p o).outbox;
      floor = stands.settled p (mine p ∙ o);
    }
