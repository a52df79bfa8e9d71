-- What an event sent goes on, one message after another.
use Rattle.std.proofs.Common.{◌≡◌, ◌⊎◌, inl, inr, Bool, true, false, Option, List, [], ◌∷◌, ◌++◌, map, All, refl, sym, ap, ◌∙◌, subst, append_assoc, append-nil}
use Rattle.std.proofs.lemmas.List.Elements.{All-push}
use Rattle.vlink.specs.declared.message.Message.{Message}
use Rattle.vlink.specs.Order.{message_order}
use Rattle.virtual_time.specs.Law.{IsOrder, IsIn, plus_of, received_by, times_in, AreDone, done_by}
use Rattle.reverse.specs.Plain.{Plain}
use Rattle.reverse.specs.Rules.{rules_of}
use Rattle.reverse.specs.Setting.{simulation_of}
use Rattle.reverse.specs.declared.sends.Sends.{Sends}
use Rattle.two_lists.proofs.Counting.{times-permutation}
use Rattle.group_queues.specs.declared.block.Word.TheVariants.{Home, Taken}
use Rattle.group_queues.specs.Block.{steps_told}
use Rattle.group_queues.specs.Flow.{Flow, WentAbroad, CameHome, WasTaken}
use Rattle.group_hand.specs.Hands.{StandsForSent, is_ours}
use Rattle.group_hand.specs.Passing.{GoesOn, held}
use Rattle.group_hand.proofs.Adding.{commits-none, runs-none}
use Rattle.group_hand.proofs.Telling.{done-append, are_done-append, by-both}
use Rattle.group_queues.proofs.Steps.{told-append}
use Rattle.group_hand.proofs.Going.{stands-kept, came-steps, came-home}
use Rattle.group_hand.proofs.Taking.{taken-steps, was-taken}

module _ {S K : Type 0} (plain : Plain S Message Sends K) (V : S → Message → Type 0) (O : IsOrder message_order)
    (law : (s : S) (e : Message) → plain.before (plain.after s e) e (plain.saves s e) ≡ s) (members : List (Option S)) (all : List Message) where
  pub none-gone : (old : Flow) (sent : List Message) → GoesOn (rules_of plain) V members all old sent old sent
  none-gone old sent = record {
    did = [];
    words = sym (append-nil old.words);
    keeps = refl;
    by = tt;
    no_run = refl;
    no_commit = refl;
    stands = λ done rows x L v soon before g. (tt, g);
  }

  pub both-gone : (old mid new : Flow) (sent between left : List Message) → GoesOn (rules_of plain) V members all old sent mid between →
      GoesOn (rules_of plain) V members all mid between new left → GoesOn (rules_of plain) V members all old sent new left
  both-gone old mid new sent between left a b = record {
    did = a.did ++ b.did;
    words = b.words ∙ (ap (λ z. z ++ b.did) a.words ∙ append_assoc old.words a.did b.did);
    keeps = b.keeps ∙ a.keeps;
    by = by-both (is_ours members) a.did b.did a.by b.by;
    no_run = runs-none a.did b.did a.no_run b.no_run;
    no_commit = commits-none a.did b.did a.no_commit b.no_commit;
    stands = λ done rows x L v soon before g.
        let f = simulation_of (rules_of plain) x in
        let one = a.stands done rows x L v soon before g in
        let two = b.stands done rows x L (done_by f (steps_told a.did) v) soon before one.1 in (
          subst (λ xs. AreDone f xs v) (sym (told-append a.did b.did)) (are_done-append f (steps_told a.did) (steps_told b.did) v one.0 two.0),
          subst (λ w. StandsForSent (rules_of plain) V x w (held members done rows new) (map plus_of left))
              (sym (ap (λ xs. done_by f xs v) (told-append a.did b.did) ∙ done-append f (steps_told a.did) (steps_told b.did) v)) two.1,
        );
  }

  module _ (mid new : Flow) (m : Message) (rest : List Message) (inside : IsIn message_order m all) where
    gone-abroad : is_ours members m.receiver ≡ false → WentAbroad m mid new → GoesOn (rules_of plain) V members all mid (m ∷ rest) new rest
    gone-abroad o e = record {
      did = [];
      words = ap (λ z. z.words) e ∙ sym (append-nil mid.words);
      keeps = ap (λ z. z.keeps) e;
      by = tt;
      no_run = refl;
      no_commit = refl;
      stands = λ done rows x L v soon before g. (
        tt,
        stands-kept (rules_of plain) O V law x v (held members done rows mid) (held members done rows new) (map plus_of (m ∷ rest)) (map plus_of rest) refl refl refl
            (λ y. ap (λ z. times_in message_order y z.queue) e) (ap (λ z. z.extra) e) (ap (λ z. z.tray) e)
            (λ q. ap (received_by message_order q) (sym (ap (λ z. z.abroad ++ map plus_of rest) e ∙ append_assoc mid.abroad (plus_of m ∷ []) (map plus_of rest))))
            (subst (λ ls. All (λ l. is_ours members (message_order.receiver l.message) ≡ false) ls) (sym (ap (λ z. z.abroad) e))
            (All-push (λ l. is_ours members (message_order.receiver l.message) ≡ false) mid.abroad (plus_of m) g.elsewhere o))
            g,
      );
    }

    gone-home : is_ours members m.receiver ≡ true → CameHome m mid new → GoesOn (rules_of plain) V members all mid (m ∷ rest) new rest
    gone-home o c = record {
      did = Home m.receiver ∷ [];
      words = c.words;
      keeps = c.keeps;
      by = (o, (o, tt));
      no_run = refl;
      no_commit = refl;
      stands = λ done rows x L v soon before g. (
        came-steps (rules_of plain) O V law x L v (held members done rows mid) (held members done rows new) m (map plus_of rest) refl refl refl c.extra c.tray c.abroad
            (λ y. times-permutation message_order y (m ∷ mid.queue) new.queue c.queue) c.none_before c.not_beside o (λ y i. before m y inside i) (soon m inside) g,
        came-home (rules_of plain) O V law x L v (held members done rows mid) (held members done rows new) m (map plus_of rest) refl refl refl c.extra c.tray c.abroad
            (λ y. times-permutation message_order y (m ∷ mid.queue) new.queue c.queue) c.none_before c.not_beside o (λ y i. before m y inside i) (soon m inside) g,
      );
    }

    gone-taken : is_ours members m.receiver ≡ true → WasTaken m mid new → GoesOn (rules_of plain) V members all mid (m ∷ rest) new rest
    gone-taken o e = record {
      did = Taken m.receiver ∷ [];
      words = ap (λ z. z.words) e;
      keeps = ap (λ z. z.keeps) e;
      by = (o, tt);
      no_run = refl;
      no_commit = refl;
      stands = λ done rows x L v soon before g. (
        taken-steps (rules_of plain) V x v (held members done rows mid) (held members done rows new) (plus_of m) refl refl refl (ap (λ z. z.queue) e) (ap (λ z. z.extra) e)
            (ap (λ z. z.tray) e) o (soon m inside) (ap (λ z. z.abroad) e) (map plus_of rest) g,
        was-taken (rules_of plain) V x v (held members done rows mid) (held members done rows new) (plus_of m) refl refl refl (ap (λ z. z.queue) e) (ap (λ z. z.extra) e)
            (ap (λ z. z.tray) e) o (soon m inside) (ap (λ z. z.abroad) e) (map plus_of rest) g,
      );
    }

    pub one-gone : (b : Bool) → b ≡ is_ours members m.receiver → (b ≡ false → WentAbroad m mid new) → (b ≡ true → CameHome m mid new ⊎ WasTaken m mid new) →
        GoesOn (rules_of plain) V members all mid (m ∷ rest) new rest
    one-gone false e abroad home = gone-abroad (sym e) (abroad refl)
    one-gone true e abroad home = go (home refl)
      where
        go : CameHome m mid new ⊎ WasTaken m mid new → GoesOn (rules_of plain) V members all mid (m ∷ rest) new rest
        go (inl c) = gone-home (sym e) c
        go (inr c) = gone-taken (sym e) c
