-- A message of the queue is done already: it counts beside, and the group stands for what it stood for.
use Rattle.std.proofs.Common.{◌≡◌, ◌+◌, ◌<◌, ◌≤◌, inl, inr, true, false, Option, List, [], ◌∷◌, ◌++◌, All, refl, sym, ap, ◌∙◌, subst, arith, append-nil}
use Rattle.std.proofs.lemmas.Int.{ints}
use Rattle.vlink.specs.declared.message.Message.{Message}
use Rattle.vlink.specs.declared.note.Note.{Note}
use Rattle.vlink.specs.Letters.{Letter}
use Rattle.virtual_time.specs.Law.{Rules, IsOrder, World, times_in, one_if, same, plus_of, received_by}
use Rattle.virtual_time.proofs.Order.{same_cases}
use Rattle.virtual_time.proofs.Lists.{times-append}
use Rattle.reverse.specs.Setting.{Setting}
use Rattle.antimessages.specs.Counting.{HaveSameCounts, signed_count}
use Rattle.two_lists.proofs.Counting.{times-permutation}
use Rattle.group_queues.specs.DoneEvents.{DoneEvent, messages_of}
use Rattle.group_queues.specs.Flow.{Flow}
use Rattle.group_hand.specs.Hands.{CountsBeside, DoesSent, StandsForSent, counted, is_ours}
use Rattle.group_hand.specs.Passing.{held}
use Rattle.group_queues.specs.Rows.{Sealed}
use Rattle.group_hand.specs.Handling.{CountsAgain}
use Rattle.group_hand.proofs.Member.{all-pluses, all-minuses}
use Rattle.group_hand.proofs.ArrivalCounts.{received-signed}
use Rattle.group_hand.proofs.Telling.{of_members-none}

module _ {S K : Type 0} (r : Rules Message S K Note) (O : IsOrder r.order) (V : S → Message → Type 0) (members : List (Option S)) (done : List (DoneEvent K)) (rows : Sealed)
    (m : Message) (old new : Flow) (a : CountsAgain r.order m done old new) where
  one-less : (y : Message) → times_in r.order y (old.queue ++ messages_of done) ≡ one_if (same r.order y m) + times_in r.order y (new.queue ++ messages_of done)
  one-less y =
      let g = times-append r.order O y old.queue (messages_of done) in
      let h = times-append r.order O y new.queue (messages_of done) in
      let i = times-permutation r.order y old.queue (m ∷ new.queue) a.queue in
      omega arith

  same-counts : HaveSameCounts r.order (counted (held members done rows old)) (counted (held members done rows new))
  same-counts y =
      let p0 = all-pluses r O V y (held members done rows old) in let p1 = all-pluses r O V y (held members done rows new) in
      let m0 = all-minuses r O V y (held members done rows old) in let m1 = all-minuses r O V y (held members done rows new) in
      let t = one-less y in
      let e : signed_count r.order y new.extra ≡ signed_count r.order y (plus_of m ∷ old.extra) = a.extra y in
      omega (arith, ints)

  beside-still : (y : Message) → CountsBeside r.order (held members done rows old) y → CountsBeside r.order (held members done rows new) y
  beside-still y b = record {
    more = λ i. elim (same_cases r.order O y m) [
      | inl e ↦ (let d = subst (λ z. 0 < times_in r.order z (messages_of done)) (sym e) a.is_done in let g = times-append r.order O y new.queue (messages_of done) in omega arith)
      | inr n ↦ (let t = one-less y in let z = ap one_if n in let e = a.extra y in let j = b.more (omega (arith, ints)) in omega arith)
    ];
    less = λ i. let t = one-less y in let e = a.extra y in let j = b.less (omega (arith, ints)) in omega arith;
  }

  pub stands-again : (x : Setting S) (v : World Message S) (sent : List Letter) → StandsForSent r V x v (held members done rows old) sent → StandsForSent r V x v (held members done rows new) sent
  stands-again x v sent g = record {
    count = g.count;
    members = λ p s e. let k = g.members p s e in record {
      state = k.state;
      done = k.done;
      values = k.values;
      counts = λ y. k.counts y ∙ received-signed r O V p (counted (held members done rows old)) (counted (held members done rows new)) same-counts y;
      tray = k.tray ∙ ap (received_by r.order p) (sym a.tray);
      outbox = k.outbox;
      rows = k.rows;
      well = k.well;
    };
    mail = λ q. g.mail q ∙ ap (λ z. received_by r.order q (z ++ sent)) (sym a.abroad);
    elsewhere = subst (All (λ l. is_ours members (r.order.receiver l.message) ≡ false)) (sym a.abroad) g.elsewhere;
    tray_home = subst (All (λ l. is_ours members (r.order.receiver l.message) ≡ true)) (sym a.tray) g.tray_home;
    tray_in_time = subst (All (λ l. r.order.time l.message ≤ x.until)) (sym a.tray) g.tray_in_time;
    home = λ y i. g.home y (let t = one-less y in omega arith);
    in_time = λ y i. g.in_time y (let t = one-less y in omega arith);
    beside = λ y. beside-still y (g.beside y);
    ascending = g.ascending;
    settled = g.settled;
  }

  pub counts-again : DoesSent r V (held members done rows old) [] (held members done rows new) []
  counts-again = record {
    did = [];
    block = a.words ∙ sym (append-nil old.words);
    keeps = a.keeps;
    rows = refl;
    stands = λ x L v g. (tt, stands-again x v [] g, of_members-none members members refl);
  }
