-- A group that has done nothing stands for members that have done nothing.
use Rattle.std.proofs.Common.{◌≡◌, suc, ◌≤◌, true, false, [], ◌++◌, All, map, refl, sym, ap, ◌∙◌, subst, arith}
use Rattle.std.specs.Bool.{⊤}
use Rattle.std.proofs.lemmas.List.Elements.{All-nil}
use Rattle.vlink.specs.declared.message.Message.{Message}
use Rattle.vlink.specs.declared.note.Note.{Note}
use Rattle.vlink.specs.Letters.{Letter}
use Rattle.virtual_time.specs.Law.{Rules, IsOrder, World, IsAscending, IsIn, floor_of, opened, plus_of, pluses, minuses, received_by, rows_at, times_in, unhandled}
use Rattle.virtual_time.proofs.WellStep.{opened-well}
use Rattle.reverse.specs.Setting.{Setting}
use Rattle.antimessages.specs.Counting.{signed_count}
use Rattle.group_queues.specs.DoneEvents.{done_events_at, messages_of}
use Rattle.group_hand.specs.Hands.{Held, HasDoneNothing, IsMember, IsOpened, StandsForGroup, counted, is_held, is_ours}

module _ {S K : Type 0} (r : Rules Message S K Note) (O : IsOrder r.order) (V : S → Message → Type 0) (x : Setting S) (v : World Message S) (h : Held S K) (n : HasDoneNothing h) where
  nothing-counted : counted h ≡ []
  nothing-counted = λ j. map plus_of (n.queue j) ++ (map plus_of (messages_of (n.done j)) ++ n.extra j)

  nothing-there : (m : Message) → IsIn r.order m (h.flow.queue ++ messages_of h.done) → ⊥
  nothing-there m i = let e = ap (times_in r.order m) (λ j. n.queue j ++ messages_of (n.done j)) in omega arith

  -- the floor of one is the moment after the end
  open-floor : (s : S) → floor_of r.order x.until (opened s) ≡ suc x.until
  unfolding unhandled
  open-floor s = refl

  pub opens : IsOpened x v h → StandsForGroup r V x v h
  opens o = record {
    count = o.count;
    members = λ p s e. subst (λ part. IsMember r V (x.opening p) p part s h) (sym (o.part p (ap is_held e))) (record {
      state = sym (o.state p s e);
      done = ap (done_events_at r.order p) n.done;
      values = tt;
      counts = λ y. ap (λ ls. signed_count r.order y (received_by r.order p ls)) (sym nothing-counted);
      tray = ap (received_by r.order p) (sym n.tray);
      outbox = refl;
      rows = ap (rows_at p) n.rows;
      well = opened-well r (λ z. ⊤) (x.opening p);
    });
    mail = λ q. o.mail q ∙ ap (λ ls. received_by r.order q (ls ++ [])) (sym n.abroad);
    elsewhere = subst (λ ls. All (λ l. is_ours h.members (r.order.receiver l.message) ≡ false) ls) (sym n.abroad) (All-nil (λ (l : Letter). is_ours h.members (r.order.receiver l.message) ≡ false));
    tray_home = subst (λ ls. All (λ l. is_ours h.members (r.order.receiver l.message) ≡ true) ls) (sym n.tray) (All-nil (λ (l : Letter). is_ours h.members (r.order.receiver l.message) ≡ true));
    tray_in_time = subst (λ ls. All (λ l. r.order.time l.message ≤ x.until) ls) (sym n.tray) (All-nil (λ (l : Letter). r.order.time l.message ≤ x.until));
    home = λ m i. absurd (nothing-there m i);
    in_time = λ m i. absurd (nothing-there m i);
    beside = λ m. record {
      more = λ l. absurd (let a = ap (pluses r.order m) n.extra in omega arith);
      less = λ l. absurd (let a = ap (minuses r.order m) n.extra in omega arith);
    };
    ascending = subst (λ ds. IsAscending r.order (messages_of ds)) (sym n.done) tt;
    settled = λ p t. o.floor p t ∙ sym (ap (floor_of r.order x.until) (o.part p t) ∙ open-floor (x.opening p));
  }
