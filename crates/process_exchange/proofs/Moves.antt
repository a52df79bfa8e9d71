-- What a process does alone, one step after another.
use Rattle.std.proofs.Common.{◌≡◌, ℕ, zero, suc, ◌+◌, ◌<◌, Bool, true, false, cond, List, [], ◌∷◌, ◌++◌, length, replicate, Option, Some, refl, sym, ap, ◌∙◌, subst, arith, append_assoc, append-nil}
use Rattle.std.proofs.lemmas.Bool.{and_parts}
use Rattle.std.proofs.lemmas.List.{replicate_more}
use Rattle.vlink.specs.declared.message.Message.{Message}
use Rattle.vlink.specs.declared.note.Note.{Note}
use Rattle.vlink.specs.Letters.{Letter}
use Rattle.virtual_time.specs.Law.{Simulation, Part, Act, next_of, can_commit, oldest_committed, tallied, is_toggled, rolled_back, arrived, after_moves, after_own, can_move}
use Rattle.virtual_time.specs.declared.moved.Move.{Move}
use Rattle.virtual_time.specs.declared.moved.Move.TheVariants.{Arrived, Ran, Committed}
use Rattle.process_exchange.specs.Views.{HeldState}
use Rattle.process_exchange.specs.Effects.{moved_by, mark_at, RanEarly}
use Rattle.process_exchange.proofs.Holding.{moved-then}

module _ {S K : Type 0} (f : Simulation Message S K Note) where
  -- no step, one after some, and some after some
  pub moved-none : (h : HeldState S) → h ≡ moved_by f [] h
  moved-none h = λ i. record h { block = sym (append-nil h.block) i }

  pub moved-chain : (ms ns : List Move) (h : HeldState S) → moved_by f ns (moved_by f ms h) ≡ moved_by f (ms ++ ns) h
  moved-chain ms ns h = λ i. record h { part = sym (moved-then f (f.opening h.number) ms ns h.part) i; block = append_assoc h.block ms ns i }

  pub moved-more : (k : ℕ) (m : Move) (h h' h'' : HeldState S) → h' ≡ moved_by f (replicate k m) h → h'' ≡ moved_by f (m ∷ []) h' → h'' ≡ moved_by f (replicate (k + 1) m) h
  moved-more k m h h' h'' a b =
      b ∙ (ap (moved_by f (m ∷ [])) a ∙ (moved-chain (replicate k m) (m ∷ []) h ∙ ap (λ ms. moved_by f ms h) (replicate_more k m)))

  -- what contracts see of a process in hand
  abbrev pub in_hand : ℕ → List (Act Message) → Option ℕ → ℕ → ℕ → List Move → HeldState S
  in_hand p own place seen gone ms =
      record {
        number = p;
        part = after_moves f.rules (f.opening p) ms (after_own f p own);
        block = ms;
        own = own;
        mark = mark_at place seen;
        gone = gone;
      }

  -- and with a block that is as it was
  pub still-view : (p : ℕ) (own : List (Act Message)) (place : Option ℕ) (seen gone : ℕ) (ms : List Move) (h : HeldState S) → in_hand p own place seen gone ms ≡ h → (ms' : List Move) → ms' ≡ ms →
      in_hand p own place seen gone ms' ≡ h
  still-view p own place seen gone ms h is ms' e = ap (in_hand p own place seen gone) e ∙ is

  -- and after one step more
  pub moved-view : (p : ℕ) (own : List (Act Message)) (place : Option ℕ) (seen gone : ℕ) (ms : List Move) (m : Move) (h : HeldState S) → in_hand p own place seen gone ms ≡ h → (ms' : List Move) → ms' ≡ ms ++ m ∷ [] →
      in_hand p own place seen gone ms' ≡ moved_by f (m ∷ []) h
  moved-view p own place seen gone ms m h is ms' e = one ∙ ap (moved_by f (m ∷ [])) is
    where
      one : in_hand p own place seen gone ms' ≡ moved_by f (m ∷ []) (in_hand p own place seen gone ms)
      one = λ i. record (in_hand p own place seen gone ms) {
        part = (ap (λ b. after_moves f.rules (f.opening p) b (after_own f p own)) e ∙ moved-then f (f.opening p) ms (m ∷ []) (after_own f p own)) i;
        block = e i;
      }

  -- each arrival takes one letter from the tray
  tray-less : (o : S) (part : Part Message S) (ls : List Letter) → 0 < length ls → length (arrived f.rules o part ls).tray + 1 ≡ length ls
  tray-less o part [] h = absurd (omega arith)
  tray-less o part (l ∷ rest) h = go (is_toggled f.rules.order l part.tally)
    where
      go : (b : Bool) → length (cond b (rolled_back f.rules o l.message (tallied f.rules l rest part)) (tallied f.rules l rest part)).tray + 1 ≡ length (l ∷ rest)
      go true = omega arith
      go false = omega arith

  pub arrival-takes : (h h' : HeldState S) → 0 < length h.part.tray → h' ≡ moved_by f (Arrived ∷ []) h → length h'.part.tray + 1 ≡ length h.part.tray
  arrival-takes h h' some e = ap (λ (z : HeldState S). length z.part.tray + 1) e ∙ tray-less (f.opening h.number) h.part h.part.tray some

  -- each commit takes one done event
  done-less : (part : Part Message S) (ms : List Message) → part.done ≡ ms → can_commit f.rules.order part ms ≡ true → length (cond (can_commit f.rules.order part ms) (oldest_committed f.rules part ms) part).done < length ms
  done-less part [] e c = absurd (cc)
  done-less part (m ∷ rest) e c = rw c (omega arith)

  pub commit-takes : (h h' : HeldState S) (g : ℕ) → can_move f g Committed h.part ≡ true → h' ≡ moved_by f (Committed ∷ []) h → length h'.part.done < length h.part.done
  commit-takes h h' g can e =
      subst (λ (z : HeldState S). length z.part.done < length h.part.done) (sym e) (done-less h.part h.part.done refl (and_parts _ _ can).1)

  -- one run more that is early
  early-push : (limit k : ℕ) (o : S) (part : Part Message S) → RanEarly f limit k part → (m : Message) → next_of f.rules.order (after_moves f.rules o (replicate k Ran) part) ≡ Some m →
      f.rules.order.time m < limit → RanEarly f limit (suc k) part
  early-push limit zero o part a m e t = (m, e, t, tt)
  early-push limit (suc k) o part a m e t = (a.0, a.1, a.2, early-push limit k o _ a.3 m e t)

  pub early-more : (limit k : ℕ) (h h' : HeldState S) → h' ≡ moved_by f (replicate k Ran) h → RanEarly f limit k h.part →
      ((m : Message) × (next_of f.rules.order h'.part ≡ Some m) × (f.rules.order.time m < limit)) → RanEarly f limit (k + 1) h.part
  early-more limit k h h' is a next =
      subst (λ n. RanEarly f limit n h.part) (let e : suc k ≡ k + 1 = omega arith in e)
      (early-push limit k (f.opening h.number) h.part a next.0 (ap (λ (z : HeldState S). next_of f.rules.order z.part) (sym is) ∙ next.1) next.2)
