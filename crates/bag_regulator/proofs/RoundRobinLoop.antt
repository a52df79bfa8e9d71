-- The round robin, as a loop over the lists finds it.
use Rattle.std.proofs.Common.{◌≡◌, ℕ, suc, ◌+◌, ◌-◌, ◌<◌, ◌≤◌, Bool, true, false, cond, nat_lt, inl, inr, List, [], length, get_or, set, Option, Some, refl, sym, ap, ◌∙◌, arith}
use Rattle.std.specs.Prelude.{IsTrue}
use Rattle.std.proofs.lemmas.Bool.{cases_lt}
use Rattle.std.proofs.lemmas.Bool.Decides.{nat_tests}
use Rattle.std.proofs.lemmas.List.{get_or_default, set-get_or}
use Rattle.vlink.specs.declared.frame.Frame.{Frame}
use Rattle.frame_ring.specs.Queue.{Queue}
use Rattle.bag_regulator.specs.RoundRobin.{first_from}
use Rattle.bag_regulator.specs.Regulator.{Regulator, is_some_frame, list_at, waits, with_frames, appended, queued}

module _ (p : ℕ → Bool) (q : ℕ) where
  first_from-suc : (n m : ℕ) → n ≡ suc m → first_from p q n ≡ cond (p q) (Some q) (first_from p (q + 1) m)
  first_from-suc n m e = ap (first_from p q) e

  -- the number at hand does not pass, and the next one is at hand
  pub first_from-more : (to : ℕ) → q < to → p q ≡ false → first_from p q (to - q) ≡ first_from p (q + 1) (to - (q + 1))
  first_from-more to h e =
      first_from-suc (to - q) (to - (q + 1)) (omega arith) ∙ ap (λ b. cond b (Some q) (first_from p (q + 1) (to - (q + 1)))) e

-- what is read at the place i of a list, that of the sub-virtual link q
module _ (lists : List Queue) (q i : ℕ) (list : Queue) (same : i ≡ q) (within : q < length lists) (read : list ≡ get_or lists i list) where
  pub list-read : list_at lists q ≡ list
  list-read = get_or_default lists q (record { frames = []; room = 0 }) list within ∙ sym (read ∙ ap (λ k. get_or lists k list) same)

  pub waits-no : list.frames ≡ [] → waits lists q ≡ false
  waits-no e = ap (λ (l : Queue). is_some_frame l.frames) list-read ∙ ap is_some_frame e

  -- what was done to the frames of the list was done to those of the sub-virtual link
  pub list-written : (new : Queue) (xs : List Frame) → new.frames ≡ xs → new.room ≡ list.room → set lists i new ≡ with_frames lists q xs
  list-written new xs e r =
      ap (λ k. set lists k new) same ∙ ap (set lists q) (λ j. record { frames = e j; room = (r ∙ ap (λ (l : Queue). l.room) (sym list-read)) j })

  -- a list of which nothing was changed
  pub list-kept : (new : Queue) → new.frames ≡ list.frames → new.room ≡ list.room → set lists i new ≡ lists
  list-kept new e r = ap (set lists i) ((λ j. record { frames = e j; room = r j }) ∙ read) ∙ set-get_or lists i list

-- a list that is not full has room for a frame more
pub room-left : (n room : ℕ) → n ≤ room → (n ≡ room → IsTrue false) → n < room
room-left n room within not_full = elim (cases_lt n room) [
  | inl less ↦ less
  | inr most ↦ absurd (let same : n ≡ room = omega arith in let full = not_full same in cc)
]

-- and then the frame goes to its back
pub queued-room : (g : Regulator) (q : ℕ) (frame : Frame) (asks : Option ℕ) → length (list_at g.lists q).frames < (list_at g.lists q).room →
    queued g q frame asks ≡ appended g q frame asks
queued-room g q frame asks room =
    let test : nat_lt (length (list_at g.lists q).frames) (list_at g.lists q).room ≡ true = grind (arith, nat_tests) in rw test refl
