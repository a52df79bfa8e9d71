-- All that a call gives which collects letters for a process without a block: what the Exchange and the Held keep, and what it did.
use Rattle.std.proofs.Common.{◌≡◌, ℕ, Bool, ◌+◌, ◌<◌, ◌≤◌, min, List, [], ◌∷◌, ◌++◌, set, length, take, drop, slice_get, Option, Some, Result, Ok, Err, refl, sym, ap, ◌∙◌, subst, arith, option_map, IfOk, OnErr, take-append-drop, length-take}
use Rattle.std.proofs.lemmas.List.{length-replicate, take_min}
use Rattle.vlink.specs.declared.message.Message.{Message}
use Rattle.vlink.specs.declared.note.Note.{Note}
use Rattle.virtual_time.specs.Law.{Rules, Laws, lowest, times_of, after_moves, Act, Collected, Entry, acts_of, steps_of, own_in, reach, after_own, fetched}
use Rattle.virtual_time.specs.declared.step.Step.{Step}
use Rattle.virtual_time.specs.declared.moved.Move.{Move}
use Rattle.virtual_time.proofs.Kept.{put_elim}
use Rattle.virtual_time.proofs.Journal.{takes}
use Rattle.reverse.specs.Setting.{Setting, simulation_of}
use Rattle.antimessages.specs.Letters.{Store}
use Rattle.antimessages.specs.Mailing.{letters_for}
use Rattle.gvt.specs.Horizon.{Floors}
use Rattle.process_queues.specs.Queues.{Queues, Does, delivered_all}
use Rattle.journal.specs.Deeds.{entry_by}
use Rattle.process_exchange.specs.declared.mark.Standing.{Standing}
use Rattle.process_exchange.specs.Views.{marks_in, place_of, own_of}
use Rattle.process_exchange.specs.Keeps.{IsRecorded, Holds}
use Rattle.process_exchange.specs.Effects.{Collects}
use Rattle.process_exchange.proofs.Growth.{marks-set, kept-more}
use Rattle.process_exchange.proofs.Entered.{Entered, own-more, ledger-now, held-now}
use Rattle.process_exchange.proofs.Holding.{holds-seen}
use Rattle.process_exchange.proofs.Moves.{in_hand}
use Rattle.process_exchange.proofs.Gone.{gone-stays}
use Rattle.process_exchange.proofs.Collected.{stands-collected, part-collected, collects-some}

-- no more are taken than there are
pub at-most : (most n count : ℕ) → n ≡ min most count → n ≤ count
at-most most n count is = omega arith

-- so many letters are there and there is room for them, so all are taken
pub all-taken : {E : Type 0} {room n count : ℕ} (r : Result ℕ E) → OnErr r (room < min n count) → n ≤ room → n ≤ count → IfOk r (λ k. k ≡ min n count) → r ≡ Ok n
all-taken (Ok k) a b c d = ap (λ z. Ok z) (omega arith)
all-taken (Err e) a b c d = absurd (omega arith)

module _ {S K : Type 0} {r : Rules Message S K Note} {number end : S → ℕ} {is_placed : S → Type 0} {x : Setting S} {es : List (Entry Message)} {mail : List Store} {floors : Floors}
    {gvt count : ℕ} {standings : List Standing} (k : IsRecorded r number end is_placed x es mail floors gvt count standings)
    {is_value : S → Message → Type 0} {p seen gone : ℕ} {block : List Move} {own : List (Act Message)} {q : Queues S K}
    (h : Holds r number end is_placed x is_value p seen gone block own q) (n : ℕ) (within : n ≤ length (letters_for p mail)) (some : 0 < n)
    {prior : Option ℕ} {es' : List (Entry Message)} {standings' : List Standing} {now : Standing} (w : Entered es standings p prior own (Collected (take n (letters_for p mail))) es' standings' now) (sees : now.seen ≡ gvt) where
  many : length (take n (letters_for p mail)) ≡ n
  many = omega (arith, length-take n (letters_for p mail))

  -- what the Exchange keeps
  pub kept-taken : (mail' : List Store) → length mail' ≡ length mail → letters_for p mail' ≡ drop n (letters_for p mail) → ((q : ℕ) → (q ≡ p → ⊥) → letters_for q mail' ≡ letters_for q mail) →
      (floors' : Floors) → length floors'.floors ≡ length floors.floors → floors'.until ≡ floors.until →
      slice_get floors'.floors p ≡ option_map (λ d. lowest d (times_of r.order (take n (letters_for p mail)))) (slice_get floors.floors p) →
      ((q : ℕ) → (q ≡ p → ⊥) → slice_get floors'.floors q ≡ slice_get floors.floors q) →
      IsRecorded r number end is_placed x es' mail' floors' gvt (count + n) standings'
  kept-taken mail' boxes left others floors' floor_count until here elsewhere =
      let f = simulation_of r x in
      let i = h.number_is in
      let xs = take n (letters_for p mail) in
      let rest = drop n (letters_for p mail) in
      let world = reach f es in
      let taken : length (steps_of {M = Message} p (Collected xs)) ≡ n = length-replicate (length xs) (Step.Take p 0) ∙ many in
      subst (λ us. IsRecorded r number end is_placed x us mail' floors' gvt (count + n) standings') (sym w.journal)
      (subst (λ bs. IsRecorded r number end is_placed x (es ++ entry_by p prior (Collected xs) ∷ []) mail' floors' gvt (count + n) bs) (sym w.marked)
      (kept-more k (entry_by p prior (Collected xs)) (fetched f p xs rest world) (takes f p i xs rest world (sym (k.mail_is p i) ∙ sym (take-append-drop n (letters_for p mail)))) refl
      mail' boxes
      (put_elim (λ q ls. q < x.processes → letters_for q mail' ≡ ls) p rest world.mail (λ j. left) (λ q n j. others q n ∙ k.mail_is q j))
      floors' floor_count until
      (put_elim (λ q n. q < x.processes → slice_get floors'.floors q ≡ Some n) p (lowest (world.floors p) (times_of r.order xs)) world.floors
      (λ j. here ∙ ap (option_map (λ d. lowest d (times_of r.order xs))) (k.floors_is p j)) (λ q n j. elsewhere q n ∙ k.floors_is q j))
      gvt k.gvt_is (count + n) (ap (λ m. count + m) (sym taken)) (subst (λ m. 0 < m) (sym taken) some)
      (set standings p now) (marks-set es (entry_by p prior (Collected xs)) k.marked (λ q. refl) i now w.place (w.told ∙ ap (own_in p) w.journal) (omega arith))))

  module _ (none : block ≡ []) where
    -- what the Held keeps
    pub holds-taken : {mail' : List Store} {floors' : Floors} {count' : ℕ} → IsRecorded r number end is_placed x es' mail' floors' gvt count' standings' → Laws (simulation_of r x) →
        (q₁ q' : Queues S K) → q₁ ≡ q → Does r is_value (λ opening. delivered_all (take n (letters_for p mail))) q₁ q' → q'.left ≡ q₁.left →
        Holds r number end is_placed x is_value p now.seen gone block (own_of p now.last) q'
    holds-taken kept L q₁ q' same does left =
        let f = simulation_of r x in
        let xs = take n (letters_for p mail) in
        subst (λ g. Holds r number end is_placed x is_value p g gone block (own_of p now.last) q') (sym sees)
        (holds-seen kept L is_value p h.number_is (own_of p now.last) w.told q'
        (stands-collected f is_value p own (own_of p now.last) block xs q q' none (own-more w) h.stands
        (subst (λ z. Does r is_value (λ opening. delivered_all xs) z q') same does))
        gone
        (gone-stays r (x.opening p) (after_moves r (x.opening p) block (after_own f p own)) q h.stands gone h.gone_early (acts_of (Collected xs)) _
        (part-collected f p own (own_of p now.last) block xs none (own-more w)) q' (left ∙ ap (λ (z : Queues S K). z.left) same))
        block none)

    -- what was done
    pub collects-taken : (most : ℕ) (shared shared' : Bool) → shared' ≡ shared → (limit : ℕ) → n ≡ min most (length (letters_for p mail)) →
        Collects (simulation_of r x) most
        (record { entries = es; marks = marks_in standings; shared = shared; limit = limit }) (in_hand (simulation_of r x) p own prior seen gone block)
        (record { entries = es'; marks = marks_in standings'; shared = shared'; limit = limit }) (in_hand (simulation_of r x) p (own_of p now.last) (place_of now.last) now.seen gone block)
        n
    collects-taken most shared shared' same-table limit n-is =
        let f = simulation_of r x in
        let xs = take n (letters_for p mail) in
        let world = reach f es in
        let same : xs ≡ take most (world.mail p) = ap (λ m. take m (letters_for p mail)) n-is ∙ (take_min most (letters_for p mail) ∙ ap (take most) (k.mail_is p h.number_is)) in
        let part-is = part-collected f p own (own_of p now.last) block xs none (own-more w) in (
          sym many ∙ ap length same,
          collects-some f _ _ _ _ (take most (world.mail p)) xs same (subst (λ m. 0 < m) (sym many) some)
              (ledger-now w world.gvt (sees ∙ k.gvt_is) shared shared' same-table limit) (held-now w world.gvt (sees ∙ k.gvt_is) f _ part-is block none gone),
        )
