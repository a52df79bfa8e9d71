-- Letters go from the mail to a process.
use Rattle.std.proofs.Common.{◌≡◌, ℕ, ◌+◌, ◌<◌, ◌≤◌, inl, inr, min, List, [], ◌∷◌, ◌++◌, map, length, take, slice_get, Option, Some, None, refl, sym, ap, ◌∙◌, subst, arith, option_map, set, length-set, get_or-set_same, get_or-set_other, length-take}
use Rattle.std.proofs.lemmas.List.{take_more, map-append, nil_from_length}
use Rattle.std.proofs.lemmas.Bool.{cases_eq}
use Rattle.std.proofs.lemmas.Option.{get_or_from_slice_get}
use Rattle.vlink.specs.declared.message.Message.{Message}
use Rattle.vlink.specs.declared.note.Note.{Note}
use Rattle.virtual_time.specs.Law.{Rules, Simulation, lowest, times_of, Part, opened, Act, local, after_moves, Deliver, Collected, Entry, acts_of, own_in, last_place, reach, after_own}
use Rattle.virtual_time.specs.declared.moved.Move.{Move}
use Rattle.virtual_time.proofs.Journal.{local-append}
use Rattle.reverse.specs.Setting.{Setting}
use Rattle.antimessages.specs.Letters.{Store}
use Rattle.vlink.specs.Order.{message_order}
use Rattle.vlink.specs.Letters.{Letter}
use Rattle.antimessages.specs.Mailing.{letters_for}
use Rattle.gvt.specs.Horizon.{Floors}
use Rattle.process_queues.specs.Queues.{Queues, StandsFor, Does, delivered_all}
use Rattle.journal.specs.Deeds.{entry_by}
use Rattle.process_exchange.specs.declared.mark.Standing.{Standing}
use Rattle.process_exchange.specs.Views.{Ledger, HeldState, unplaced, standing_of, place_of, own_of}
use Rattle.process_exchange.specs.Keeps.{AreMarked, IsRecorded}
use Rattle.process_exchange.specs.Effects.{mark_at, collects, Collects}

-- the deliveries of these letters
delivered-local : {S K : Type 0} (r : Rules Message S K Note) (o : S) (ls : List Letter) (part : Part Message S) → delivered_all ls part ≡ local r o (map (λ l. Deliver l) ls) part
delivered-local r o [] part = refl
delivered-local r o (l ∷ ls) part = delivered-local r o ls _

lowest-push : (d : ℕ) (xs : List ℕ) (x : ℕ) → lowest d (xs ++ x ∷ []) ≡ min x (lowest d xs)
lowest-push d [] x = refl
lowest-push d (y ∷ xs) x = let a = lowest-push d xs x in omega arith

times-more : (d : ℕ) (ls : List Letter) (i : ℕ) (l : Letter) → i < length ls → slice_get ls i ≡ Some l →
    lowest d (times_of message_order (take (i + 1) ls)) ≡ min l.message.time (lowest d (times_of message_order (take i ls)))
times-more d ls i l h e =
    ap (λ z. lowest d (times_of message_order z)) (take_more ls i l h ∙ ap (λ z. take i ls ++ z ∷ []) (get_or_from_slice_get ls i l l e)) ∙
    (ap (lowest d) (map-append (λ (x : Letter). x.message.time) (take i ls) (l ∷ [])) ∙
    lowest-push d (times_of message_order (take i ls)) l.message.time)

-- a floor that has fallen to the first letters falls to the next
pub floor-more : (ls : List Letter) (i : ℕ) (l : Letter) → i < length ls → slice_get ls i ≡ Some l → (first now new : Option ℕ) →
    now ≡ option_map (λ d. lowest d (times_of message_order (take i ls))) first → new ≡ option_map (min l.message.time) now →
    new ≡ option_map (λ d. lowest d (times_of message_order (take (i + 1) ls))) first
floor-more ls i l h e None now new a b = b ∙ ap (option_map (min l.message.time)) a
floor-more ls i l h e (Some d) now new a b = b ∙ (ap (option_map (min l.message.time)) a ∙ ap (λ z. Some z) (sym (times-more d ls i l h e)))

-- one process saw a GVT that is not later
pub marks-seen : {processes gvt : ℕ} {es : List (Entry Message)} {standings : List Standing} → AreMarked processes es gvt standings → (p : ℕ) → p < processes → (s : Standing) →
    place_of s.last ≡ last_place p es → own_of p s.last ≡ own_in p es → s.seen ≤ gvt → AreMarked processes es gvt (set standings p s)
marks-seen {processes = processes} {gvt = gvt} {es = es} {standings = standings} old p i s place tells low = record {
  count = length-set standings p s ∙ old.count;
  place_is = λ q j. elim (cases_eq q p) [
    | inl d ↦ ap (λ (z : Standing). place_of z.last) (at-here q d) ∙ (place ∙ ap (λ z. last_place z es) (sym d))
    | inr n ↦ ap (λ (z : Standing). place_of z.last) (elsewhere q n) ∙ old.place_is q j
  ];
  told = λ q j. elim (cases_eq q p) [
    | inl d ↦ ap (λ (z : Standing). own_of q z.last) (at-here q d) ∙ (ap (λ z. own_of z s.last) d ∙ (tells ∙ ap (λ z. own_in z es) (sym d)))
    | inr n ↦ ap (λ (z : Standing). own_of q z.last) (elsewhere q n) ∙ old.told q j
  ];
  seen_low = λ q j. elim (cases_eq q p) [
    | inl d ↦ subst (λ (z : Standing). z.seen ≤ gvt) (sym (at-here q d)) low
    | inr n ↦ subst (λ (z : Standing). z.seen ≤ gvt) (sym (elsewhere q n)) (old.seen_low q j)
  ];
}
  where
    at-here : (q : ℕ) → q ≡ p → standing_of (set standings p s) q ≡ s
    at-here q d = ap (standing_of (set standings p s)) d ∙ get_or-set_same standings p s unplaced (let a = old.count in omega arith)

    elsewhere : (q : ℕ) → (q ≡ p → ⊥) → standing_of (set standings p s) q ≡ standing_of standings q
    elsewhere q n = get_or-set_other standings p q s unplaced n

module _ {S K : Type 0} {r : Rules Message S K Note} {number end : S → ℕ} {is_placed : S → Type 0} {x : Setting S} {es : List (Entry Message)} {mail : List Store} {floors : Floors}
    {gvt count : ℕ} {standings : List Standing} (k : IsRecorded r number end is_placed x es mail floors gvt count standings) where
  -- other standings, and room in the mail
  pub kept-as : (mail' : List Store) → length mail' ≡ length mail → ((q : ℕ) → letters_for q mail' ≡ letters_for q mail) → (standings' : List Standing) → AreMarked x.processes es gvt standings' →
      IsRecorded r number end is_placed x es mail' floors gvt count standings'
  kept-as mail' boxes letters standings' marked = record {
    laid = k.laid;
    boxes = boxes ∙ k.boxes;
    floor_count = k.floor_count;
    until = k.until;
    mail_is = λ q i. letters q ∙ k.mail_is q i;
    floors_is = k.floors_is;
    gvt_is = k.gvt_is;
    count_is = k.count_is;
    enough = k.enough;
    parts_is = k.parts_is;
    marked = marked;
  }

  -- a refusal leaves room in the mail at most
  pub kept-refused : (es' : List (Entry Message)) → es' ≡ es → (mail' : List Store) → length mail' ≡ length mail → ((q : ℕ) → letters_for q mail' ≡ letters_for q mail) →
      IsRecorded r number end is_placed x es' mail' floors gvt count standings
  kept-refused es' same mail' boxes letters =
      subst (λ us. IsRecorded r number end is_placed x us mail' floors gvt count standings) (sym same) (kept-as mail' boxes letters standings k.marked)

-- a process without a block, after these letters were collected for it
pub part-collected : {S K : Type 0} (f : Simulation Message S K Note) (p : ℕ) (own own' : List (Act Message)) (block : List Move) (xs : List Letter) → block ≡ [] → own' ≡ own ++ acts_of (Collected xs) →
    after_own f p own' ≡ local f.rules (f.opening p) (acts_of (Collected xs)) (after_moves f.rules (f.opening p) block (after_own f p own))
part-collected f p own own' block xs none more =
    ap (after_own f p) more ∙
    (local-append f (f.opening p) own (acts_of (Collected xs)) (opened (f.opening p)) ∙
    ap (λ b. local f.rules (f.opening p) (acts_of (Collected xs)) (after_moves f.rules (f.opening p) b (after_own f p own))) (sym none))

pub stands-collected : {S K : Type 0} (f : Simulation Message S K Note) (is_value : S → Message → Type 0) (p : ℕ) (own own' : List (Act Message)) (block : List Move) (xs : List Letter) (q q' : Queues S K) →
    block ≡ [] → own' ≡ own ++ acts_of (Collected xs) → StandsFor f.rules is_value (f.opening p) (after_moves f.rules (f.opening p) block (after_own f p own)) q →
    Does f.rules is_value (λ opening. delivered_all xs) q q' → StandsFor f.rules is_value (f.opening p) (after_own f p own') q'
stands-collected f is_value p own own' block xs q q' none more stands does =
    let part = after_moves f.rules (f.opening p) block (after_own f p own) in
    subst (λ z. StandsFor f.rules is_value (f.opening p) z q') (delivered-local f.rules (f.opening p) xs part ∙ sym (part-collected f p own own' block xs none more))
    (does (f.opening p) part stands)

module _ {S K : Type 0} (f : Simulation Message S K Note) (x : Ledger) (h : HeldState S) (y : Ledger) (k : HeldState S) where
  -- some were there
  pub collects-some : (xs ys : List Letter) → ys ≡ xs → 0 < length ys →
      y ≡ record { entries = x.entries ++ entry_by h.number h.mark.place (Collected ys) ∷ []; marks = set x.marks h.number (mark_at (Some (length x.entries)) (reach f x.entries).gvt); shared = x.shared; limit = x.limit } →
      k ≡ record h { part = local f.rules (f.opening h.number) (acts_of (Collected ys)) h.part; block = []; own = h.own ++ acts_of (Collected ys); mark = mark_at (Some (length x.entries)) (reach f x.entries).gvt } →
      collects f xs x h y k
  collects-some xs ys is some a b = subst (λ z. collects f z x h y k) is (go ys some a b)
    where
      go : (zs : List Letter) → 0 < length zs →
          y ≡ record { entries = x.entries ++ entry_by h.number h.mark.place (Collected zs) ∷ []; marks = set x.marks h.number (mark_at (Some (length x.entries)) (reach f x.entries).gvt); shared = x.shared; limit = x.limit } →
          k ≡ record h { part = local f.rules (f.opening h.number) (acts_of (Collected zs)) h.part; block = []; own = h.own ++ acts_of (Collected zs); mark = mark_at (Some (length x.entries)) (reach f x.entries).gvt } →
          collects f zs x h y k
      go [] some a b = absurd (omega arith)
      go (l ∷ ls) some a b = (a, b)

  -- none was there
  pub collects-none : (most : ℕ) → min most (length ((reach f x.entries).mail h.number)) ≡ 0 →
      y ≡ record { entries = x.entries; marks = set x.marks h.number (mark_at h.mark.place (reach f x.entries).gvt); shared = x.shared; limit = x.limit } → k ≡ record h { mark = mark_at h.mark.place (reach f x.entries).gvt } →
      Collects f most x h y k 0
  collects-none most none a b =
      let letters = (reach f x.entries).mail h.number in
      let empty : take most letters ≡ [] = nil_from_length (take most letters) (length-take most letters ∙ none) in
      (sym (ap length empty), subst (λ z. collects f z x h y k) (sym empty) (a, b))
