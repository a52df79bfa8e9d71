-- The mail of all processes: one box of it changed, one letter put there or taken, and the letters that a process receives.
use Rattle.std.proofs.Common.{◌≡◌, ℕ, zero, suc, ◌+◌, ◌-◌, ◌<◌, ◌≤◌, ◌==◌, ◌⊎◌, inl, inr, Bool, true, false, cond, List, [], ◌∷◌, ◌++◌, map, filter, set, get_or, length, take, drop, slice_get, All, Option, Some, None, Bor, option_map, option_copied, Global, refl, sym, ap, ◌∙◌, subst, arith, append_assoc, append-nil, eq-eqb, ne_eqb, ◌≢◌, deque_len, deque_capacity}
use Rattle.std.specs.declared.collections.VecDeque.{VecDeque}
use Rattle.std.specs.Slice.{IsItemAt}
use Rattle.std.proofs.lemmas.Bool.{cases_eq}
use Rattle.std.proofs.lemmas.Option.{slice_get_past, slice_get_read, slice_get-map}
use Rattle.std.proofs.lemmas.List.{take_more, at_drop_more, length-map}
use Rattle.std.proofs.lemmas.List.Elements.{All-push, filter-append}
use Rattle.virtual_time.specs.Law.{received_by}
use Rattle.antimessages.specs.Letters.{Store}
use Rattle.vlink.specs.Order.{message_order}
use Rattle.vlink.specs.Letters.{Letter}
use Rattle.antimessages.specs.Mailing.{store_of, letters_in, room_in, letters_for, room_for, HasRoom}

module _ {X Y : Type 0} (f : X → Y) where
  get-here : (xs : List X) (i : ℕ) (x : X) → i < length xs → slice_get (map f (set xs i x)) i ≡ Some (f x)
  get-here [] i x h = absurd (omega arith)
  get-here (y ∷ ys) zero x h = refl
  get-here (y ∷ ys) (suc i) x h = get-here ys i x (omega arith)

  get-other : (xs : List X) (i p : ℕ) (x : X) → (p ≡ i → ⊥) → slice_get (map f (set xs i x)) p ≡ slice_get (map f xs) p
  get-other [] i p x n = refl
  get-other (y ∷ ys) zero zero x n = absurd (n refl)
  get-other (y ∷ ys) zero (suc p) x n = refl
  get-other (y ∷ ys) (suc i) zero x n = refl
  get-other (y ∷ ys) (suc i) (suc p) x n = get-other ys i p x (λ e. n (ap suc e))

  get-at : (xs : List X) (i : ℕ) (x : X) → i < length xs → x ≡ get_or xs i x → slice_get (map f xs) i ≡ Some (f x)
  get-at [] i x h e = absurd (omega arith)
  get-at (y ∷ ys) zero x h e = ap (λ z. Some (f z)) (sym e)
  get-at (y ∷ ys) (suc i) x h e = get-at ys i x (omega arith) e

-- the box of a process, read at its place, and that there is none
module _ (boxes now : List (VecDeque Letter Global)) (i p : ℕ) (mail : List Store) (same : now ≡ boxes) (here : i ≡ p) (seen : map store_of boxes ≡ mail) where
  from-boxes : slice_get mail p ≡ slice_get (map store_of now) i
  from-boxes = ap (λ z. slice_get z p) (sym seen ∙ ap (λ z. map store_of z) (sym same)) ∙ ap (slice_get (map store_of now)) (sym here)

  pub box-letters : (box : VecDeque Letter Global) → i < length now → box ≡ get_or now i box → letters_for p mail ≡ box.items
  box-letters box within read = ap letters_in (from-boxes ∙ get-at store_of now i box within read)

  pub no-box : length now ≤ i → letters_for p mail ≡ []
  no-box past = ap letters_in (from-boxes ∙ (slice_get-map store_of now i ∙ ap (option_map store_of) (slice_get_past now i past)))

-- the letter that is read at a place, if there is one
pub letter-read : (ls : List Letter) (i : ℕ) (r : Option (Bor Letter)) → IsItemAt ls i r → option_copied r ≡ slice_get ls i
letter-read ls i None h = sym (slice_get_past ls i h.3)
letter-read ls i (Some l) h = sym (slice_get_read ls (length ls) i l.now refl h.3.0 h.1)

-- the letter at a place: those before it and it, and it and those behind
module _ (p : ℕ) (ls : List Letter) (i : ℕ) (l : Letter) (h : i < length ls) (e : l ≡ get_or ls i l) where
  pub received-more : received_by message_order p (take (i + 1) ls)
      ≡ received_by message_order p (take i ls) ++ cond (l.message.receiver == p) (l ∷ []) []
  received-more =
      ap (λ z. received_by message_order p z) (take_more ls i l h ∙ ap (λ z. take i ls ++ z ∷ []) (sym e)) ∙
      filter-append (λ (x : Letter). x.message.receiver == p) (take i ls) (l ∷ [])

  pub received-rest : received_by message_order p (drop i ls)
      ≡ cond (l.message.receiver == p) (l ∷ received_by message_order p (drop (i + 1) ls)) (received_by message_order p (drop (i + 1) ls))
  received-rest = at_drop_more (λ z. received_by message_order p z) ls i l h ∙
      ap (λ z. received_by message_order p (z ∷ drop (i + 1) ls)) (sym e)

-- what holds of the first letters and of the next one
pub all-more : (P : Letter → Type 0) (ls : List Letter) (k : ℕ) (l : Letter) → k < length ls → l ≡ get_or ls k l → P l → All P (take k ls) → All P (take (k + 1) ls)
all-more P ls k l within here p a =
    subst (All P) (sym (take_more ls k l within)) (All-push P (take k ls) (get_or ls k l) a (subst P here p))

-- each letter of a list has one of n receivers
pub receiver-within : (ls : List Letter) (n : ℕ) → All (λ l. l.message.receiver < n) ls → (i : ℕ) (l : Letter) → i < length ls → l ≡ get_or ls i l → l.message.receiver < n
receiver-within ls n all i l h e = subst (λ x. x.message.receiver < n) (sym e) (all i l h)

-- where each letter has one of n receivers, no other process receives any
pub received-none : (ls : List Letter) (n p : ℕ) → All (λ l. l.message.receiver < n) ls → n ≤ p → received_by message_order p ls ≡ []
received-none [] n p all h = refl
received-none (l ∷ ls) n p all h =
    let other : l.message.receiver ≡ p → ⊥ = λ e. let k = all 0 l (omega arith) in omega arith in
    rw (ne_eqb l.message.receiver p other) (received-none ls n p (λ k d inside. all (suc k) d (omega arith)) h)

-- what is said of the receivers of letters, in the words of the law and in those of the code
pub receivers-inside : (ls now : List Letter) (seen : List Letter) (boxes : List (VecDeque Letter Global)) (mail : List Store) →
    now ≡ ls → ls ≡ seen → map store_of boxes ≡ mail → All (λ l. l.message.receiver < length mail) seen → All (λ l. l.message.receiver < length boxes) now
receivers-inside ls now seen boxes mail e s m all =
    let b : length mail ≡ length boxes = ap length (sym m) ∙ length-map boxes store_of in
    let same : seen ≡ now = sym s ∙ sym e in
    subst (λ (n : ℕ). All (λ (l : Letter). l.message.receiver < n) now) b
    (subst (λ (z : List Letter). All (λ (l : Letter). l.message.receiver < length mail) z) same all)

-- letters that are all for one of no processes are none
pub for-none : (ls : List Letter) (n : ℕ) → n ≡ 0 → All (λ l. l.message.receiver < n) ls → ls ≡ []
for-none [] n e all = refl
for-none (l ∷ ls) n e all = absurd (let h = all 0 l (omega arith) in omega arith)

-- in the mail the box of process i is another one now
pub record IsChanged (mail mail' : List Store) (i : ℕ) (old new : VecDeque Letter Global) : Type 0 where
  pub was : slice_get mail i ≡ Some (store_of old)
  pub now : slice_get mail' i ≡ Some (store_of new)
  pub others : (p : ℕ) → p ≢ i → slice_get mail' p ≡ slice_get mail p

pub changed : (boxes : List (VecDeque Letter Global)) (i : ℕ) (old new : VecDeque Letter Global) → i < length boxes → old ≡ get_or boxes i old →
    IsChanged (map store_of boxes) (map store_of (set boxes i new)) i old new
changed boxes i old new h e = record { was = get-at store_of boxes i old h e; now = get-here store_of boxes i new h; others = λ p n. get-other store_of boxes i p new n }

module _ {mail mail' : List Store} {i : ℕ} {old new : VecDeque Letter Global} (c : IsChanged mail mail' i old new) where
  pub old-letters : letters_for i mail ≡ old.items
  old-letters = ap letters_in c.was

  old-room : room_for i mail ≡ deque_capacity old - deque_len old
  old-room = ap room_in c.was

  pub new-letters : letters_for i mail' ≡ new.items
  new-letters = ap letters_in c.now

  new-room : room_for i mail' ≡ deque_capacity new - deque_len new
  new-room = ap room_in c.now

  pub other-letters : (p : ℕ) → p ≢ i → letters_for p mail' ≡ letters_for p mail
  other-letters p n = ap letters_in (c.others p n)

  other-room : (p : ℕ) → p ≢ i → room_for p mail' ≡ room_for p mail
  other-room p n = ap room_in (c.others p n)

  -- the letters stay, in more room or less
  pub same-letters : new.items ≡ old.items → (p : ℕ) → letters_for p mail' ≡ letters_for p mail
  same-letters k p = elim (cases_eq p i) [
    | inl a ↦ ap (λ z. letters_for z mail') a ∙ (new-letters ∙ (k ∙ (sym old-letters ∙ ap (λ z. letters_for z mail) (sym a))))
    | inr n ↦ other-letters p n
  ]

  pub more-room : deque_len new ≡ deque_len old → deque_capacity old ≤ deque_capacity new → (p : ℕ) → room_for p mail ≤ room_for p mail'
  more-room k grown p = elim (cases_eq p i) [
    | inl a ↦ subst (λ z. room_for z mail ≤ room_for z mail') (sym a) (let x = old-room in let y = new-room in omega arith)
    | inr n ↦ let x = other-room p n in omega arith
  ]

  -- this process has room for all letters that it receives, as those before it
  pub reserve-next : (outbox : List Letter) → deque_len new + length (filter (λ x. x.message.receiver == i) outbox) ≤ deque_capacity new →
      ((p : ℕ) → p < i → length (received_by message_order p outbox) ≤ room_for p mail) →
      (p : ℕ) → p < i + 1 → length (received_by message_order p outbox) ≤ room_for p mail'
  reserve-next outbox fits room p below = elim (cases_eq p i) [
    | inl a ↦
        let x = ap (λ z. length (received_by message_order z outbox)) a in
        let z = ap (λ z. room_for z mail') a ∙ new-room in
        omega arith
    | inr n ↦ let x = other-room p n in let y = room p (omega arith) in omega arith
  ]

  -- a growth is refused only where this process has too little room
  pub refused-next : (outbox : List Letter) → deque_capacity old < deque_len old + length (filter (λ x. x.message.receiver == i) outbox) →
      HasRoom mail outbox → ⊥
  refused-next outbox full room =
      let x = room i in
      let fits = old.small.1 in
      let y = old-room in
      omega arith

  -- one letter more at the back of its receiver's mail, the one at this place of the outbox
  module _ (outbox : List Letter) (k : ℕ) (l : Letter) (within : k < length outbox) (there : l ≡ get_or outbox k l) (mine : i ≡ l.message.receiver) where
    -- it needs room, and so there is room
    pub room-needed : HasRoom mail (drop k outbox) → deque_len old < deque_capacity old
    room-needed room =
        let a = room i in
        let b = old-room in
        let c : received_by message_order i (drop k outbox) ≡ l ∷ received_by message_order i (drop (k + 1) outbox) =
        received-rest i outbox k l within there ∙
        ap (λ z. cond z (l ∷ received_by message_order i (drop (k + 1) outbox)) (received_by message_order i (drop (k + 1) outbox))) (eq-eqb _ _ (sym mine)) in
        let d = ap length c in
        omega arith

    pub put-letters : (first : List (VecDeque Letter Global)) → new.items ≡ old.items ++ l ∷ [] →
        ((p : ℕ) → letters_for p mail ≡ letters_for p (map store_of first) ++ received_by message_order p (take k outbox)) →
        (p : ℕ) → letters_for p mail' ≡ letters_for p (map store_of first) ++ received_by message_order p (take (k + 1) outbox)
    put-letters first push put p = go (cases_eq p i)
      where
        more : (b : Bool) → (l.message.receiver == p) ≡ b → letters_for p (map store_of first) ++ received_by message_order p (take (k + 1) outbox)
            ≡ (letters_for p (map store_of first) ++ received_by message_order p (take k outbox)) ++ cond b (l ∷ []) []
        more b e =
            ap (λ z. letters_for p (map store_of first) ++ z) (received-more p outbox k l within there ∙
            ap (λ z. received_by message_order p (take k outbox) ++ cond z (l ∷ []) []) e) ∙
            sym (append_assoc (letters_for p (map store_of first)) (received_by message_order p (take k outbox)) (cond b (l ∷ []) []))

        go : (p ≡ i) ⊎ (p ≡ i → ⊥) → letters_for p mail' ≡ letters_for p (map store_of first) ++ received_by message_order p (take (k + 1) outbox)
        go (inl a) =
            ap (λ z. letters_for z mail') a ∙ (new-letters ∙ (push ∙
            (ap (λ z. z ++ l ∷ []) (sym old-letters ∙ (ap (λ z. letters_for z mail) (sym a) ∙ put p)) ∙ sym (more true (eq-eqb _ _ (sym mine ∙ sym a))))))
        go (inr n) =
            other-letters p n ∙ (put p ∙ (sym (append-nil _) ∙ sym (more false (ne_eqb _ _ (λ e. n (sym e ∙ sym mine))))))

    pub put-room : deque_len new ≡ deque_len old + 1 → deque_capacity new ≡ deque_capacity old →
        HasRoom mail (drop k outbox) → HasRoom mail' (drop (k + 1) outbox)
    put-room n same room p = go (cases_eq p i)
      where
        split : (b : Bool) → (l.message.receiver == p) ≡ b → length (received_by message_order p (drop k outbox))
            ≡ length (cond b (l ∷ received_by message_order p (drop (k + 1) outbox)) (received_by message_order p (drop (k + 1) outbox)))
        split b e = ap length (received-rest p outbox k l within there ∙
            ap (λ z. cond z (l ∷ received_by message_order p (drop (k + 1) outbox)) (received_by message_order p (drop (k + 1) outbox))) e)

        go : (p ≡ i) ⊎ (p ≡ i → ⊥) → length (received_by message_order p (drop (k + 1) outbox)) ≤ room_for p mail'
        go (inl a) =
            let s = split true (eq-eqb _ _ (sym mine ∙ sym a)) in
            let x = room p in
            let y = ap (λ z. room_for z mail) a ∙ old-room in
            let z = ap (λ z. room_for z mail') a ∙ new-room in
            omega arith
        go (inr m) =
            let s = split false (ne_eqb _ _ (λ e. m (sym e ∙ sym mine))) in
            let x = room p in
            let y = other-room p m in
            omega arith

    -- the receiver of this letter has room for all that it receives, as those of the letters before it
    pub reserve-room : deque_len new ≡ deque_len old → deque_capacity old ≤ deque_capacity new →
        deque_len new + length (filter (λ x. x.message.receiver == l.message.receiver) outbox) ≤ deque_capacity new →
        ((p : ℕ) → 0 < length (received_by message_order p (take k outbox)) → length (received_by message_order p outbox) ≤ room_for p mail) →
        (p : ℕ) → 0 < length (received_by message_order p (take (k + 1) outbox)) →
        length (received_by message_order p outbox) ≤ room_for p mail'
    reserve-room n grown fits room p some = go (cases_eq p i)
      where
        go : (p ≡ i) ⊎ (p ≡ i → ⊥) → length (received_by message_order p outbox) ≤ room_for p mail'
        go (inl a) =
            let x = ap (λ z. length (received_by message_order z outbox)) (a ∙ mine) in
            let z = ap (λ z. room_for z mail') a ∙ new-room in
            omega arith
        go (inr m) =
            let e : received_by message_order p (take (k + 1) outbox) ≡ received_by message_order p (take k outbox) =
            received-more p outbox k l within there ∙
            (ap (λ z. received_by message_order p (take k outbox) ++ cond z (l ∷ []) []) (ne_eqb _ _ (λ e. m (sym e ∙ sym mine))) ∙ append-nil _) in
            let x = room p (subst (λ z. 0 < length z) e some) in
            let y = other-room p m in
            omega arith
