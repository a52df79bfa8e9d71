-- What the newest events sent, up to one that comes before a message.
use Rattle.std.proofs.Common.{◌≡◌, ℕ, suc, ◌+◌, ◌≤◌, ◌<◌, false, cond, List, [], ◌∷◌, ◌++◌, length, map, take, reverse, slice_index_or, Some, refl, sym, ap, ◌∙◌, arith, length-append}
use Rattle.std.proofs.lemmas.List.{map-append, reverse-append, take_more}
use Rattle.vlink.specs.Order.{message_order}
use Rattle.vlink.specs.declared.message.Message.{Message}
use Rattle.vlink.specs.declared.note.Note.{Note}
use Rattle.virtual_time.specs.Law.{Rules, sent}
use Rattle.reverse.specs.Rules.{is_before}
use Rattle.antimessages.specs.Counting.{is_after, newest_of}
use Rattle.process_steps.specs.declared.event.Event.{Event}
use Rattle.process_queues.specs.Past.{Past, Rows, IsPastOf, events_of, sent_since}
use Rattle.antimessages.proofs.Newest.{newest-more}

-- all that these events sent
abbrev sent_by : {K : Type 0} → List (Event K) → ℕ
sent_by [] = 0
sent_by (e ∷ es) = e.sent + sent_by es

since-few : {K : Type 0} (m : Message) (es : List (Event K)) → sent_since m es ≤ sent_by es
since-few m [] = omega arith
since-few m (e ∷ es) = let k = since-few m es in grind arith

by-append : {K : Type 0} (xs ys : List (Event K)) → sent_by (xs ++ ys) ≡ sent_by xs + sent_by ys
by-append [] ys = omega arith
by-append (x ∷ xs) ys = let k = by-append xs ys in omega arith

by-reverse : {K : Type 0} (xs : List (Event K)) → sent_by (reverse xs) ≡ sent_by xs
by-reverse [] = refl
by-reverse (x ∷ xs) =
    let a = ap sent_by (reverse-append (x ∷ []) xs) ∙ by-append (reverse xs) (x ∷ []) in
    let k = by-reverse xs in
    omega arith

by-past : {S K : Type 0} (r : Rules Message S K Note) (s : S) (ms : List Message) → sent_by (events_of r s ms) ≡ length (sent r s ms)
by-past r s [] = refl
by-past r s (m ∷ ms) =
    let k = by-past r (r.after s m) ms in
    let a = length-append (r.sends s m) (sent r (r.after s m) ms) in
    omega arith

-- they are not more than all that was sent
pub since-all : {S K : Type 0} {r : Rules Message S K Note} {is_value : S → Message → Type 0} {start : S} {ms : List Message} {earlier : Rows} {past : Past S K} →
    IsPastOf r is_value start ms earlier past → (m : Message) → sent_since m (reverse past.done) ≤ length past.sends
since-all {r = r} {start = start} {ms} {past = past} h m =
    let a = since-few m (reverse past.done) in
    let b = by-reverse past.done in
    let c = ap sent_by h.done ∙ by-past r start ms in
    let d = ap length h.sends in
    omega arith

-- the newest of these, and those before it
pub take-more : {A : Type 0} (xs : List A) (n k : ℕ) (x : A) → n ≡ suc k → k < length xs → x ≡ slice_index_or xs k x → take n xs ≡ take k xs ++ x ∷ []
take-more xs n k x next h e = ap (λ i. take i xs) (let more : n ≡ k + 1 = omega arith in more) ∙ (take_more xs k x h ∙ ap (λ z. take k xs ++ z ∷ []) (sym e))

since-snoc : {K : Type 0} (m : Message) (xs : List (Event K)) (e : Event K) → sent_since m (reverse (xs ++ e ∷ [])) ≡ cond (is_before e.message m) 0 (e.sent + sent_since m (reverse xs))
since-snoc m xs e = ap (sent_since m) (reverse-append xs (e ∷ []))

pub since-next : {K : Type 0} (m : Message) (xs : List (Event K)) (n k : ℕ) (e : Event K) → n ≡ suc k → k < length xs → e ≡ slice_index_or xs k e →
    sent_since m (reverse (take n xs)) ≡ cond (is_before e.message m) 0 (e.sent + sent_since m (reverse (take k xs)))
since-next m xs n k e next h at = ap (λ z. sent_since m (reverse z)) (take-more xs n k e next h at) ∙ since-snoc m (take k xs) e

newest-snoc : {M : Type 0} (ds : List M) (d : M) → newest_of (ds ++ d ∷ []) ≡ Some d
newest-snoc [] d = refl
newest-snoc (x ∷ []) d = newest-more x d []
newest-snoc (x ∷ (y ∷ ys)) d = newest-more x y (ys ++ d ∷ []) ∙ newest-snoc (y ∷ ys) d

-- where the message does not come after the newest event, that one counts
pub since-last : {K : Type 0} (m : Message) (done front : List (Event K)) (e : Event K) → done ≡ front ++ e ∷ [] →
    is_after message_order (newest_of (map (λ (x : Event K). x.message) done)) m ≡ false → sent_since m (reverse done) ≡ e.sent + sent_since m (reverse front)
since-last m done front e d a =
    let newest = ap (λ ds. newest_of (map (λ (x : Event _). x.message) ds)) d ∙ (ap newest_of (map-append (λ (x : Event _). x.message) front (e ∷ [])) ∙ newest-snoc (map (λ (x : Event _). x.message) front) e.message) in
    let late : is_before e.message m ≡ false = sym (ap (λ o. is_after message_order o m) newest) ∙ a in
    ap (λ ds. sent_since m (reverse ds)) d ∙ (since-snoc m front e ∙ ap (λ b. cond b 0 (e.sent + sent_since m (reverse front))) late)
