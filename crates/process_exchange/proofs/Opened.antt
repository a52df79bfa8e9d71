-- The start of a run.
use Rattle.std.proofs.Common.{◌≡◌, ℕ, suc, ◌+◌, ◌<◌, ◌≤◌, inl, inr, All, List, [], ◌∷◌, ◌++◌, map, length, replicate, slice_get, get_or, Some, refl, sym, ap, ◌∙◌, subst, arith}
use Rattle.std.proofs.lemmas.Bool.{cases_eq}
use Rattle.std.proofs.lemmas.List.{length-replicate, length_push, get_or-replicate}
use Rattle.std.proofs.lemmas.List.Elements.{All-nil, All-cons}
use Rattle.std.proofs.lemmas.Option.{slice_get_read}
use Rattle.vlink.specs.declared.message.Message.{Message}
use Rattle.vlink.specs.declared.note.Note.{Note}
use Rattle.virtual_time.specs.Law.{Rules, IsOrder, IsIn, plus_of, received_by, Laws, opened, run, Act, Entry}
use Rattle.virtual_time.specs.declared.moved.Move.{Move}
use Rattle.virtual_time.proofs.Lists.{in-head}
use Rattle.virtual_time.proofs.SafePart.{world-safe}
use Rattle.reverse.specs.Setting.{Setting, simulation_of, IsLaidOut}
use Rattle.antimessages.specs.Letters.{Store}
use Rattle.antimessages.specs.Mailing.{letters_for}
use Rattle.gvt.specs.Horizon.{Floors}
use Rattle.process_queues.specs.Queues.{Queues, StandsFor}
use Rattle.process_exchange.specs.declared.mark.Standing.{Standing}
use Rattle.process_exchange.specs.Views.{HeldState, unplaced, standing_of, opened_held, place_of, own_of}
use Rattle.process_exchange.specs.Keeps.{IsRecorded, Holds}
use Rattle.process_exchange.proofs.Gone.{gone-none}
use Rattle.process_exchange.proofs.Lists.{slice_get-last, slice_get-more}

-- the number of a process is small
pub fits-few : (n l h y a p : ℕ) → n ≡ l → l ≡ h → h ≡ y → y < a → a ≡ p → p ≤ 4096 → n < 65536
fits-few n l h y a p e₁ e₂ e₃ i e₄ few = omega arith

-- the moment after the end
pub until-next : (a b : ℕ) → a ≡ b → a + 1 ≡ suc b
until-next a b e = omega arith

-- messages to processes of which there are so many
messages-go : {S K : Type 0} (r : Rules Message S K Note) (O : IsOrder r.order) (n : ℕ) (ms : List Message) → ((m : Message) → IsIn r.order m ms → r.order.receiver m < n) →
    All (λ l. r.order.receiver l.message < n) (map plus_of ms)
messages-go r O n [] h = All-nil (λ l. r.order.receiver l.message < n)
messages-go r O n (m ∷ ms) h =
    All-cons (λ l. r.order.receiver l.message < n) (plus_of m) (map plus_of ms) (h m (in-head r.order O m ms)) (messages-go r O n ms (λ k j. h k (let a = j in omega arith)))

-- the actor at a place is in the opening state of the process of that number
pub actor-opens : {S : Type 0} (processes : ℕ) (opening : ℕ → S) (actors : List S) → length actors ≡ processes → ((p : ℕ) → p < processes → slice_get actors p ≡ Some (opening p)) →
    (n : ℕ) (a : S) → (n < length actors) × (a ≡ get_or actors n a) → a ≡ opening n
actor-opens processes opening actors count each n a at =
    let here = slice_get_read actors (length actors) n a refl at.0 at.1 in
    let there = each n (omega arith) in
    cc

-- as many as there were items
pub as-many : {X Y : Type 0} (hs more : List X) (h : X) (ys : List Y) (y : Y) → more ≡ hs ++ h ∷ [] → length hs ≡ length ys → length more ≡ length (ys ++ y ∷ [])
as-many hs more h ys y pushed count = ap length pushed ∙ (length_push hs h ∙ (ap (λ n. n + 1) count ∙ sym (length_push ys y)))

-- one process more
pub helds-more : {S : Type 0} (opening : ℕ → S) (hs more : List (HeldState S)) (n : ℕ) (h : HeldState S) → length hs ≡ n → ((p : ℕ) → p < n → slice_get hs p ≡ Some (opened_held opening p)) →
    h ≡ opened_held opening n → more ≡ hs ++ h ∷ [] → (p : ℕ) → p < n + 1 → slice_get more p ≡ Some (opened_held opening p)
helds-more opening hs more n h count each is pushed p i =
    ap (λ z. slice_get z p) pushed ∙
    elim (cases_eq p n) [
      | inl d ↦ ap (slice_get (hs ++ h ∷ [])) (d ∙ sym count) ∙ (slice_get-last hs h ∙ (ap (λ z. Some z) is ∙ ap (λ m. Some (opened_held opening m)) (sym d)))
      | inr d ↦ slice_get-more hs (h ∷ []) p (opened_held opening p) (each p (omega arith))
    ]

module _ {S K : Type 0} {r : Rules Message S K Note} {number end : S → ℕ} {is_placed : S → Type 0} {x : Setting S} (laid : IsLaidOut r number end is_placed x) where
  -- the offers go to processes
  pub offers-go : IsOrder r.order → (offers : List Message) → offers ≡ x.offers → (n : ℕ) → n ≡ x.processes → All (λ l. r.order.receiver l.message < n) (map plus_of offers)
  offers-go O offers same n e = messages-go r O n offers (λ m j. let a = laid.offered_to m (subst (IsIn r.order m) same j) in omega arith)

  pub kept-opened : (mail : List Store) → length mail ≡ x.processes → ((p : ℕ) → letters_for p mail ≡ received_by r.order p (map plus_of x.offers)) →
      (floors : Floors) → length floors.floors ≡ x.processes → floors.until ≡ x.until → ((p : ℕ) → p < x.processes → slice_get floors.floors p ≡ Some (suc x.until)) →
      (standings : List Standing) → standings ≡ replicate x.processes unplaced → (es : List (Entry Message)) → es ≡ [] → (gvt : ℕ) → gvt ≡ 0 → IsRecorded r number end is_placed x es mail floors gvt 0 standings
  unfolding run
  kept-opened mail boxes letters floors floor_count until each standings blanks es none gvt zero-is =
      subst (λ us. IsRecorded r number end is_placed x us mail floors gvt 0 standings) (sym none) (record {
        laid = laid;
        boxes = boxes;
        floor_count = floor_count;
        until = until;
        mail_is = λ p i. letters p;
        floors_is = each;
        gvt_is = zero-is;
        count_is = refl;
        enough = omega arith;
        parts_is = λ q. refl;
        marked = record {
          count = ap length blanks ∙ length-replicate x.processes unplaced;
          place_is = λ p i. ap (λ (s : Standing). place_of s.last) (at p i);
          told = λ p i. ap (λ (s : Standing). own_of p s.last) (at p i);
          seen_low = λ p i. subst (λ (s : Standing). s.seen ≤ gvt) (sym (at p i)) (omega arith);
        };
      })
    where
      at : (p : ℕ) → p < x.processes → standing_of standings p ≡ unplaced
      at p i = ap (λ bs. standing_of bs p) blanks ∙ get_or-replicate x.processes p unplaced unplaced i

  pub holds-opened : Laws (simulation_of r x) → (is_value : S → Message → Type 0) (p : ℕ) → p < x.processes → (q : Queues S K) → StandsFor r is_value (x.opening p) (opened (x.opening p)) q → q.left ≡ 0 →
      (block : List Move) → block ≡ [] → (own : List (Act Message)) → own ≡ [] → (seen : ℕ) → seen ≡ 0 →
      (gone : ℕ) → Holds r number end is_placed x is_value p seen gone block own q
  unfolding run
  holds-opened L is_value p i q stands whole block none own nothing seen zero-is gone =
      subst (λ b. Holds r number end is_placed x is_value p seen gone b own q) (sym none)
      (subst (λ l. Holds r number end is_placed x is_value p seen gone [] l q) (sym nothing)
      (subst (λ s. Holds r number end is_placed x is_value p s gone [] [] q) (sym zero-is) (record {
        laid = laid;
        number_is = i;
        stands = stands;
        safe = world-safe (simulation_of r x) L [] p i;
        gone_early = gone-none r gone q.left whole [];
        enabled = tt;
      })))
