-- A process in hand: as it is collected, goes on and is posted.
use Rattle.std.proofs.Common.{◌≡◌, ℕ, ◌<◌, ◌≤◌, true, List, [], ◌∷◌, ◌++◌, map, sym, ap, ◌∙◌, subst}
use Rattle.std.proofs.lemmas.Bool.{and_parts}
use Rattle.std.proofs.lemmas.List.{map-append}
use Rattle.vlink.specs.declared.message.Message.{Message}
use Rattle.vlink.specs.declared.note.Note.{Note}
use Rattle.virtual_time.specs.Law.{Rules, rowed, Simulation, Laws, Part, acted, local, after_moves, Act, Moves, IsSafePart, MayAct, Entry, steps, own_in, reach, after_own, can_move, AreEnabled}
use Rattle.virtual_time.specs.declared.moved.Move.{Move}
use Rattle.virtual_time.specs.declared.moved.Move.TheVariants.{Arrived, Ran, Committed}
use Rattle.virtual_time.proofs.Journal.{local-append, enabled-later}
use Rattle.virtual_time.proofs.SafePart.{acted-safe, world-safe}
use Rattle.reverse.specs.Setting.{Setting, simulation_of}
use Rattle.antimessages.specs.Letters.{Store}
use Rattle.gvt.specs.Horizon.{Floors}
use Rattle.process_queues.specs.Queues.{Queues, StandsFor, Does}
use Rattle.row_times.specs.Within.{AreFirstBefore}
use Rattle.process_exchange.specs.declared.mark.Standing.{Standing}
use Rattle.process_exchange.specs.Keeps.{IsRecorded, Holds}
use Rattle.process_exchange.proofs.Gone.{gone-stays}

module _ {S K : Type 0} (f : Simulation Message S K Note) where
  -- some steps and then others
  pub moved-then : (o : S) (ms ns : List Move) (part : Part Message S) → after_moves f.rules o (ms ++ ns) part ≡ after_moves f.rules o ns (after_moves f.rules o ms part)
  moved-then o ms ns part =
      ap (λ z. local f.rules o z part) (map-append (λ (m : Move). Moves m) ms ns) ∙ local-append f o (map (λ m. Moves m) ms) (map (λ m. Moves m) ns) part

  enabled-push : (o : S) (g : ℕ) (ms : List Move) (m : Move) (part : Part Message S) → AreEnabled f o g ms part → can_move f g m (after_moves f.rules o ms part) ≡ true →
      AreEnabled f o g (ms ++ m ∷ []) part
  enabled-push o g [] m part a e = (e, tt)
  enabled-push o g (n ∷ ms) m part a e = (a.0, enabled-push o g ms m (acted f.rules o (Moves n) part) a.1 e)

  may-move : (g : ℕ) (m : Move) (part : Part Message S) → can_move f g m part ≡ true → MayAct f g (Moves m) part
  may-move g Arrived part e = tt
  may-move g Ran part e = tt
  may-move g Committed part e = (and_parts _ _ e).0

-- what is in hand is the process of the world and then its block, of which each step can be done there
pub record Joined {S K : Type 0} (f : Simulation Message S K Note) (es : List (Entry Message)) (p : ℕ) (block : List Move) (acts : List (Act Message)) : Type 0 where
  pub part : after_moves f.rules (f.opening p) block (after_own f p acts) ≡ after_moves f.rules (f.opening p) block ((reach f es).parts p)
  pub enabled : AreEnabled f (f.opening p) (reach f es).gvt block ((reach f es).parts p)
  pub own : acts ≡ own_in p es

module _ {S K : Type 0} {r : Rules Message S K Note} {number end : S → ℕ} {is_placed : S → Type 0} {x : Setting S} where
  module _ {is_value : S → Message → Type 0} {p seen gone : ℕ} {block : List Move} {own : List (Act Message)} {q : Queues S K}
      (h : Holds r number end is_placed x is_value p seen gone block own q) where
    -- it is as it was
    pub holds-still : (q' : Queues S K) → q' ≡ q → (block' : List Move) → block' ≡ block → Holds r number end is_placed x is_value p seen gone block' own q'
    holds-still q' same block' kept =
        subst (λ b. Holds r number end is_placed x is_value p seen gone b own q') (sym kept)
        (subst (λ z. Holds r number end is_placed x is_value p seen gone block own z) (sym same) h)

    -- more rows have left it
    pub holds-gone : (q' : Queues S K) → Does r is_value (λ opening part. part) q q' → (gone' : ℕ) →
        AreFirstBefore r gone' q'.left (rowed r (x.opening p) (after_moves r (x.opening p) block (after_own (simulation_of r x) p own)).committed) →
        Holds r number end is_placed x is_value p seen gone' block own q'
    holds-gone q' does gone' early = record {
      laid = h.laid;
      number_is = h.number_is;
      stands = does _ _ h.stands;
      safe = h.safe;
      gone_early = early;
      enabled = h.enabled;
    }

  module _ {is_value : S → Message → Type 0} {p seen gone : ℕ} {block : List Move} {own : List (Act Message)} {q : Queues S K}
      (h : Holds r number end is_placed x is_value p seen gone block own q) (L : Laws (simulation_of r x)) where
    -- it does one step more
    pub holds-moved : (m : Move) → can_move (simulation_of r x) seen m (after_moves r (x.opening p) block (after_own (simulation_of r x) p own)) ≡ true →
        (q' : Queues S K) → StandsFor r is_value (x.opening p) (acted r (x.opening p) (Moves m) (after_moves r (x.opening p) block (after_own (simulation_of r x) p own))) q' → q'.left ≡ q.left →
        (block' : List Move) → block' ≡ block ++ m ∷ [] → Holds r number end is_placed x is_value p seen gone block' own q'
    holds-moved m can q' stands kept block' longer =
        let f = simulation_of r x in
        let base = after_own f p own in
        let part = after_moves r (x.opening p) block base in
        let next : after_moves r (x.opening p) (block ++ m ∷ []) base ≡ acted r (x.opening p) (Moves m) part = moved-then f (x.opening p) block (m ∷ []) base in
        subst (λ b. Holds r number end is_placed x is_value p seen gone b own q') (sym longer) (record {
          laid = h.laid;
          number_is = h.number_is;
          stands = subst (λ z. StandsFor r is_value (x.opening p) z q') (sym next) stands;
          safe = subst (λ z. IsSafePart f p seen z) (sym next) (acted-safe f L p seen h.number_is (Moves m) part h.safe (may-move f seen m part can));
          gone_early = gone-stays r (x.opening p) part q h.stands gone h.gone_early (Moves m ∷ []) _ next q' kept;
          enabled = enabled-push f (x.opening p) seen block m base h.enabled can;
        })

  module _ {es : List (Entry Message)} {mail : List Store} {floors : Floors} {gvt count : ℕ} {standings : List Standing}
      (k : IsRecorded r number end is_placed x es mail floors gvt count standings) where
    -- what a process's own entries make of it is the process of the world
    world-part : (p : ℕ) (own : List (Act Message)) → own ≡ own_in p es →
        after_own (simulation_of r x) p own ≡ (reach (simulation_of r x) es).parts p
    world-part p own mine = ap (after_own (simulation_of r x) p) mine ∙ sym (k.parts_is p)

    -- it saw the GVT of the journal, and has no block
    pub holds-seen : Laws (simulation_of r x) → (is_value : S → Message → Type 0) (p : ℕ) → p < x.processes → (own : List (Act Message)) →
        own ≡ own_in p es → (q : Queues S K) → StandsFor r is_value (x.opening p) (after_own (simulation_of r x) p own) q →
        (gone : ℕ) → AreFirstBefore r gone q.left (rowed r (x.opening p) (after_own (simulation_of r x) p own).committed) →
        (block : List Move) → block ≡ [] → Holds r number end is_placed x is_value p gvt gone block own q
    holds-seen L is_value p i own mine q stands gone early block none =
        let f = simulation_of r x in
        subst (λ b. Holds r number end is_placed x is_value p gvt gone b own q) (sym none) (record {
          laid = k.laid;
          number_is = i;
          stands = stands;
          safe = subst (λ z. IsSafePart f p gvt z) (sym (world-part p own mine))
              (subst (λ g. IsSafePart f p g ((reach f es).parts p)) (sym k.gvt_is) (world-safe f L (steps es) p i));
          gone_early = early;
          enabled = tt;
        })

    -- what saw no later GVT, and whose last entry tells all that the journal tells of the process, is joined
    pub joined : {is_value : S → Message → Type 0} {p seen gone : ℕ} {block : List Move} {own : List (Act Message)} {q : Queues S K} →
        Holds r number end is_placed x is_value p seen gone block own q → seen ≤ gvt → own ≡ own_in p es →
        Joined (simulation_of r x) es p block own
    joined {p = p} {seen = seen} {block = block} {own = own} h low mine =
        let f = simulation_of r x in
        let same = world-part p own mine in
        record {
          part = ap (after_moves r (x.opening p) block) same;
          enabled = subst (λ g. AreEnabled f (x.opening p) g block ((reach f es).parts p)) k.gvt_is
              (subst (λ z. AreEnabled f (x.opening p) gvt block z) same (enabled-later f (x.opening p) seen gvt low block (after_own f p own) h.enabled));
          own = mine;
        }
