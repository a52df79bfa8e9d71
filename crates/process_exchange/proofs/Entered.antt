-- An entry that a process in hand wrote behind the journal, and that both marks name.
use Rattle.std.proofs.Common.{◌≡◌, ℕ, Bool, List, [], ◌∷◌, ◌++◌, set, length, Option, Some, sym, ap, ◌∙◌}
use Rattle.std.proofs.lemmas.List.{map-set}
use Rattle.vlink.specs.declared.message.Message.{Message}
use Rattle.vlink.specs.declared.note.Note.{Note}
use Rattle.virtual_time.specs.Law.{Simulation, Part, Act, Deed, Entry, after_moves, acts_of, own_in, after_own}
use Rattle.virtual_time.specs.declared.moved.Move.{Move}
use Rattle.journal.specs.Deeds.{entry_by}
use Rattle.process_exchange.specs.declared.mark.Standing.{Standing}
use Rattle.process_exchange.specs.Views.{Ledger, mark_in, marks_in, place_of, own_of}
use Rattle.process_exchange.specs.Effects.{mark_at}
use Rattle.process_exchange.proofs.Growth.{own-mine}
use Rattle.process_exchange.proofs.Moves.{in_hand}

-- process p, of which the journal tells just this, wrote one entry more behind the journal, and stands there now
pub record Entered (es : List (Entry Message)) (standings : List Standing) (p : ℕ) (prior : Option ℕ) (own : List (Act Message)) (d : Deed Message) (es' : List (Entry Message)) (standings' : List Standing) (now : Standing) : Type 0 where
  pub mine : own ≡ own_in p es
  pub journal : es' ≡ es ++ entry_by p prior d ∷ []
  pub place : place_of now.last ≡ Some (length es)
  pub told : own_of p now.last ≡ own_in p es'
  pub marked : standings' ≡ set standings p now

-- it came behind a journal for which there was made room
pub entered-behind : {es : List (Entry Message)} {standings : List Standing} {p : ℕ} {prior : Option ℕ} {own : List (Act Message)} {d : Deed Message} {es' : List (Entry Message)} {standings' : List Standing} {now : Standing} →
    own ≡ own_in p es → (reserved : List (Entry Message)) → reserved ≡ es → (entry : Entry Message) → entry ≡ entry_by p prior d → es' ≡ reserved ++ entry ∷ [] →
    place_of now.last ≡ Some (length reserved) → own_of p now.last ≡ own_in p es' → standings' ≡ set standings p now → Entered es standings p prior own d es' standings' now
entered-behind mine reserved same entry is behind place told marked = record {
  mine = mine;
  journal = behind ∙ (λ i. same i ++ is i ∷ []);
  place = place ∙ ap (λ (us : List (Entry Message)). Some (length us)) same;
  told = told;
  marked = marked;
}

module _ {es : List (Entry Message)} {standings : List Standing} {p : ℕ} {prior : Option ℕ} {own : List (Act Message)} {d : Deed Message} {es' : List (Entry Message)} {standings' : List Standing} {now : Standing}
    (w : Entered es standings p prior own d es' standings' now) where
  -- it tells what was told before, and this deed
  pub own-more : own_of p now.last ≡ own ++ acts_of d
  own-more = w.told ∙ (ap (own_in p) w.journal ∙ (own-mine es (entry_by p prior d) ∙ ap (λ z. z ++ acts_of d) (sym w.mine)))

  -- what contracts see of both
  module _ (g : ℕ) (same : now.seen ≡ g) where
    mark-now : mark_in now ≡ mark_at (Some (length es)) g
    mark-now = λ i. mark_at (w.place i) (same i)

    pub ledger-now : (shared shared' : Bool) → shared' ≡ shared → (limit : ℕ) → ◌≡◌ {A = Ledger} (record { entries = es'; marks = marks_in standings'; shared = shared'; limit = limit })
        (record { entries = es ++ entry_by p prior d ∷ []; marks = set (marks_in standings) p (mark_at (Some (length es)) g); shared = shared; limit = limit })
    ledger-now shared shared' same limit = λ i. record {
      entries = w.journal i;
      marks = (ap marks_in w.marked ∙ (map-set mark_in standings p now ∙ ap (set (marks_in standings) p) mark-now)) i;
      shared = same i;
      limit = limit;
    }

    pub held-now : {S K : Type 0} (f : Simulation Message S K Note) (part : Part Message S) → after_own f p (own_of p now.last) ≡ part → (block : List Move) → block ≡ [] → (gone : ℕ) →
        in_hand f p (own_of p now.last) (place_of now.last) now.seen gone block ≡
        record { number = p; part = part; block = []; own = own ++ acts_of d; mark = mark_at (Some (length es)) g; gone = gone }
    held-now f part part-is block none gone = λ i. record {
      number = p;
      part = (ap (λ b. after_moves f.rules (f.opening p) b (after_own f p (own_of p now.last))) none ∙ part-is) i;
      block = none i;
      own = own-more i;
      mark = mark-now i;
      gone = gone;
    }
