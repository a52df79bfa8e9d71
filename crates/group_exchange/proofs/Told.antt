-- What a call of the hand told, the exchange keeps.
use Rattle.std.proofs.Common.{◌≡◌, ℕ, Bool, List, [], ◌∷◌, refl, sym, ◌∙◌, arith}
use Rattle.std.proofs.lemmas.Bool.{both_ways}
use Rattle.vlink.specs.declared.message.Message.{Message}
use Rattle.vlink.specs.declared.note.Note.{Note}
use Rattle.virtual_time.specs.Law.{Rules, Laws, World, AreBy, done_by, in_hand}
use Rattle.virtual_time.specs.declared.step.Step.{Step}
use Rattle.virtual_time.specs.declared.step.Step.TheVariants.{Take, Arrive, Run, Post, Gvt, Commit}
use Rattle.reverse.specs.Setting.{Setting, simulation_of}
use Rattle.group_queues.specs.declared.block.Word.{Word}
use Rattle.group_queues.specs.Block.{steps_told}
use Rattle.group_hand.specs.Hands.{CommitsTold, DoesTold, Held, is_ours}
use Rattle.group_exchange.specs.Views.{is_of, world_after}
use Rattle.group_exchange.specs.Keeps.{Holds}
use Rattle.group_exchange.specs.Effects.{Went}
use Rattle.group_exchange.proofs.Worked.{holds-worked, went-on}

-- steps of these processes are steps of the same, by another name
pub by-same : (ours theirs : ℕ → Bool) → ((p : ℕ) → ours p ≡ theirs p) → (xs : List Step) → AreBy ours xs → AreBy theirs xs
by-same ours theirs same [] b = tt
by-same ours theirs same (Take p i ∷ xs) b = (sym (same p) ∙ b.0, by-same ours theirs same xs b.1)
by-same ours theirs same (Arrive p ∷ xs) b = (sym (same p) ∙ b.0, by-same ours theirs same xs b.1)
by-same ours theirs same (Run p ∷ xs) b = (sym (same p) ∙ b.0, by-same ours theirs same xs b.1)
by-same ours theirs same (Post p ∷ xs) b = (sym (same p) ∙ b.0, by-same ours theirs same xs b.1)
by-same ours theirs same (Gvt ∷ xs) b = absurd (both_ways _ refl b.0)
by-same ours theirs same (Commit p ∷ xs) b = (sym (same p) ∙ b.0, by-same ours theirs same xs b.1)

module _ {S K : Type 0} {r : Rules Message S K Note} {number end : S → ℕ} {is_placed : S → Type 0} {x : Setting S} {owners : List ℕ} {V : S → Message → Type 0} {groups g seen : ℕ} {last : List Step}
    {h : Held S K} (old : Holds r number end is_placed x owners V groups g seen last h) (L : Laws (simulation_of r x)) (new : Held S K) where
  -- what the group had in hand
  abbrev now : World Message S
  now = done_by (simulation_of r x) (steps_told h.flow.words) (in_hand (simulation_of r x) seen (world_after (simulation_of r x) last))

  -- words were told: the group keeps what it keeps, and went on by them
  pub record Told (did : List Word) : Type 0 where
    pub holds : Holds r number end is_placed x owners V groups g seen last new
    pub went : (gone : ℕ) →
        Went (simulation_of r x) owners did (record { number = g; held = h; last = last; seen = seen; gone = gone }) (record { number = g; held = new; last = last; seen = seen; gone = gone })

  pub does : (d : DoesTold r V h new) → Told d.did
  does d =
      let s = d.stands x L now old.stands in
      let by = by-same (is_ours h.members) (is_of owners g) old.ours (steps_told d.did) s.2.by in
      record {
        holds = holds-worked old L new d.did d.block by s.2.same s.0 s.1;
        went = went-on old L new d.did d.block by s.0;
      }

  pub commits : (d : CommitsTold r V seen h new) → Told d.did
  commits d =
      let s = d.stands x L now (let a = old.safe.seen in omega arith) old.stands in
      let by = by-same (is_ours h.members) (is_of owners g) old.ours (steps_told d.did) s.3.by in
      record {
        holds = holds-worked old L new d.did d.block by s.3.same s.0 s.1;
        went = went-on old L new d.did d.block by s.0;
      }
