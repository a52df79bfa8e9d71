-- A group in hand, where it has no block, and where another one stands for whatever it stood for.
use Rattle.std.proofs.Common.{◌≡◌, ℕ, ◌<◌, List, [], sym, ap, ◌∙◌, subst}
use Rattle.vlink.specs.declared.message.Message.{Message}
use Rattle.vlink.specs.declared.note.Note.{Note}
use Rattle.virtual_time.specs.Law.{Rules, World, AreBy, AreDone, IsSafeGroup, done_by, in_hand}
use Rattle.virtual_time.specs.declared.step.Step.{Step}
use Rattle.reverse.specs.Setting.{Setting, simulation_of, IsLaidOut}
use Rattle.group_queues.specs.Block.{steps_told}
use Rattle.group_hand.specs.Hands.{Held, StandsForGroup, is_ours}
use Rattle.group_exchange.specs.Views.{is_of, world_after}
use Rattle.group_exchange.specs.Keeps.{AreGrouped, Holds}

module _ {S K : Type 0} {r : Rules Message S K Note} {number end : S → ℕ} {is_placed : S → Type 0} {x : Setting S} {owners : List ℕ} {V : S → Message → Type 0} {groups g seen : ℕ} {last : List Step} where
  -- a group without a block, in the world that the journal reaches
  pub holds-empty : IsLaidOut r number end is_placed x → AreGrouped x.processes groups owners → g < groups → (h : Held S K) → ((p : ℕ) → is_ours h.members p ≡ is_of owners g p) → h.flow.words ≡ [] →
      StandsForGroup r V x (in_hand (simulation_of r x) seen (world_after (simulation_of r x) last)) h →
      IsSafeGroup (simulation_of r x) (is_of owners g) seen (in_hand (simulation_of r x) seen (world_after (simulation_of r x) last)) →
      Holds r number end is_placed x owners V groups g seen last h
  holds-empty laid grouped within h ours none stands safe =
      let f = simulation_of r x in
      let v = in_hand f seen (world_after f last) in
      record {
        laid = laid;
        grouped = grouped;
        number_is = within;
        ours = ours;
        by = subst (λ ds. AreBy (is_of owners g) (steps_told ds)) (sym none) tt;
        enabled = subst (λ ds. AreDone f (steps_told ds) v) (sym none) tt;
        stands = subst (λ ds. StandsForGroup r V x (done_by f (steps_told ds) v) h) (sym none) stands;
        safe = subst (λ ds. IsSafeGroup f (is_of owners g) seen (done_by f (steps_told ds) v)) (sym none) safe;
      }

  -- the same members and words
  pub holds-again : {h : Held S K} → Holds r number end is_placed x owners V groups g seen last h → (new : Held S K) → new.members ≡ h.members → new.flow.words ≡ h.flow.words →
      ((v : World Message S) → StandsForGroup r V x v h → StandsForGroup r V x v new) → Holds r number end is_placed x owners V groups g seen last new
  holds-again old new members words stands =
      let f = simulation_of r x in
      let v = in_hand f seen (world_after f last) in
      record {
        laid = old.laid;
        grouped = old.grouped;
        number_is = old.number_is;
        ours = λ p. ap (λ z. is_ours z p) members ∙ old.ours p;
        by = subst (λ ds. AreBy (is_of owners g) (steps_told ds)) (sym words) old.by;
        enabled = subst (λ ds. AreDone f (steps_told ds) v) (sym words) old.enabled;
        stands = subst (λ ds. StandsForGroup r V x (done_by f (steps_told ds) v) new) (sym words) (stands _ old.stands);
        safe = subst (λ ds. IsSafeGroup f (is_of owners g) seen (done_by f (steps_told ds) v)) (sym words) old.safe;
      }

  -- the same moment and steps, as they are seen elsewhere
  pub holds-as : {h : Held S K} → Holds r number end is_placed x owners V groups g seen last h → (seen' : ℕ) (last' : List Step) → seen' ≡ seen → last' ≡ last →
      Holds r number end is_placed x owners V groups g seen' last' h
  holds-as {h = h} old seen' last' a b =
      subst (λ n. Holds r number end is_placed x owners V groups g n last' h) (sym a) (subst (λ ss. Holds r number end is_placed x owners V groups g seen ss h) (sym b) old)
