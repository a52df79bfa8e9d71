-- What collecting and posting leave and show, put together.
use Rattle.std.proofs.Common.{◌≡◌, ℕ, ◌<◌, ◌++◌, List, [], map, set, length, refl, sym, ap, ◌∙◌, subst}
use Rattle.vlink.specs.declared.message.Message.{Message}
use Rattle.vlink.specs.declared.note.Note.{Note}
use Rattle.virtual_time.specs.Law.{Laws, Rules, behind, waiting_in}
use Rattle.virtual_time.specs.declared.step.Step.{Step}
use Rattle.reverse.specs.Setting.{Setting, simulation_of}
use Rattle.gvt.specs.Horizon.{Floors}
use Rattle.group_queues.specs.Block.{steps_told}
use Rattle.group_hand.specs.Hands.{Held, StandsForGroup}
use Rattle.group_exchange.specs.declared.mark.Standing.{Standing}
use Rattle.group_exchange.specs.Views.{Boxes, box_of, last_in, with_letters, world_after}
use Rattle.group_exchange.specs.Keeps.{Holds, IsMarked, IsRecorded}
use Rattle.group_exchange.specs.Effects.{AreWaiting, Collects, LeftBlock, PostsBlock, TookLetters, takes_of}
use Rattle.group_exchange.proofs.Collected.{kept-collected, holds-collected}
use Rattle.group_exchange.proofs.Ends.{group_at, group-told, ledger-told, shown, takes-none}
use Rattle.group_boxes.proofs.Lists.{none-falls}
use Rattle.group_exchange.proofs.Trays.{took-none}

module _ {S K : Type 0} {r : Rules Message S K Note} {number end : S → ℕ} {is_placed : S → Type 0} {x : Setting S} {owners : List ℕ} {groups : ℕ} {steps : List Step} {mail : Boxes} {floors : Floors}
    {gvt : ℕ} {standings : List Standing} (k : IsRecorded r number end is_placed x owners groups steps mail floors gvt standings) (g : ℕ) (within : g < groups) where
  -- all letters of the box were taken
  pub collects-shown : (steps' : List Step) → steps' ≡ steps ++ takes_of r.order (box_of mail.boxes g) → (standings' : List Standing) (now : Standing) → standings' ≡ set standings g now →
      last_in now ≡ steps' → now.steps ≡ length steps' → now.seen ≡ gvt → (count : ℕ) → count ≡ length (box_of mail.boxes g) → (h new : Held S K) → TookLetters (box_of mail.boxes g) h new →
      (s : Standing) (limit gone : ℕ) →
      Collects (simulation_of r x) owners (shown steps standings limit) (group_at g h s gone) (shown steps' standings' limit) (group_at g new now gone) count
  collects-shown steps' more standings' now told last place sees count is h new took s limit gone = record {
    letters = box_of mail.boxes g;
    count_is = is;
    home = k.home g within;
    whole = λ p o. k.mail_is g p o;
    exchange = ledger-told steps' (steps ++ takes_of r.order (box_of mail.boxes g)) standings standings' g now limit more told (place ∙ sym (ap length last));
    group = group-told g h new s now gone (world_after (simulation_of r x) steps).gvt steps' last (sees ∙ k.gvt_is);
    held = took;
  }

  -- which are all that wait for the group
  pub waiting : (h : Held S K) (s : Standing) (limit gone : ℕ) → AreWaiting (simulation_of r x) owners (shown steps standings limit) (group_at g h s gone) (box_of mail.boxes g)
  waiting h s limit gone = record { home = k.home g within; whole = λ p o. k.mail_is g p o }

  -- no letter was there
  module _ (empty : box_of mail.boxes g ≡ []) (now : Standing) (last : last_in now ≡ steps) (place : now.steps ≡ length steps) (sees : now.seen ≡ gvt) (standings' : List Standing)
      (told : standings' ≡ set standings g now) where
    pub kept-none : IsRecorded r number end is_placed x owners groups steps mail floors gvt standings'
    kept-none =
        kept-collected k g within steps (takes-none r.order steps (box_of mail.boxes g) empty) mail refl refl empty (λ h n. refl) floors refl refl
        (none-falls r.order _ (box_of mail.boxes g) empty) (λ h n. refl) now last place sees standings' told

    pub holds-none : {V : S → Message → Type 0} {s : Standing} {h : Held S K} → Laws (simulation_of r x) → IsMarked r number end is_placed x owners steps gvt g s →
        Holds r number end is_placed x owners V groups g s.seen (last_in s) h → h.flow.words ≡ [] → Holds r number end is_placed x owners V groups g gvt steps h
    holds-none {V} {s} {h} L m old none =
        holds-collected k g within steps (takes-none r.order steps (box_of mail.boxes g) empty) L m old none h refl none
        (λ v t. subst (λ ls. StandsForGroup r V x (with_letters r.order ls v) h) (sym empty) t)

    pub collects-none : (h : Held S K) (s : Standing) (limit gone : ℕ) →
        Collects (simulation_of r x) owners (shown steps standings limit) (group_at g h s gone) (shown steps standings' limit) (group_at g h now gone) 0
    collects-none h s limit gone =
        collects-shown steps (takes-none r.order steps (box_of mail.boxes g) empty) standings' now told last place sees 0 (sym (ap length empty)) h h
        (took-none h (box_of mail.boxes g) empty) s limit gone

  -- the block went to the journal
  pub posts-shown : (h : Held S K) (steps' : List Step) → steps' ≡ steps ++ map (behind (waiting_in (simulation_of r x) (world_after (simulation_of r x) steps))) (steps_told h.flow.words) →
      (standings' : List Standing) (now : Standing) → standings' ≡ set standings g now → last_in now ≡ steps' → now.steps ≡ length steps' → (s : Standing) → now.seen ≡ s.seen →
      (new : Held S K) → LeftBlock h new → (limit gone : ℕ) →
      PostsBlock (simulation_of r x) owners (shown steps standings limit) (group_at g h s gone) (shown steps' standings' limit) (group_at g new now gone)
  posts-shown h steps' more standings' now told last place s sees new left limit gone = record {
    exchange = ledger-told steps' _ standings standings' g now limit more told (place ∙ sym (ap length last));
    group = group-told g h new s now gone s.seen steps' last sees;
    held = left;
  }
