-- An exchange of groups and its groups at the start.
use Rattle.std.proofs.Common.{◌≡◌, ℕ, suc, ◌<◌, ◌≤◌, inl, true, All, List, [], ◌∷◌, map, length, slice_get, Some, IsPermutation, refl, sym, ap, ◌∙◌, subst, arith}
use Rattle.std.proofs.lemmas.List.Elements.{All-cons, All-filter, All-nil, filter_passes}
use Rattle.std.proofs.lemmas.List.{nil_from_length}
use Rattle.std.proofs.lemmas.List.Sorted.{length_permutation}
use Rattle.std.proofs.lemmas.Option.{slice_get_within}
use Rattle.vlink.specs.declared.message.Message.{Message}
use Rattle.vlink.specs.declared.note.Note.{Note}
use Rattle.vlink.specs.Letters.{Letter}
use Rattle.virtual_time.specs.Law.{Rules, Order, IsOrder, Laws, World, IsIn, in_hand, plus_of, received_by, run, start}
use Rattle.virtual_time.specs.declared.step.Step.{Step}
use Rattle.virtual_time.proofs.Lists.{in-head}
use Rattle.reverse.specs.Setting.{Setting, simulation_of, IsLaidOut}
use Rattle.gvt.specs.Horizon.{Floors}
use Rattle.group_hand.specs.Hands.{HasDoneNothing, Held, IsOpened, StandsForGroup, is_ours}
use Rattle.group_exchange.specs.declared.mark.Standing.{Standing}
use Rattle.group_exchange.specs.Views.{Boxes, IsUnplaced, box_of, for_group, is_of, world_after}
use Rattle.group_exchange.specs.Keeps.{AreAsIn, AreGrouped, Holds, IsRecorded}
use Rattle.group_exchange.proofs.Owners.{received-group}
use Rattle.group_exchange.proofs.Collected.{of-process}
use Rattle.group_exchange.proofs.Posted.{of-group}
use Rattle.group_exchange.proofs.Holding.{holds-empty}
use Rattle.group_exchange.proofs.Marks.{as-is}
use Rattle.group_exchange.proofs.RowsKept.{each-message}
use Rattle.group_exchange.proofs.SafeNow.{safe-now}

-- a hand of no offers has done nothing
pub nothing-done : {S K : Type 0} (h : Held S K) → h.done ≡ [] → h.rows ≡ record { all = []; left = 0 } → IsPermutation [] h.flow.queue → h.flow.extra ≡ [] → h.flow.tray ≡ [] → h.flow.abroad ≡ [] →
    HasDoneNothing h
nothing-done h done rows queue extra tray abroad = record {
  done = done;
  rows = ap (λ z. z.all) rows;
  queue = nil_from_length h.flow.queue (length_permutation [] h.flow.queue queue);
  extra = extra;
  tray = tray;
  abroad = abroad;
}

-- what holds of each message of a list holds of the letters that bring them
each-offered : (o : Order Message) (O : IsOrder o) (P : Message → Type 0) (ms : List Message) → ((m : Message) → IsIn o m ms → P m) → All (λ l. P l.message) (map plus_of ms)
each-offered o O P [] h = All-nil (λ (l : Letter). P l.message)
each-offered o O P (m ∷ ms) h = All-cons (λ (l : Letter). P l.message) (plus_of m) (map plus_of ms) (h m (in-head o O m ms)) (each-offered o O P ms (λ y i. h y (omega arith)))

module _ {S K : Type 0} {r : Rules Message S K Note} {number end : S → ℕ} {is_placed : S → Type 0} {x : Setting S} (laid : IsLaidOut r number end is_placed x) {owners : List ℕ} {groups : ℕ}
    (grouped : AreGrouped x.processes groups owners) where
  -- with the offers in the boxes, floors at the moment after the end, GVT 0 and no step
  pub kept-opened : IsOrder r.order → (mail : Boxes) → mail.owners ≡ owners → length mail.boxes ≡ groups → ((g : ℕ) → g < groups → box_of mail.boxes g ≡ for_group r.order owners g (map plus_of x.offers)) →
      (floors : Floors) → length floors.floors ≡ groups → floors.until ≡ x.until → ((g : ℕ) → g < groups → slice_get floors.floors g ≡ Some (suc x.until)) →
      (standings : List Standing) → length standings ≡ groups → ((g : ℕ) (s : Standing) → slice_get standings g ≡ Some s → IsUnplaced s) →
      (steps : List Step) → steps ≡ [] → (gvt : ℕ) → gvt ≡ 0 → IsRecorded r number end is_placed x owners groups steps mail floors gvt standings
  unfolding run
  kept-opened O mail owners-is boxes letters floors floor_count until each standings count blanks steps none gvt zero-is =
      let f = simulation_of r x in
      subst (λ ss. IsRecorded r number end is_placed x owners groups ss mail floors gvt standings) (sym none) (record {
        laid = laid;
        grouped = grouped;
        owners_is = owners-is;
        boxes = boxes;
        home = λ g i. subst (λ ls. All (λ l. is_of owners g (r.order.receiver l.message) ≡ true) ls) (sym (letters g i))
            (filter_passes (λ l. is_of owners g (r.order.receiver l.message)) (map plus_of x.offers));
        in_time = λ g i. subst (λ ls. All (λ l. r.order.time l.message ≤ x.until) ls) (sym (letters g i))
            (All-filter (λ l. is_of owners g (r.order.receiver l.message)) (λ l. r.order.time l.message ≤ x.until) (map plus_of x.offers)
            (each-offered r.order O (λ m. r.order.time m ≤ x.until) x.offers laid.offered_in_time));
        mail_is = λ g p o.
            sym (received-group r.order owners g p o (map plus_of x.offers)) ∙ ap (received_by r.order p) (sym (letters g (of-group grouped g p o)));
        floor_count = floor_count;
        until = until;
        floors_is = λ g d e.
            let i : g < groups = (let a = slice_get_within floors.floors g d e in omega arith) in
            let same : suc x.until ≡ d = (let a : Some (suc x.until) ≡ Some d = sym (each g i) ∙ e in cc) in
            record { bound = λ p o. omega arith; reached = inl (sym same) };
        gvt_is = zero-is;
        enabled = tt;
        marked = record {
          count = count;
          each = λ g s e. let b = blanks g s e in record {
            same = subst (λ ss. AreAsIn (is_of owners g) (world_after f ss) (start f)) (sym b.0) (as-is (is_of owners g) (start f));
            place = b.1 ∙ sym (ap length b.0);
            seen_low = let a = b.2 in omega arith;
          };
        };
      })

  -- the offers go to processes
  pub offers-home : IsOrder r.order → (offers : List Message) → offers ≡ x.offers → (count : ℕ) → count ≡ x.processes → All (λ m. r.order.receiver m < count) offers
  offers-home O offers same count e =
      each-message r.order O (λ m. r.order.receiver m < count) offers (λ m i. let a = laid.offered_to m (subst (IsIn r.order m) same i) in omega arith)

  -- a group that has done nothing
  pub holds-opened : Laws (simulation_of r x) → {V : S → Message → Type 0} (g : ℕ) → g < groups → (h : Held S K) → ((p : ℕ) → is_ours h.members p ≡ is_of owners g p) → h.flow.words ≡ [] →
      length h.members ≡ x.processes → ((p : ℕ) (s : S) → slice_get h.members p ≡ Some (Some s) → s ≡ x.opening p) →
      ((v : World Message S) → IsOpened x v h → StandsForGroup r V x v h) → (last : List Step) → last ≡ [] → (seen : ℕ) → seen ≡ 0 →
      Holds r number end is_placed x owners V groups g seen last h
  unfolding run
  holds-opened L {V} g i h ours none count states stands last nothing seen zero-is =
      let f = simulation_of r x in
      subst (λ ss. Holds r number end is_placed x owners V groups g seen ss h) (sym nothing)
      (holds-empty laid grouped i h ours none
      (stands (in_hand f seen (start f)) (record { count = count; state = states; part = λ p o. refl; floor = λ p o. refl; mail = λ q. refl }))
      (safe-now f L (is_of owners g) (λ p o. of-process grouped g p o) [] seen zero-is))
