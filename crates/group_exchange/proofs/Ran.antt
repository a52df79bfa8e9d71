-- What a call of the hand did, as words that joined the block of a group.
use Rattle.std.proofs.Common.{◌≡◌, ℕ, ◌<◌, Bool, true, false, List, [], ◌∷◌, Result, Ok, Err, length, slice_get, sym, ap, ◌∙◌, subst, arith}
use Rattle.std.proofs.lemmas.List.{append_cancel_left}
use Rattle.vlink.specs.declared.message.Message.{Message}
use Rattle.vlink.specs.Order.{message_order}
use Rattle.virtual_time.specs.Law.{IsAscending, Laws, World, done_by, in_hand, received_by}
use Rattle.virtual_time.specs.declared.step.Step.{Step}
use Rattle.reverse.specs.Plain.{Plain}
use Rattle.reverse.specs.Rules.{rules_of}
use Rattle.reverse.specs.Setting.{Setting, simulation_of}
use Rattle.reverse.specs.declared.sends.Sends.{Sends}
use Rattle.group_queues.specs.declared.block.Word.TheVariants as word
use Rattle.group_hand.specs.Answered.{RunsInOrder, RunsNext}
use Rattle.group_queues.specs.Block.{AddsCommits, AddsLetters, commits_in, runs_in, steps_told}
use Rattle.group_queues.specs.DoneEvents.{messages_of}
use Rattle.group_hand.specs.Handling.{RanFirst}
use Rattle.group_hand.specs.Hands.{CommitsTold, DoesTold, FirstWaits, Held, IsAsBefore}
use Rattle.group_hand.specs.declared.fault.HandFault.{HandFault}
use Rattle.group_hand.specs.declared.fault.HandFault.TheVariants.{Exhausted, OutOfMemory}
use Rattle.group_hand.specs.declared.in_order.InOrder.{InOrder}
use Rattle.group_hand.specs.declared.in_order.InOrder.TheVariants.{Ran, Idle, Late}
use Rattle.group_hand.proofs.Adding.{adds-none}
use Rattle.group_hand.proofs.Going.{held-is}
use Rattle.group_exchange.specs.Views.{GroupState, is_of, world_after}
use Rattle.group_exchange.specs.Keeps.{Holds}
use Rattle.group_exchange.specs.Effects.{AreTimely, Ends, Goes}
use Rattle.group_exchange.proofs.Below.{next-first}
use Rattle.group_exchange.proofs.InWorld.{first-all}
use Rattle.group_exchange.proofs.Timely.{timely-letters, timely-run}
use Rattle.group_exchange.proofs.Told.{commits, does}

module _ {S K : Type 0} {plain : Plain S Message Sends K} {number end : S → ℕ} {is_placed : S → Type 0} {x : Setting S} {owners : List ℕ} {V : S → Message → Type 0} {groups g seen : ℕ} {last : List Step}
    {h : Held S K} (old : Holds (rules_of plain) number end is_placed x owners V groups g seen last h) (L : Laws (simulation_of (rules_of plain) x)) (new : Held S K) (gone : ℕ) where
  -- what the group had in hand
  abbrev now : World Message S
  now = done_by (simulation_of (rules_of plain) x) (steps_told h.flow.words) (in_hand (simulation_of (rules_of plain) x) seen (world_after (simulation_of (rules_of plain) x) last))

  abbrev with : Held S K → GroupState S K
  with k = record { number = g; held = k; last = last; seen = seen; gone = gone }

  pub goes-letters : DoesTold (rules_of plain) V h new → AddsLetters h.flow.words new.flow.words → (limit : ℕ) → Goes (simulation_of (rules_of plain) x) owners limit (with h) (with new)
  goes-letters d a limit =
      let f = simulation_of (rules_of plain) x in
      let same = append_cancel_left h.flow.words d.did a.added (sym d.block ∙ a.words) in
      record {
        did = d.did;
        went = (does old L new d).went gone;
        timely = timely-letters f (is_of owners g) limit d.did now (ap runs_in same ∙ a.no_run);
        no_commit = ap commits_in same ∙ a.no_commit;
      }

  -- no letter waits to arrive
  quiet : h.flow.tray ≡ [] → (q : ℕ) → is_of owners g q ≡ true → (now.parts q).tray ≡ []
  quiet none q o =
      let m = held-is (slice_get h.members q) (old.ours q ∙ o) in
      (old.stands.members q m.0 m.1).tray ∙ ap (received_by message_order q) none

  -- the first message was handled
  pub goes-run : DoesTold (rules_of plain) V h new → h.flow.tray ≡ [] → (limit : ℕ) → ((m : Message) × (m.time < limit) × RanFirst m h new) →
      Goes (simulation_of (rules_of plain) x) owners limit (with h) (with new)
  goes-run d none limit r =
      let f = simulation_of (rules_of plain) x in
      let m = r.0 in
      let k = r.2 in
      let a = k.words in
      let same = append_cancel_left h.flow.words d.did (word.Ran m.receiver ∷ a.added) (sym d.block ∙ a.words) in
      let next = next-first plain L.order V x now h old.stands m k.among k.first k.not_done in
      record {
        did = d.did;
        went = (does old L new d).went gone;
        timely = subst (λ ds. AreTimely f limit (is_of owners g) (steps_told ds) now) (sym same)
            (timely-run f (is_of owners g) limit m.receiver a.added now ((m, next, r.1, first-all plain L.order V x now h old.stands (is_of owners g) old.ours m k.first), quiet none) a.no_run);
        no_commit = (let n = a.no_commit in let e = ap commits_in same in omega arith);
      }

  -- where nothing changed, nothing was done
  goes-still : DoesTold (rules_of plain) V h new → (limit : ℕ) → IsAsBefore h new → Goes (simulation_of (rules_of plain) x) owners limit (with h) (with new)
  goes-still d limit a = goes-letters d (adds-none _ _ (ap (λ (z : Held S K). z.flow.words) a)) limit

  -- whatever the answer was
  pub goes-told : DoesTold (rules_of plain) V h new → h.flow.tray ≡ [] → (limit : ℕ) (told : Result InOrder HandFault) → RunsInOrder (λ s. plain.counter s) limit h new told →
      Goes (simulation_of (rules_of plain) x) owners limit (with h) (with new)
  goes-told d none limit (Ok Ran) t = goes-run d none limit (t.0, t.1, t.2)
  goes-told d none limit (Ok Idle) t = goes-still d limit t.0
  goes-told d none limit (Ok Late) t = goes-still d limit t.0
  goes-told d none limit (Err OutOfMemory) t = goes-still d limit t.0
  goes-told d none limit (Err Exhausted) t = goes-still d limit t.0.0

  -- the same in whatever order the events come, where the first message of the queue is not done
  pub goes-next : DoesTold (rules_of plain) V h new → h.flow.tray ≡ [] → (IsAscending message_order (messages_of h.done) → FirstWaits message_order h) → (limit : ℕ) (told : Result Bool HandFault) →
      RunsNext (rules_of plain) V (λ s. plain.counter s) limit h new told → Goes (simulation_of (rules_of plain) x) owners limit (with h) (with new)
  goes-next d none waits limit (Ok true) t = let k = t x now old.stands in goes-run d none limit (k.0, k.1, k.4 waits)
  goes-next d none waits limit (Ok false) t = goes-still d limit t.0
  goes-next d none waits limit (Err OutOfMemory) t = goes-still d limit t.0
  goes-next d none waits limit (Err Exhausted) t = goes-still d limit t.0.0

  -- events were committed
  pub ends-commits : CommitsTold (rules_of plain) V seen h new → AddsCommits h.flow.words new.flow.words → Ends (simulation_of (rules_of plain) x) owners (with h) (with new)
  ends-commits d a =
      let same = append_cancel_left h.flow.words d.did a.added (sym d.block ∙ a.words) in
      record {
        did = d.did;
        went = (commits old L new d).went gone;
        commits = subst (λ ds. commits_in ds ≡ length ds) (sym same) a.commits;
      }
