-- Both halves of a process's standing tell one.
use Rattle.std.proofs.Common.{◌≡◌, ℕ, ◌<◌, ◌≤◌, List, sym, ap, ◌∙◌, subst, arith}
use Rattle.std.proofs.lemmas.List.{get_or-map}
use Rattle.vlink.specs.declared.message.Message.{Message}
use Rattle.vlink.specs.declared.note.Note.{Note}
use Rattle.virtual_time.specs.Law.{Rules, Entry, last_place}
use Rattle.virtual_time.specs.declared.moved.Move.{Move}
use Rattle.reverse.specs.Setting.{Setting, simulation_of}
use Rattle.antimessages.specs.Letters.{Store}
use Rattle.gvt.specs.Horizon.{Floors}
use Rattle.process_queues.specs.Queues.{Queues}
use Rattle.process_exchange.specs.declared.mark.Mark.{Mark}
use Rattle.process_exchange.specs.declared.mark.Standing.{Standing}
use Rattle.process_exchange.specs.Views.{blank, unplaced, mark_in, marks_in, mark_of, standing_of, place_of, own_of}
use Rattle.process_exchange.specs.Keeps.{IsRecorded, Holds}
use Rattle.process_exchange.proofs.Holding.{Joined, joined}

module _ {S K : Type 0} {r : Rules Message S K Note} {number end : S → ℕ} {is_placed : S → Type 0} {x : Setting S} {es : List (Entry Message)} {mail : List Store} {floors : Floors}
    {gvt count : ℕ} {standings : List Standing} (k : IsRecorded r number end is_placed x es mail floors gvt count standings)
    {is_value : S → Message → Type 0} {p gone : ℕ} {s : Standing} {block : List Move} {q : Queues S K}
    (h : Holds r number end is_placed x is_value p s.seen gone block (own_of p s.last) q) (told : s ≡ standing_of standings p) where
  -- its mark is the one of the exchange
  pub marks-agree : mark_in s ≡ mark_of (marks_in standings) p
  marks-agree = ap mark_in told ∙ sym (get_or-map mark_in standings p unplaced blank (let a = k.marked.count in let b = h.number_is in omega arith))

  pub all-joined : Joined (simulation_of r x) es p block (own_of p s.last)
  all-joined =
      joined k h (subst (λ n. n ≤ gvt) (sym (ap (λ (z : Standing). z.seen) told)) (k.marked.seen_low p h.number_is))
      (ap (λ (z : Standing). own_of p z.last) told ∙ k.marked.told p h.number_is)

module _ {S K : Type 0} {r : Rules Message S K Note} {number end : S → ℕ} {is_placed : S → Type 0} {x : Setting S} {es : List (Entry Message)} {mail : List Store} {floors : Floors}
    {gvt count : ℕ} {standings : List Standing} (k : IsRecorded r number end is_placed x es mail floors gvt count standings)
    {p : ℕ} (i : p < x.processes) (s : Standing) (fits : mark_in s ≡ mark_of (marks_in standings) p) where
  there : mark_in s ≡ mark_in (standing_of standings p)
  there = fits ∙ get_or-map mark_in standings p unplaced blank (let a = k.marked.count in omega arith)

  -- it saw no later GVT
  pub seen-low : s.seen ≤ gvt
  seen-low = subst (λ n. n ≤ gvt) (sym (ap (λ (m : Mark). m.seen) there)) (k.marked.seen_low p i)

  -- its last entry stands where the journal has it
  pub place-is : place_of s.last ≡ last_place p es
  place-is = ap (λ (m : Mark). m.place) there ∙ k.marked.place_is p i
