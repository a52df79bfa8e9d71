-- One process alone: what each step of it keeps, and the steps that neither handle nor undo an event.
use Rattle.std.proofs.Common.{◌≡◌, refl, ap, ◌∙◌, arith}
use Rattle.virtual_time.specs.Law.{Rules, reached, undone, Part, opened, delivered, emptied, undo_all, IsWell, SendsKept}
use Rattle.virtual_time.specs.declared.letter.Letter.{Letter}
use Rattle.virtual_time.proofs.Handling.{reached-append, undone-along}

module _ {M S K N : Type 0} (r : Rules M S K N) (Good : S → Type 0) (opening : S) where
  -- the process is well afterwards, and its outbox tells what its events sent
  pub record IsWellStep (old new : Part M S) : Type 0 where
    pub well : IsWell r Good opening new
    pub sends : (m : M) → SendsKept r opening old new m

  pub no_step-well : (part : Part M S) → IsWell r Good opening part → IsWellStep part part
  no_step-well part w = record { well = w; sends = λ m. refl }

  pub opened-well : IsWell r Good opening (opened opening)
  opened-well = record {
    state_is = refl;
    good = tt;
    ascending = tt;
    done_present = λ m j. absurd (omega arith);
    done_first = λ m h z d j. absurd (omega arith);
  }

  -- tray and outbox play no part in it
  pub delivered-well : (l : Letter M) (part : Part M S) → IsWell r Good opening part → IsWell r Good opening (delivered l part)
  delivered-well l part w = record { state_is = w.state_is; good = w.good; ascending = w.ascending; done_present = w.done_present; done_first = w.done_first }

  pub emptied-well : (part : Part M S) → IsWell r Good opening part → IsWell r Good opening (emptied part)
  emptied-well part w = record { state_is = w.state_is; good = w.good; ascending = w.ascending; done_present = w.done_present; done_first = w.done_first }

  -- undo all gives the state after the committed events alone
  pub undo_all-well : ((s : S) (e : M) → Good s → r.undo (r.after s e) e (r.kept s e) ≡ s) → (part : Part M S) → IsWell r Good opening part →
      undo_all r opening part ≡ reached r opening part.committed
  undo_all-well law part w =
      ap (λ z. undone r (reached r opening part.committed) part.done z) (w.state_is ∙ reached-append r opening part.committed part.done) ∙
      undone-along r Good law (reached r opening part.committed) part.done w.good
