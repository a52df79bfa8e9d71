-- The rows of the one-thread run are in message order, and each is of the process that received its message.
use Rattle.std.proofs.Common.{◌≡◌, ◌∙◌, ℕ, zero, suc, ◌+◌, ◌-◌, ◌<◌, Bool, false, List, [], ◌∷◌, ◌++◌, Option, Some, None, length, refl, sym, ap, subst, arith, append-nil, append_assoc, slice_index_or, All, is_lt}
use Rattle.std.specs.Cmp.{IsTotalOrder}
use Rattle.std.proofs.lemmas.Cmp.{tied_itself}
use Rattle.std.proofs.lemmas.List.Elements.{All-append, All-nil, All-push, All-weaker, All-map, All-get_or}
use Rattle.std.proofs.lemmas.List.Kept.{IsSortedBy-push}
use Rattle.vlink.specs.declared.message.Message.{Message}
use Rattle.vlink.specs.declared.note.Note.{Note}
use Rattle.vlink.specs.Order.{message_cmp}
use Rattle.vlink.specs.Letters.{Row}
use Rattle.virtual_time.specs.Law.{rows_of, IsIn, least, Simulation, Laws, OneThread, one, handle}
use Rattle.virtual_time.proofs.Order.{less-asym}
use Rattle.virtual_time.proofs.Least.{least-some}
use Rattle.virtual_time.proofs.Lists.{times-append, times-one}
use Rattle.virtual_time.proofs.OneThread.{right}
use Rattle.trace_segments.specs.Words.{AreInMessageOrder, AreAtReceivers}

abbrev is_before : Row → Row → Bool
is_before x y = is_lt (message_cmp x.message y.message)

module _ {S K : Type 0} (f : Simulation Message S K Note) (O : IsTotalOrder message_cmp) (m : Message) where
  abbrev IsNoLater : Row → Type 0
  IsNoLater row = is_lt (message_cmp m row.message) ≡ false

  -- rows of this message behind such as come no later
  rows-behind : (notes : List Note) (rows : List Row) → AreInMessageOrder rows → All IsNoLater rows → AreInMessageOrder (rows ++ rows_of f.rules.order m notes)
  rows-behind [] rows up below = subst AreInMessageOrder (sym (append-nil rows)) up
  rows-behind (n ∷ notes) rows up below =
      let row : Row = record { message = m; place = f.rules.order.receiver m; note = n } in
      let last = λ (d : Row) (i : 0 < length rows). All-get_or IsNoLater rows (length rows - 1) d (omega arith) below in
      subst AreInMessageOrder (append_assoc rows (row ∷ []) (rows_of f.rules.order m notes))
      (rows-behind notes (rows ++ row ∷ []) (IsSortedBy-push is_before rows row up last) (All-push IsNoLater rows row below (ap is_lt (tied_itself O m))))

module _ {S K : Type 0} (f : Simulation Message S K Note) (L : Laws f) (O : IsTotalOrder message_cmp)
    (less_is : (a b : Message) → f.rules.order.less a b ≡ is_lt (message_cmp a b)) (receiver_is : (m : Message) → f.rules.order.receiver m ≡ m.receiver) where
  -- the row is of a message that was handled, at its receiver
  record IsOf (ms : List Message) (row : Row) : Type 0 where
    handled : IsIn f.rules.order row.message ms
    here : row.place ≡ row.message.receiver

  -- so are all rows, in message order
  record AreRight (t : OneThread Message S Note) : Type 0 where
    each : All (IsOf t.handled) t.rows
    up : AreInMessageOrder t.rows

  later : (m : Message) (ms : List Message) (row : Row) → IsOf ms row → IsOf (ms ++ m ∷ []) row
  later m ms row h = record { handled = (let i = h.handled in let e = times-append f.rules.order L.order row.message ms (m ∷ []) in omega arith); here = h.here }

  new : (m : Message) (ms : List Message) (note : Note) → IsOf (ms ++ m ∷ []) (record { message = m; place = f.rules.order.receiver m; note = note })
  new m ms note =
      record {
        handled = (let e = times-append f.rules.order L.order m ms (m ∷ []) in let i = times-one f.rules.order L.order m in omega arith);
        here = receiver_is m;
      }

  rows-right : (n : ℕ) → AreRight (one f n)
  unfolding one
  rows-right zero = record { each = All-nil (IsOf []); up = λ k d i j. absurd (omega arith) }
  rows-right (suc n) = go (least f.rules.order (one f n).waiting) refl (rows-right n)
    where
      go : (o : Option Message) → least f.rules.order (one f n).waiting ≡ o → AreRight (one f n) → AreRight (handle f (one f n) o)
      go None e h = h
      go (Some m) e h =
          let t = one f n in
          let notes = f.rules.notes (t.states (f.rules.order.receiver m)) m in
          let waits = (least-some f.rules.order L.order t.waiting m e).inside in
          record {
            each = All-append (IsOf (t.handled ++ m ∷ [])) t.rows (rows_of f.rules.order m notes)
                (All-weaker (IsOf t.handled) (IsOf (t.handled ++ m ∷ [])) (later m t.handled) t.rows h.each)
                (All-map (IsOf (t.handled ++ m ∷ [])) (λ note. record { message = m; place = f.rules.order.receiver m; note = note }) notes (λ k d i. new m t.handled (slice_index_or notes k d)));
            up = rows-behind f O m notes t.rows h.up (All-weaker (IsOf t.handled) (IsNoLater f O m)
                (λ row k. sym (less_is m row.message) ∙ less-asym f.rules.order L.order row.message m ((right f L n).above row.message m k.handled waits)) t.rows h.each);
          }

  -- so they are after each event
  pub one-here : (n : ℕ) → AreAtReceivers (one f n).rows
  one-here n k d i = (All-get_or (IsOf (one f n).handled) (one f n).rows k d i (rows-right n).each).here

  pub one-ordered : (n : ℕ) → AreInMessageOrder (one f n).rows
  one-ordered n = (rows-right n).up
