-- The rows of the one-thread run of a network are lawful.
use Rattle.std.proofs.Common.{◌≡◌, ◌∙◌, ℕ, zero, suc, ◌≤◌, List, [], Option, Some, None, refl, sym, ap, subst, All}
use Rattle.std.specs.Cmp.{IsTotalOrder}
use Rattle.std.proofs.lemmas.List.Elements.{All-append, All-nil, All-map}
use Rattle.vlink.specs.declared.message.Message.{Message}
use Rattle.vlink.specs.declared.note.Note.{Note}
use Rattle.vlink.specs.Order.{message_cmp}
use Rattle.vlink.specs.Letters.{Row}
use Rattle.virtual_time.specs.Law.{rows_of, rowed, rows_at, least, Simulation, Laws, one, handle}
use Rattle.virtual_time.proofs.Least.{least-some}
use Rattle.virtual_time.proofs.OneThread.{right, nothing_outside}
use Rattle.network.specs.Words.{Plan, process_count}
use Rattle.nodes.specs.declared.node.NodeRecord.{NodeRecord}
use Rattle.nodes.specs.Words.{NodeState, simulation_of}
use Rattle.trace_segments.specs.Words.{AreInMessageOrder, AreAtReceivers}
use Rattle.network_actors.specs.Networks.{AreRowsOf}
use Rattle.network_actors.proofs.OneThreadRows.{one-here, one-ordered}
use Rattle.run_rows.specs.Traces.{HasLawfulRows}

module _ (plan : Plan) (L : Laws (simulation_of plan)) where
  abbrev f : Simulation Message NodeState NodeRecord Note
  f = simulation_of plan

  abbrev IsInTime : Row → Type 0
  IsInTime row = row.message.time ≤ plan.until

  -- after each event no row is later than the end
  in-time : (n : ℕ) → All IsInTime (one f n).rows
  unfolding one
  in-time zero = All-nil IsInTime
  in-time (suc n) = go (least f.rules.order (one f n).waiting) refl (in-time n)
    where
      go : (o : Option Message) → least f.rules.order (one f n).waiting ≡ o → All IsInTime (one f n).rows → All IsInTime (handle f (one f n) o).rows
      go None e h = h
      go (Some m) e h =
          let t = one f n in
          let notes = f.rules.notes (t.states (f.rules.order.receiver m)) m in
          let early : m.time ≤ plan.until = (right f L n).in_time m (least-some f.rules.order L.order t.waiting m e).inside in
          All-append IsInTime t.rows (rows_of f.rules.order m notes) h
          (All-map IsInTime (λ note. record { message = m; place = f.rules.order.receiver m; note = note }) notes (λ k d i. early))

  module _ (rows : List Row) (r : AreRowsOf plan rows) where
    seen-in-time : All (λ row. row.message.time ≤ plan.until) rows
    seen-in-time = subst (All IsInTime) (sym r.2) (in-time r.0)

    -- a process that the network lacks has none
    none-outside : (p : ℕ) → process_count plan ≤ p → rows_at p rows ≡ []
    none-outside p i =
        ap (rows_at p) r.2 ∙ ((right f L r.0).rows_are p
        ∙ ap (rowed f.rules (f.opening p)) (nothing_outside f L (one f r.0).handled (right f L r.0).handled_here p i))

  pub lawful-rows : IsTotalOrder message_cmp → HasLawfulRows plan
  lawful-rows O rows r =
      record {
        ordered = subst AreInMessageOrder (sym r.2) (one-ordered f L O (λ a b. refl) (λ m. refl) r.0);
        received = subst AreAtReceivers (sym r.2) (one-here f L O (λ a b. refl) (λ m. refl) r.0);
        none_outside = none-outside rows r;
        in_time = seen-in-time rows r;
      }
