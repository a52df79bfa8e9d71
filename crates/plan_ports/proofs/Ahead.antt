-- The line that a port leads into is one of the network, and each line has its port.
use Rattle.std.proofs.Common.{◌≡◌, ℕ, zero, suc, ◌+◌, ◌<◌, ◌≤◌, ◌==◌, ◌&&◌, Bool, true, false, cond, List, [], ◌∷◌, length, map, get_or, Option, Some, None, inl, inr, refl, ap, sym, ◌∙◌, arith, slice_get, option_map, option_and_then, eqb-true, eq-eqb}
use Rattle.std.specs.List.{range_with_len}
use Rattle.std.proofs.lemmas.Bool.{cases_lt, false≢true}
use Rattle.std.proofs.lemmas.List.{length-map}
use Rattle.std.proofs.lemmas.List.FromFn.{get_or-range_with_len, length-range_with_len}
use Rattle.std.proofs.lemmas.Option.{none-some, same_Some, slice_get-map, slice_get-get_or, slice_get_past}
use Rattle.network.specs.declared.wiring.LinePlan.{LinePlan}
use Rattle.network.specs.Words.{Plan, lines_of}
use Rattle.nodes.specs.declared.ports.LineAhead.{LineAhead}
use Rattle.nodes.specs.declared.ports.Outlet.{Outlet}
use Rattle.nodes.specs.rules.Ports.{outlet_at}
use Rattle.nodes.specs.rules.Opening.{leaves_by, line_ahead_among, lines_ahead_of, outlet_of, ports_of}

-- a line that leaves by a port, of these that are the processes from `process` on
pub record IsAhead (n q process : ℕ) (lines : List LinePlan) (ahead : LineAhead) : Type 0 where
  pub k : ℕ
  pub line : LinePlan
  pub read : slice_get lines k ≡ Some line
  pub from : line.from ≡ n
  pub from_port : line.from_port ≡ q
  pub is : ahead ≡ record { line = process + k; byte_ns = line.byte_ns }

both : (a b : Bool) → (a && b) ≡ true → (a ≡ true) × (b ≡ true)
both true b h = (refl, h)
both false b h = absurd (false≢true h)

pub ahead-is : (n q process : ℕ) (lines : List LinePlan) (ahead : LineAhead) → line_ahead_among n q process lines ≡ Some ahead → IsAhead n q process lines ahead
ahead-is n q process [] ahead e = absurd (none-some ahead e)
ahead-is n q process (line ∷ lines) ahead e = go (leaves_by n q line) refl e (ahead-is n q (process + 1) lines ahead)
  where
    behind : IsAhead n q (process + 1) lines ahead → IsAhead n q process (line ∷ lines) ahead
    behind h = record {
      k = suc h.k;
      line = h.line;
      read = h.read;
      from = h.from;
      from_port = h.from_port;
      is = h.is ∙ ap (λ (j : ℕ). record { line = j; byte_ns = h.line.byte_ns }) (let step : (process + 1) + h.k ≡ process + suc h.k = omega arith in step);
    }

    go : (b : Bool) → leaves_by n q line ≡ b → cond b (Some (record { line = process; byte_ns = line.byte_ns })) (line_ahead_among n q (process + 1) lines) ≡ Some ahead
        → (line_ahead_among n q (process + 1) lines ≡ Some ahead → IsAhead n q (process + 1) lines ahead) → IsAhead n q process (line ∷ lines) ahead
    go true out e later =
        let ends = both (line.from == n) (line.from_port == q) out in
        record {
          k = 0;
          line = line;
          read = refl;
          from = eqb-true line.from n ends.0;
          from_port = eqb-true line.from_port q ends.1;
          is = sym (same_Some (record { line = process; byte_ns = line.byte_ns }) ahead e) ∙ ap (λ (j : ℕ). record { line = j; byte_ns = line.byte_ns }) (let none : process ≡ process + 0 = omega arith in none);
        }
    go false out e later = behind (later e)

-- a line that leaves by a port is ahead of it, or an earlier one is
pub has-ahead : (n q process : ℕ) (lines : List LinePlan) (k : ℕ) (line : LinePlan) → slice_get lines k ≡ Some line → line.from ≡ n → line.from_port ≡ q
    → (ahead : LineAhead) × (line_ahead_among n q process lines ≡ Some ahead)
has-ahead n q process [] k line read from port = absurd (none-some line read)
has-ahead n q process (first ∷ lines) zero line read from port =
    let same : first ≡ line = same_Some first line read in
    let at : (first.from == n) ≡ true = eq-eqb _ _ (ap (λ (l : LinePlan). l.from) same ∙ from) in
    let by : (first.from_port == q) ≡ true = eq-eqb _ _ (ap (λ (l : LinePlan). l.from_port) same ∙ port) in
    (record { line = process; byte_ns = first.byte_ns }, rw (at, by) refl)
has-ahead n q process (first ∷ lines) (suc k) line read from port = go (leaves_by n q first) (has-ahead n q (process + 1) lines k line read from port)
  where
    go : (b : Bool) → (ahead : LineAhead) × (line_ahead_among n q (process + 1) lines ≡ Some ahead)
        → (ahead : LineAhead) × (cond b (Some (record { line = process; byte_ns = first.byte_ns })) (line_ahead_among n q (process + 1) lines) ≡ Some ahead)
    go true later = (record { line = process; byte_ns = first.byte_ns }, refl)
    go false later = later

-- where a list has nothing, it has ended
pub none-past : {X : Type 0} (xs : List X) (k : ℕ) → slice_get xs k ≡ None → length xs ≤ k
none-past [] k e = omega arith
none-past (x ∷ xs) zero e = absurd (none-some x (sym e))
none-past (x ∷ xs) (suc k) e = let rest = none-past xs k e in omega arith

-- ---- the ports of a node

slot-map : (q : ℕ) (f : ℕ → Option Outlet) (count : ℕ) → q < count → outlet_at (map f (range_with_len 0 count)) q ≡ f q
slot-map q f count lt =
    let first : get_or (range_with_len 0 count) q 0 ≡ q = omega (arith, get_or-range_with_len 0 count q 0 lt) in
    let there : slice_get (range_with_len 0 count) q ≡ Some q = slice_get-get_or (range_with_len 0 count) q 0 (omega (arith, length-range_with_len 0 count)) ∙ ap Some first in
    ap (option_and_then (λ o. o)) (slice_get-map f (range_with_len 0 count) q ∙ ap (option_map f) there)

map-map : {X Y Z : Type 0} (g : Y → Z) (f : X → Y) (xs : List X) → map g (map f xs) ≡ map (λ x. g (f x)) xs
map-map g f [] = refl
map-map g f (x ∷ xs) = ap (λ zs. g (f x) ∷ zs) (map-map g f xs)

module _ (plan : Plan) (n count bytes : ℕ) where
  slot : ℕ → Option Outlet
  slot q = option_map (outlet_of bytes) (line_ahead_among n q (length plan.nodes) (lines_of plan))

  ports-are : ports_of plan n count bytes ≡ map slot (range_with_len 0 count)
  unfolding lines_ahead_of slot
  ports-are = map-map (option_map (outlet_of bytes)) (λ q. line_ahead_among n q (length plan.nodes) (lines_of plan)) (range_with_len 0 count)

  -- what stands at port q leads into a line
  pub outlet-ahead : (q : ℕ) (outlet : Outlet) → outlet_at (ports_of plan n count bytes) q ≡ Some outlet
      → (ahead : LineAhead) × (line_ahead_among n q (length plan.nodes) (lines_of plan) ≡ Some ahead) × (outlet ≡ outlet_of bytes ahead)
  unfolding slot
  outlet-ahead q outlet e = elim (cases_lt q count) [
    | inr past ↦ absurd (none-some outlet (sym (beyond past) ∙ e))
    | inl lt ↦ made (line_ahead_among n q (length plan.nodes) (lines_of plan)) refl (sym (at lt) ∙ e)
  ]
    where
      at : q < count → outlet_at (ports_of plan n count bytes) q ≡ slot q
      at lt = ap (λ ports. outlet_at ports q) ports-are ∙ slot-map q slot count lt

      beyond : count ≤ q → outlet_at (ports_of plan n count bytes) q ≡ None
      beyond past = ap (λ ports. outlet_at ports q) ports-are
          ∙ ap (option_and_then (λ o. o)) (slice_get_past (map slot (range_with_len 0 count)) q (omega (arith, length-map (range_with_len 0 count) slot, length-range_with_len 0 count)))

      made : (o : Option LineAhead) → line_ahead_among n q (length plan.nodes) (lines_of plan) ≡ o → option_map (outlet_of bytes) o ≡ Some outlet
          → (ahead : LineAhead) × (line_ahead_among n q (length plan.nodes) (lines_of plan) ≡ Some ahead) × (outlet ≡ outlet_of bytes ahead)
      made None is h = absurd (none-some outlet h)
      made (Some ahead) is h = (ahead, is, sym (same_Some (outlet_of bytes ahead) outlet h))

  -- and each line that leaves by it is found, or an earlier one
  pub ahead-outlet : (q : ℕ) (ahead : LineAhead) → q < count → line_ahead_among n q (length plan.nodes) (lines_of plan) ≡ Some ahead
      → outlet_at (ports_of plan n count bytes) q ≡ Some (outlet_of bytes ahead)
  unfolding slot
  ahead-outlet q ahead lt is = ap (λ ports. outlet_at ports q) ports-are ∙ slot-map q slot count lt ∙ ap (option_map (outlet_of bytes)) is
