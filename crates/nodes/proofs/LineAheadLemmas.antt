-- The lines that a node's ports lead into, one line more.
use Rattle.std.proofs.Common.{◌≡◌, ℕ, ◌+◌, ◌<◌, ◌&&◌, Bool, true, false, cond, is_none, List, [], ◌∷◌, ◌++◌, length, take, Option, Some, None, refl, ap, sym, ◌∙◌, arith, slice_get, length-take-le}
use Rattle.std.proofs.lemmas.Option.{slice_get_within, get_or_from_slice_get}
use Rattle.network.specs.declared.wiring.LinePlan.{LinePlan}
use Rattle.network.proofs.PlaceLemmas.{or_else, or_else-stored}
use Rattle.network.proofs.EachLemmas.{take-read}
use Rattle.nodes.specs.declared.ports.LineAhead.{LineAhead}
use Rattle.nodes.specs.Words.{leaves_by, line_ahead_among}

abbrev line_ahead_of : ℕ → LinePlan → Option LineAhead
line_ahead_of process line = Some (record { line = process; byte_ns = line.byte_ns })

line_ahead_among-push : (n q process : ℕ) (lines : List LinePlan) (line : LinePlan) → line_ahead_among n q process (lines ++ line ∷ []) ≡ or_else (line_ahead_among n q process lines) (cond (leaves_by n q line) (line_ahead_of (process + length lines) line) None)
line_ahead_among-push n q process [] line = ap (λ p. cond (leaves_by n q line) (line_ahead_of p line) None) (let e : process ≡ process + 0 = omega arith in e)
line_ahead_among-push n q process (first ∷ lines) line =
    let count : (process + 1) + length lines ≡ process + length (first ∷ lines) = omega arith in
    go (leaves_by n q first) (line_ahead_among-push n q (process + 1) lines line ∙ ap (λ p. or_else (line_ahead_among n q (process + 1) lines) (cond (leaves_by n q line) (line_ahead_of p line) None)) count)
  where
    go : (b : Bool) → line_ahead_among n q (process + 1) (lines ++ line ∷ []) ≡ or_else (line_ahead_among n q (process + 1) lines) (cond (leaves_by n q line) (line_ahead_of (process + length (first ∷ lines)) line) None)
        → cond b (line_ahead_of process first) (line_ahead_among n q (process + 1) (lines ++ line ∷ [])) ≡ or_else (cond b (line_ahead_of process first) (line_ahead_among n q (process + 1) lines)) (cond (leaves_by n q line) (line_ahead_of (process + length (first ∷ lines)) line) None)
    go true later = refl
    go false later = later

-- the line with the place k is stored where there was none yet
pub line_ahead_among-more : (n q process k number : ℕ) (lines : List LinePlan) (line : LinePlan) (old new : Option LineAhead) → slice_get lines k ≡ Some line → number ≡ process + k → old ≡ line_ahead_among n q process (take k lines)
    → new ≡ cond (leaves_by n q line && is_none old) (line_ahead_of number line) old → new ≡ line_ahead_among n q process (take (k + 1) lines)
line_ahead_among-more n q process k number lines line old new read numbered before stored =
    let out = leaves_by n q line in
    let lt : k < length lines = slice_get_within lines k line read in
    let all : take (k + 1) lines ≡ take k lines ++ line ∷ [] = take-read lines k line lt (sym (get_or_from_slice_get lines k line line read)) in
    let count : number ≡ process + length (take k lines) = omega (arith, length-take-le k lines (omega arith)) in
    stored
    ∙ or_else-stored old out (record { line = number; byte_ns = line.byte_ns })
    ∙ ap (λ o. or_else o (cond out (line_ahead_of number line) None)) before
    ∙ ap (λ p. or_else (line_ahead_among n q process (take k lines)) (cond out (line_ahead_of p line) None)) count
    ∙ sym (ap (line_ahead_among n q process) all ∙ line_ahead_among-push n q process (take k lines) line)
