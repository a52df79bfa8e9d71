-- What an event makes of a port: it stays as it was and asks for nothing, starts a frame and asks to be freed once, or becomes idle.
use Rattle.std.proofs.Common.{◌≡◌, ◌≢◌, ℕ, ◌+◌, ◌<◌, ◌≤◌, ◌⊎◌, inl, inr, Bool, true, false, cond, List, [], ◌∷◌, length, Some, slice_get, slice_set, refl, sym, ap, ◌∙◌, arith, eq-eqb, length-set}
use Rattle.std.proofs.lemmas.Bool.{cases_lt}
use Rattle.std.proofs.lemmas.List.{get_or-set_other}
use Rattle.std.proofs.lemmas.Option.{slice_get-get_or, slice_get_past}
use Rattle.vlink.specs.Wire.{busy_for}
use Rattle.vlink.specs.declared.frame.Frame.{Frame}
use Rattle.vlink.specs.declared.message.Body.TheVariants.{PortFree}
use Rattle.output_port.specs.Port.{PortState, Outcome, port, keeping, dropping, still_idle, at_once, may_wait, next}
use Rattle.output_port.specs.declared.event.Priority.{Priority}
use Rattle.output_port.specs.declared.event.Priority.TheVariants.{High, Low}
use Rattle.output_port.specs.declared.event.PortEvent.{PortEvent}
use Rattle.output_port.specs.declared.event.PortEvent.TheVariants.{Put, Free}
use Rattle.nodes.specs.declared.ports.LineAhead.{LineAhead}
use Rattle.reverse.specs.Sending.{Wish}
use Rattle.nodes.specs.rules.Ports.{answered, start}
use Rattle.port_turns.specs.PortTimer.{frees}

pub data Turn (n : ℕ) (free before after : Bool) (ws : List Wish) : Type 0 where
  Stays : after ≡ before → ws ≡ [] → (free ≡ false) ⊎ (before ≡ false) → Turn n free before after ws
  Starts : (w : Wish) → ws ≡ w ∷ [] → w.receiver ≡ n → after ≡ true → (free ≡ true) ⊎ (before ≡ false) → Turn n free before after ws
  Stops : free ≡ true → after ≡ false → ws ≡ [] → Turn n free before after ws

abbrev pub is_free_event : PortEvent → Bool
is_free_event (Put frame priority) = false
is_free_event Free = true

-- what frees the port that starts a frame
pub frees-start : (n t q : ℕ) (ahead : LineAhead) (frame : Frame) →
    frees q (start n t q ahead frame).wishes ≡ record { time = t + busy_for frame.size ahead.byte_ns; receiver = n; body = PortFree q } ∷ []
frees-start n t q ahead frame = rw (eq-eqb q q refl) refl

abbrev TurnBy : ℕ → ℕ → ℕ → LineAhead → PortEvent → Bool → Outcome → Type 0
TurnBy n t q ahead e before o = Turn n (is_free_event e) before o.state.busy (frees q (answered n t q ahead e o.answer).wishes)

started : (n t q : ℕ) (ahead : LineAhead) (free before : Bool) (frame : Frame) → (free ≡ true) ⊎ (before ≡ false) → (after : Bool) → after ≡ true →
    Turn n free before after (frees q (start n t q ahead frame).wishes)
started n t q ahead free before frame why after is = Starts _ (frees-start n t q ahead frame) refl is why

pub port-turn : (n t q : ℕ) (ahead : LineAhead) (p : PortState) (e : PortEvent) →
    Turn n (is_free_event e) p.busy (port.after p e).busy (frees q (answered n t q ahead e (port.out p e)).wishes)
port-turn n t q ahead p (Put frame priority) = go p.busy refl
  where
    keep : (priority : Priority) → TurnBy n t q ahead (Put frame priority) p.busy (keeping p frame priority)
    keep High = Stays refl refl (inl refl)
    keep Low = Stays refl refl (inl refl)

    wait : (b : Bool) → TurnBy n t q ahead (Put frame priority) p.busy (cond b (keeping p frame priority) (dropping p))
    wait true = keep priority
    wait false = Stays refl refl (inl refl)

    go : (b : Bool) → p.busy ≡ b → TurnBy n t q ahead (Put frame priority) p.busy (cond b (cond (may_wait p frame) (keeping p frame priority) (dropping p)) (at_once p frame))
    go true is = wait (may_wait p frame)
    go false is = started n t q ahead false p.busy frame (inr is) true refl
port-turn n t q ahead p Free = go p.busy refl
  where
    nexts : (high low : List Frame) → p.busy ≡ true → TurnBy n t q ahead Free p.busy (next p high low)
    nexts (x ∷ xs) low is = started n t q ahead true p.busy x (inl refl) p.busy is
    nexts [] (x ∷ xs) is = started n t q ahead true p.busy x (inl refl) p.busy is
    nexts [] [] is = Stops refl refl refl

    go : (b : Bool) → p.busy ≡ b → TurnBy n t q ahead Free p.busy (cond b (next p p.high p.low) (still_idle p))
    go true is = nexts p.high p.low is
    go false is = Stays refl refl (inr is)

pub get-other : {X : Type 0} (xs : List X) (i j : ℕ) (y : X) → j ≢ i → slice_get (slice_set xs i y) j ≡ slice_get xs j
get-other xs i j y n = elim (cases_lt j (length xs)) [ inl h ↦ within h | inr h ↦ past h ]
  where
    within : j < length xs → slice_get (slice_set xs i y) j ≡ slice_get xs j
    within h = slice_get-get_or (slice_set xs i y) j y (omega (arith, length-set xs i y)) ∙ ap Some (get_or-set_other xs i j y y n) ∙ sym (slice_get-get_or xs j y h)

    past : length xs ≤ j → slice_get (slice_set xs i y) j ≡ slice_get xs j
    past h = slice_get_past (slice_set xs i y) j (omega (arith, length-set xs i y)) ∙ sym (slice_get_past xs j h)
