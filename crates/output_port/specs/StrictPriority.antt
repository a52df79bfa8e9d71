-- What the plain functions of the port imply, over any list of events.
use Rattle.std.specs.Prelude.{◌≡◌, ◌⊎◌, true, false, List, [], ◌∷◌, ◌++◌}
use Rattle.vlink.specs.declared.frame.Frame.{Frame}
use Rattle.output_port.specs.declared.event.Priority.{Priority}
use Rattle.output_port.specs.declared.event.Priority.TheVariants.{High, Low}
use Rattle.output_port.specs.declared.event.PortEvent.{PortEvent}
use Rattle.output_port.specs.declared.event.PortEvent.TheVariants.{Put, Free}
use Rattle.output_port.specs.declared.event.PortAnswer.{PortAnswer}
use Rattle.output_port.specs.declared.event.PortAnswer.TheVariants.{Started, Kept, Dropped}
use Rattle.output_port.specs.Port.{PortState, port}

-- the event starts nothing at the state p: it keeps a frame or drops it, and the port stays busy
pub record StartsNothing (p : PortState) (e : PortEvent) : Type 0 where
  pub answer : (port.out p e ≡ Kept) ⊎ (port.out p e ≡ Dropped)
  pub stays_busy : (port.after p e).busy ≡ true

-- no frame waits at an idle port
abbrev pub IsWorkConserving : PortState → Type 0
IsWorkConserving p = p.busy ≡ false → (p.high ≡ []) × (p.low ≡ [])

-- the frame that this event, with this answer, keeps in the list of a priority, if there is one
abbrev pub kept_frame : PortEvent → PortAnswer → Priority → List Frame
kept_frame (Put frame High) Kept High = frame ∷ []
kept_frame (Put frame Low) Kept Low = frame ∷ []
kept_frame _ _ _ = []

-- the frame of a priority that this event, with this answer, starts from the frames that waited, if there is one:
-- while high ones wait it is a high one, and else a low one
abbrev pub started_frame : PortEvent → PortAnswer → Priority → List Frame → List Frame
started_frame Free (Started frame) High (x ∷ xs) = frame ∷ []
started_frame Free (Started frame) Low [] = frame ∷ []
started_frame _ _ _ high = []

-- the frames that these events, from the state p on, keep in the list of a priority, in their order
abbrev pub kept_frames : Priority → PortState → List PortEvent → List Frame
kept_frames priority p [] = []
kept_frames priority p (e ∷ es) = kept_frame e (port.out p e) priority ++ kept_frames priority (port.after p e) es

-- the frames that these events, from the state p on, start from the list of a priority, in their order
abbrev pub started_frames : Priority → PortState → List PortEvent → List Frame
started_frames priority p [] = []
started_frames priority p (e ∷ es) = started_frame e (port.out p e) priority p.high ++ started_frames priority (port.after p e) es

-- the state after these events, from the state p on
abbrev pub reached : PortState → List PortEvent → PortState
reached p [] = p
reached p (e ∷ es) = reached (port.after p e) es
