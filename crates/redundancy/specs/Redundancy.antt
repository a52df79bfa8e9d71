-- Redundancy management at a receiver: it delivers a frame if its number is new, or if the last delivery was long ago.
use Rattle.std.specs.Prelude.{ℕ, ◌-◌, Option, None, Some, Bool, true, not, nat_le, nat_lt, ◌==◌, ◌&&◌, ◌||◌, if◌then◌else◌}
use Rattle.vlink.specs.Numbering.{steps_between}
use Rattle.reverse.specs.Plain.{Plain}
use Rattle.redundancy.specs.declared.delivery.Received.{Received}
use Rattle.redundancy.specs.declared.delivery.Delivery.{Delivery}
use Rattle.redundancy.specs.declared.delivery.Delivery.TheVariants.{Delivered, Duplicate}

-- the greatest skew of the copies of a frame, in ns, and the number and moment of the last frame delivered, or none
pub record Receiver : Type 0 where
  pub skew_max : ℕ
  pub last : Option (ℕ × ℕ)

-- whether number s is new after number l: it is not 0, and 1 to 127 steps lead to it
abbrev pub is_new : ℕ → ℕ → Bool
is_new l s = not (s == 0) && (nat_le 1 (steps_between l s) && nat_le (steps_between l s) 127)

-- whether a frame is delivered: none was; or the last one was more than the greatest skew before; or its number is new
abbrev pub is_delivered : Receiver → Received → Bool
is_delivered r frame = elim r.last [
  | None ↦ true
  | Some last ↦ nat_lt r.skew_max (frame.at - last.1) || is_new last.0 frame.number
]

-- a frame that is delivered becomes the last one; a duplicate leaves it
abbrev pub redundancy : Plain Receiver Received Delivery (Option (ℕ × ℕ))
redundancy = record {
  after = λ r frame. record r { last = if is_delivered r frame then Some (frame.number, frame.at) else r.last };
  out = λ r frame. if is_delivered r frame then Delivered else Duplicate;
  saves = λ r frame. r.last;
  before = λ now frame last. record now { last = last };
  counter = λ r. 0;
}
