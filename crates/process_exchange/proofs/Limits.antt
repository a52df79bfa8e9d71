-- Whether the journal has a place for more steps.
use Rattle.std.proofs.Common.{◌≡◌, ℕ, ◌+◌, ◌-◌, ◌<◌, ◌≤◌, min, List, length, sym, ap, ◌∙◌, subst, arith}
use Rattle.vlink.specs.declared.message.Message.{Message}
use Rattle.vlink.specs.declared.note.Note.{Note}
use Rattle.virtual_time.specs.Law.{Rules, Entry, steps, reach}
use Rattle.reverse.specs.Setting.{Setting, simulation_of}
use Rattle.antimessages.specs.Letters.{Store}
use Rattle.antimessages.specs.Mailing.{letters_for}
use Rattle.gvt.specs.Horizon.{Floors}
use Rattle.process_exchange.specs.declared.mark.Standing.{Standing}
use Rattle.process_exchange.specs.Keeps.{IsRecorded}

-- there is a place for so many more
pub fits : (limit count more : ℕ) → count ≤ limit → more ≤ limit - count → count + more ≤ limit
fits limit count more low is = omega arith

-- and for a block with the post behind it
pub fits-all : (limit count more : ℕ) → count ≤ limit → more < limit - count → count + (more + 1) ≤ limit
fits-all limit count more low is = omega arith

-- and for none
pub none-fits : (n left : ℕ) → n ≡ 0 → n ≤ left
none-fits n left none = omega arith

past-limit : (limit told count more : ℕ) → limit - count < more → told ≡ count → limit < told + more
past-limit limit told count more a e = omega arith

within-limit : (limit told count more : ℕ) → count ≤ limit → more ≤ limit - count → told ≡ count → limit < told + more → ⊥
within-limit limit told count more low a e over = omega arith

module _ {S K : Type 0} {r : Rules Message S K Note} {number end : S → ℕ} {is_placed : S → Type 0} {x : Setting S} {es : List (Entry Message)} {mail : List Store} {floors : Floors}
    {gvt count : ℕ} {standings : List Standing} (k : IsRecorded r number end is_placed x es mail floors gvt count standings) where
  -- so many steps would pass the limit
  pub no-place : (limit more : ℕ) → limit - count < more → limit < length (steps es) + more
  no-place limit more a = past-limit limit (length (steps es)) count more a (sym k.count_is)

  -- so many do not
  pub a-place : (limit more : ℕ) → count ≤ limit → more ≤ limit - count → limit < length (steps es) + more → ⊥
  a-place limit more low a over = within-limit limit (length (steps es)) count more low a (sym k.count_is) over

  -- nor does a block with the post behind it, or it does
  pub too-many : (limit moves n : ℕ) → moves ≡ n → limit - count ≤ moves → limit < length (steps es) + n + 1
  too-many limit moves n is a = let b = k.count_is in omega (arith, is, a, b)

  pub more-than-fit : (limit moves n : ℕ) → moves ≡ n → moves < limit - count → limit < length (steps es) + n + 1 → ⊥
  more-than-fit limit moves n is a over = let b = k.count_is in omega (arith, is, a, b, over)

  module _ (p : ℕ) (i : p < x.processes) (most n : ℕ) (is : n ≡ min most (length (letters_for p mail))) where
    -- the letters that are to be taken are those of the world
    pub to-take : n ≡ min most (length ((reach (simulation_of r x) es).mail p))
    to-take = is ∙ ap (λ ls. min most (length ls)) (k.mail_is p i)

    pub no-place-for-all : (limit : ℕ) → limit - count < n → limit < length (steps es) + min most (length ((reach (simulation_of r x) es).mail p))
    no-place-for-all limit a = subst (λ m. limit < length (steps es) + m) to-take (no-place limit n a)

    pub a-place-for-all : (limit : ℕ) → count ≤ limit → n ≤ limit - count → limit < length (steps es) + min most (length ((reach (simulation_of r x) es).mail p)) → ⊥
    a-place-for-all limit low a over = a-place limit n low a (subst (λ m. limit < length (steps es) + m) (sym to-take) over)
