-- What stays of the virtual links that go through a switch: all but the levels of their accounts.
use Rattle.std.proofs.Common.{◌≡◌, ℕ, ◌==◌, inl, inr, Bool, true, false, cond, nat_lt, Some, slice_set, refl, sym, ap, ◌∙◌, subst}
use Rattle.std.proofs.lemmas.Bool.{cases_eq}
use Rattle.std.proofs.lemmas.Option.{same_Some}
use Rattle.vlink.specs.declared.frame.Frame.{Frame}
use Rattle.vlink.specs.declared.frame.VlId.{VlId}
use Rattle.vlink.specs.declared.message.Body.{Body}
use Rattle.policer.specs.Account.{Policing, account}
use Rattle.nodes.specs.declared.transit.Transit.{Transit}
use Rattle.nodes.specs.rules.Finding.{Found, find}
use Rattle.nodes.specs.rules.Switch.{SwitchState, entered, switch, transit_at, transit_number}
use Rattle.nodes.specs.laws.SwitchSending.{switch-cases}
use Rattle.port_turns.proofs.Found.{found-other, found-set}

-- a frame that comes changes at most the account
pub entered-as : (t i : ℕ) (frame : Frame) (x : Transit) → (a : Policing) × (entered t i frame x ≡ record x { account = a })
entered-as t i frame x = go (x.input == i) (nat_lt x.smax frame.size)
  where
    go : (b c : Bool) → (a : Policing) × (cond b (cond c x (record x { account = account.after x.account (record { at = t; size = frame.size }) })) x ≡ record x { account = a })
    go true false = (account.after x.account (record { at = t; size = frame.size }), refl)
    go _ _ = (x.account, refl)

pub entered-number : (t i : ℕ) (frame : Frame) (x : Transit) → transit_number (entered t i frame x) ≡ transit_number x
entered-number t i frame x = ap transit_number (entered-as t i frame x).1

-- K speaks of a virtual link that goes through the switch, and not of its account: it stays
module _ (K : ℕ → Transit → Type 0) (stays : (v : ℕ) (x : Transit) (a : Policing) → K v x → K v (record x { account = a })) where
  abbrev pub AllTransits : SwitchState → Type 0
  AllTransits s = (vl : VlId) (found : Found Transit) → transit_at s vl ≡ Some found → K vl.0 found.entry

  pub transits-stay : (n t : ℕ) (b : Body) (s : SwitchState) → AllTransits s → AllTransits (switch n t b s).state
  transits-stay n t b s h = switch-cases (λ o. AllTransits o.state) n t s (record { quiet = λ z k. h; at_ports = λ i e. h; takes = λ i frame found is. takes i frame found is }) b
    where
      takes : (i : ℕ) (frame : Frame) (found : Found Transit) → transit_at s frame.vl ≡ Some found → AllTransits (record s { transits = slice_set s.transits found.place (entered t i frame found.entry) })
      takes i frame found is vl new here = elim (cases_eq vl.0 frame.vl.0) [
        | inl e ↦ (
            let form = entered-as t i frame found.entry in
            let now = subst (λ z. find transit_number (slice_set s.transits found.place (entered t i frame found.entry)) z ≡ Some (record { place = found.place; entry = entered t i frame found.entry })) (sym e)
            (found-set transit_number s.transits frame.vl.0 found is (entered t i frame found.entry) (entered-number t i frame found.entry)) in
            let entry : entered t i frame found.entry ≡ new.entry = ap (λ (z : Found Transit). z.entry) (same_Some (record { place = found.place; entry = entered t i frame found.entry }) new (sym now ∙ here)) in
            subst (K vl.0) (sym form.1 ∙ entry) (stays vl.0 found.entry form.0 (subst (λ z. K z found.entry) (sym e) (h frame.vl found is)))
            )
        | inr d ↦ h vl new (sym (found-other transit_number s.transits frame.vl.0 found is (entered t i frame found.entry) (entered-number t i frame found.entry) vl.0 d) ∙ here)
      ]
