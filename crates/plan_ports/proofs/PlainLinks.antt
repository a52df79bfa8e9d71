-- A virtual link that is offered one frame of one size in each period has no stream but its own.
use Rattle.std.proofs.Common.{◌≡◌, ℕ, ◌+◌, ◌≤◌, ◌==◌, ◌&&◌, ◌||◌, not, Bool, true, false, cond, List, [], ◌∷◌, Option, Some, None, inl, inr, refl, ap, ◌∙◌, is_none, nat_lt, unwrap_or, eq-eqb, eqb-true}
use Rattle.std.specs.List.{list_any}
use Rattle.std.proofs.lemmas.Bool.{false≢true}
use Rattle.row_types.specs.declared.rows.Stream.{Stream}
use Rattle.row_types.specs.declared.rows.Timing.{Timing}
use Rattle.row_types.specs.declared.rows.Timing.TheVariants.{Periodic, Sporadic}
use Rattle.network.specs.declared.plan.VlStream.{VlStream}
use Rattle.network.specs.Words.{Plan, VlPlan}
use Rattle.traffic.specs.declared.stream.OfferedStream.{OfferedStream}
use Rattle.traffic.specs.Offers.{own_of, size_of}
use Rattle.traffic.specs.Plain.{is_periodic, is_plain, is_plain_stream}
use Rattle.network_faults.proofs.MemberLemmas.{Has}
use Rattle.plan_ports.proofs.Offered.{IsStreamOf}

both : (a b : Bool) → (a && b) ≡ true → (a ≡ true) × (b ≡ true)
both true b h = (refl, h)
both false b h = absurd (false≢true h)

not-both : (b : Bool) → not b ≡ true → b ≡ true → ⊥
not-both true h e = false≢true h
not-both false h e = false≢true e

any-has : {X : Type 0} (test : X → Bool) (xs : List X) (x : X) → Has xs x → test x ≡ true → list_any test xs ≡ true
any-has test [] x there passes = absurd there
any-has test (y ∷ ys) x (inl same) passes = ap (λ b. b || list_any test ys) (ap test same ∙ passes)
any-has test (y ∷ ys) x (inr there) passes = go (test y) (any-has test ys x there passes)
  where
    go : (b : Bool) → list_any test ys ≡ true → (b || list_any test ys) ≡ true
    go true later = refl
    go false later = later

-- what its own stream is
pub record IsPlainStream (stream : Stream) : Type 0 where
  pub frames : stream.frames ≡ 1
  pub last_size : stream.last_size ≡ None
  pub timing : stream.timing ≡ Periodic

pub plain-stream : (plan : Plan) (vl : VlPlan) → is_plain plan vl.link ≡ true → IsPlainStream vl.link.own
plain-stream plan vl plain =
    let own = both (is_plain_stream vl.link.own) _ plain in
    let first = both (vl.link.own.frames == 1) _ own.0 in
    let second = both (is_none vl.link.own.last_size) _ first.1 in
    record { frames = eqb-true vl.link.own.frames 1 first.0; last_size = none vl.link.own.last_size second.0; timing = periodic vl.link.own.timing second.1 }
  where
    none : {X : Type 0} (o : Option X) → is_none o ≡ true → o ≡ None
    none None h = refl
    none (Some x) h = absurd (false≢true h)

    periodic : (t : Timing) → is_periodic t ≡ true → t ≡ Periodic
    periodic Periodic h = refl
    periodic Sporadic h = absurd (false≢true h)

-- each of its streams is that one
pub plain-own : (plan : Plan) (s : OfferedStream) (of : IsStreamOf plan s) → is_plain plan of.vl.link ≡ true → s ≡ own_of of.vl.link s.source
plain-own plan s of plain = elim of.kind [
  | inl own ↦ own
  | inr row ↦ absurd (not-both _ (both (is_plain_stream of.vl.link.own) _ plain).1
      (any-has (λ (r : VlStream). r.vl.0 == of.vl.link.id.0) plan.streams row.row row.is_row (eq-eqb row.row.vl.0 of.vl.link.id.0 row.id)))
]

-- frames have from 64 to 1518 bytes
abbrev pub IsFrameSize : ℕ → Type 0
IsFrameSize bytes = (64 ≤ bytes) × (bytes ≤ 1518)

abbrev pub IsSmall : Stream → Type 0
IsSmall stream = IsFrameSize stream.size × IsFrameSize (unwrap_or stream.last_size stream.size)

pub small-size : (stream : Stream) (i : ℕ) → IsSmall stream → size_of stream i ≤ 1518
small-size stream i small = go (nat_lt (i + 1) stream.frames)
  where
    go : (b : Bool) → cond b stream.size (unwrap_or stream.last_size stream.size) ≤ 1518
    go true = small.0.1
    go false = small.1.1
