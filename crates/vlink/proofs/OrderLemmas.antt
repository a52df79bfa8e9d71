-- Messages that compare equal are the same message, and an earlier one comes first.
use Rattle.std.proofs.Common.{◌≡◌, ℕ, ◌<◌, ◌==◌, Bool, true, false, cond, refl, ap, nat_lt, eqb-true, lt-ltb, nat_cmp, Ordering, Less, Equal, Greater}
use Rattle.std.specs.Ordering.{ordering_then}
use Rattle.vlink.specs.declared.frame.VlId.{VlId}
use Rattle.vlink.specs.declared.frame.Frame.{Frame}
use Rattle.vlink.specs.declared.frame.Net.{Net}
use Rattle.vlink.specs.declared.frame.Net.TheVariants.{A, B}
use Rattle.vlink.specs.declared.message.Message.{Message}
use Rattle.vlink.specs.declared.message.Body.{Body}
use Rattle.vlink.specs.declared.message.Body.TheVariants.{Offer, Release, PortFree, Arrive, Enqueue, Carry}
use Rattle.vlink.specs.Order.{net_cmp, frame_cmp, body_cmp, message_cmp}

both : (o p : Ordering) → ordering_then o p ≡ Equal → (o ≡ Equal) × (p ≡ Equal)
both Less p h = cc
both Equal p h = (refl, h)
both Greater p h = cc

nat_cmp-equal : (x y : ℕ) → nat_cmp x y ≡ Equal → x ≡ y
nat_cmp-equal x y h = go (nat_lt x y) (x == y) refl h
  where
    go : (b c : Bool) → (x == y) ≡ c → cond b Less (cond c Equal Greater) ≡ Equal → x ≡ y
    go true c e k = cc
    go false true e k = eqb-true x y e
    go false false e k = cc

net_cmp-equal : (a b : Net) → net_cmp a b ≡ Equal → a ≡ b
net_cmp-equal A A h = refl
net_cmp-equal A B h = cc
net_cmp-equal B A h = cc
net_cmp-equal B B h = refl

frame_cmp-equal : (f g : Frame) → frame_cmp f g ≡ Equal → f ≡ g
frame_cmp-equal f g h =
    let a = both (nat_cmp f.vl.0 g.vl.0) _ h in
    let b = both (nat_cmp f.number g.number) _ a.1 in
    let c = both (nat_cmp f.size g.size) _ b.1 in
    let d = both (nat_cmp f.offered g.offered) _ c.1 in
    let e = both (nat_cmp f.released g.released) _ d.1 in
    λ i. record {
      vl = record { 0 = nat_cmp-equal f.vl.0 g.vl.0 a.0 i };
      number = nat_cmp-equal f.number g.number b.0 i;
      size = nat_cmp-equal f.size g.size c.0 i;
      offered = nat_cmp-equal f.offered g.offered d.0 i;
      released = nat_cmp-equal f.released g.released e.0 i;
      net = net_cmp-equal f.net g.net e.1 i;
    }

vl-equal : (v w : VlId) → nat_cmp v.0 w.0 ≡ Equal → v ≡ w
vl-equal v w h = λ i. record { 0 = nat_cmp-equal v.0 w.0 h i }

body_cmp-equal : (b c : Body) → body_cmp b c ≡ Equal → b ≡ c
body_cmp-equal (Offer v s q) (Offer w t p) h =
    let a = both (nat_cmp v.0 w.0) _ h in
    let b = both (nat_cmp s t) _ a.1 in
    λ i. Offer (vl-equal v w a.0 i) (nat_cmp-equal s t b.0 i) (nat_cmp-equal q p b.1 i)
body_cmp-equal (Release v) (Release w) h = ap Release (vl-equal v w h)
body_cmp-equal (PortFree p) (PortFree q) h = ap PortFree (nat_cmp-equal p q h)
body_cmp-equal (Arrive p f) (Arrive q g) h = let a = both (nat_cmp p q) _ h in λ i. Arrive (nat_cmp-equal p q a.0 i) (frame_cmp-equal f g a.1 i)
body_cmp-equal (Enqueue p f) (Enqueue q g) h = let a = both (nat_cmp p q) _ h in λ i. Enqueue (nat_cmp-equal p q a.0 i) (frame_cmp-equal f g a.1 i)
body_cmp-equal (Carry f) (Carry g) h = ap Carry (frame_cmp-equal f g h)
body_cmp-equal _ _ h = cc

pub message_cmp-equal : (m n : Message) → message_cmp m n ≡ Equal → m ≡ n
unfolding message_cmp
message_cmp-equal m n h =
    let a = both (nat_cmp m.time n.time) _ h in
    let b = both (nat_cmp m.receiver n.receiver) _ a.1 in
    let c = both (nat_cmp m.sender n.sender) _ b.1 in
    let d = both (nat_cmp m.number n.number) _ c.1 in
    λ i. record {
      time = nat_cmp-equal m.time n.time a.0 i;
      receiver = nat_cmp-equal m.receiver n.receiver b.0 i;
      sender = nat_cmp-equal m.sender n.sender c.0 i;
      number = nat_cmp-equal m.number n.number d.0 i;
      body = body_cmp-equal m.body n.body d.1 i;
    }

pub message_cmp-earlier : (m n : Message) → m.time < n.time → message_cmp m n ≡ Less
unfolding message_cmp
message_cmp-earlier m n h = rw (lt-ltb m.time n.time h) refl
