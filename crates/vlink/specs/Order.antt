-- The order of messages: by time, receiver, sender, number and body; bodies by variant and then by their fields.
use Rattle.std.specs.Prelude.{ℕ}
use Rattle.std.specs.Ordering.{nat_cmp, ordering_then, is_lt}
use Rattle.std.specs.declared.cmp.Ordering.{Ordering}
use Rattle.std.specs.declared.cmp.Ordering.TheVariants.{Less, Equal, Greater}
use Rattle.virtual_time.specs.Law.{Order}
use Rattle.vlink.specs.declared.frame.Frame.{Frame}
use Rattle.vlink.specs.declared.comparing.FrameKey.{FrameKey}
use Rattle.vlink.specs.declared.frame.Net.{Net}
use Rattle.vlink.specs.declared.frame.Net.TheVariants.{A, B}
use Rattle.vlink.specs.declared.message.Message.{Message}
use Rattle.vlink.specs.declared.message.Body.{Body}
use Rattle.vlink.specs.declared.message.Body.TheVariants.{Offer, Release, PortFree, Arrive, Enqueue, Carry}

-- network A comes before network B
abbrev pub net_cmp : Net → Net → Ordering
net_cmp A A = Equal
net_cmp A B = Less
net_cmp B A = Greater
net_cmp B B = Equal

-- what is compared of a frame, in the order in which it is
abbrev pub key_of : Frame → FrameKey
key_of f =
    record {
      vl = f.vl;
      number = f.number;
      size = f.size;
      offered = f.offered;
      released = f.released;
      net = f.net;
    }

-- frames by virtual link, number, size, moment offered, moment released and network
abbrev pub frame_cmp : Frame → Frame → Ordering
frame_cmp f g =
    ordering_then (nat_cmp f.vl.0 g.vl.0) (
    ordering_then (nat_cmp f.number g.number) (
    ordering_then (nat_cmp f.size g.size) (
    ordering_then (nat_cmp f.offered g.offered) (
    ordering_then (nat_cmp f.released g.released) (
    net_cmp f.net g.net)))))

-- the ranks of the variants of bodies
abbrev pub body_rank : Body → ℕ
body_rank (Offer vl size sub) = 0
body_rank (Release vl) = 1
body_rank (PortFree port) = 2
body_rank (Arrive port frame) = 3
body_rank (Enqueue port frame) = 4
body_rank (Carry frame) = 5

-- two bodies of one variant by their fields, as they are written; of two variants nothing is told
abbrev pub fields_cmp : Body → Body → Ordering
fields_cmp (Offer vl size sub) (Offer vl' size' sub') = ordering_then (nat_cmp vl.0 vl'.0) (ordering_then (nat_cmp size size') (nat_cmp sub sub'))
fields_cmp (Release vl) (Release vl') = nat_cmp vl.0 vl'.0
fields_cmp (PortFree port) (PortFree port') = nat_cmp port port'
fields_cmp (Arrive port frame) (Arrive port' frame') = ordering_then (nat_cmp port port') (frame_cmp frame frame')
fields_cmp (Enqueue port frame) (Enqueue port' frame') = ordering_then (nat_cmp port port') (frame_cmp frame frame')
fields_cmp (Carry frame) (Carry frame') = frame_cmp frame frame'
fields_cmp _ _ = Equal

abbrev pub body_cmp : Body → Body → Ordering
body_cmp b c = ordering_then (nat_cmp (body_rank b) (body_rank c)) (fields_cmp b c)

-- the order of messages
unfoldable pub message_cmp : Message → Message → Ordering
message_cmp m n =
    ordering_then (nat_cmp m.time n.time) (
    ordering_then (nat_cmp m.receiver n.receiver) (
    ordering_then (nat_cmp m.sender n.sender) (
    ordering_then (nat_cmp m.number n.number) (
    body_cmp m.body n.body))))

-- messages with their fields, in this order
abbrev pub message_order : Order Message
message_order =
    record {
      time = λ m. m.time;
      receiver = λ m. m.receiver;
      sender = λ m. m.sender;
      number = λ m. m.number;
      less = λ a b. is_lt (message_cmp a b);
    }
