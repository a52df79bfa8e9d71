use Rattle.std.proofs.Common.{◌≡◌, refl}
use Rattle.vlink.specs.declared.message.Body.{Body}
use Rattle.vlink.specs.declared.message.Body.TheVariants.{Offer, Release, PortFree, Arrive, Enqueue, Carry}
use Rattle.vlink.specs.contracts.message.BodyOrd.TheImpl.{ghosts}
use Rattle.vlink.specs.declared.frame.Frame.{Frame}
use Rattle.vlink.specs.contracts.comparing.FrameOrd.TheImpl as frames
use Rattle.vlink.specs.Order.{frame_cmp, body_cmp}
use Rattle.vlink.proofs.order.body_order_law.Goals as goal

body-is : ((f g : Frame) → (frames.ghosts).cmp f g ≡ frame_cmp f g) → (b c : Body) → ghosts.cmp b c ≡ body_cmp b c
body-is h (Offer v s q) (Offer w t p) = refl
body-is h (Release v) (Release w) = refl
body-is h (PortFree p) (PortFree q) = refl
body-is h (Arrive p f) (Arrive q g) = rw (h f g) refl
body-is h (Enqueue p f) (Enqueue q g) = rw (h f g) refl
body-is h (Carry f) (Carry g) = rw (h f g) refl
body-is h _ _ = refl

pub returns : goal.returns
returns c = body-is c.frame_order_law.ensures
