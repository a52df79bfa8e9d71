-- For proofs alone: replies that ask for nothing, and two replies in one.
use Rattle.std.proofs.Common.{◌≡◌, [], All, refl, sym, subst}
use Rattle.std.proofs.lemmas.List.Elements.{All-nil, All-append}
use Rattle.vlink.specs.declared.frame.Frame.{Frame}
use Rattle.vlink.specs.declared.note.Cause.{Cause}
use Rattle.reverse.specs.Sending.{Wish, Reply, silent, joined, loss}

-- nothing is sent
abbrev pub IsQuiet : Reply → Type 0
IsQuiet r = r.wishes ≡ []

pub silent-quiet : IsQuiet silent
silent-quiet = refl

pub loss-quiet : (cause : Cause) (frame : Frame) → IsQuiet (loss cause frame)
loss-quiet cause frame = refl

pub quiet-all : (P : Wish → Type 0) (r : Reply) → IsQuiet r → All P r.wishes
quiet-all P r h = subst (All P) (sym h) (All-nil P)

pub joined-all : (P : Wish → Type 0) (first second : Reply) → All P first.wishes → All P second.wishes → All P (joined first second).wishes
joined-all P first second g h = All-append P first.wishes second.wishes g h
