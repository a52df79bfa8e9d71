-- One letter goes on, behind those that did so before.
use Rattle.std.proofs.Common.{◌≡◌, ℕ, ◌+◌, ◌<◌, Bool, true, false, not, cond, Option, List, [], ◌∷◌, ◌++◌, length, map, take, get_or, refl, sym, ap, ◌∙◌, subst, append-nil, add-one, take-suc}
use Rattle.std.proofs.lemmas.List.{map-append}
use Rattle.vlink.specs.declared.message.Message.{Message}
use Rattle.vlink.specs.Letters.{Letter}
use Rattle.group_queues.specs.declared.block.Word.TheVariants.{Taken}
use Rattle.group_queues.specs.Flow.{Flow}
use Rattle.group_hand.specs.Hands.{is_ours}
use Rattle.group_hand.specs.Arriving.{WentOn, words_taken}
use Rattle.group_hand.proofs.WentOn.{went-both}

module _ {S : Type 0} (members : List (Option S)) where
  pub one-went : (l : Letter) (old new : Flow) (b : Bool) → b ≡ is_ours members l.message.receiver →
      (b ≡ false → new ≡ record old { abroad = old.abroad ++ l ∷ []; room = new.room }) →
      (b ≡ true → new ≡ record old { tray = old.tray ++ l ∷ []; words = old.words ++ Taken l.message.receiver ∷ []; room = new.room }) → WentOn members (l ∷ []) old new
  one-went l old new true e abroad home = record {
    tray = ap (λ z. z.tray) (home refl) ∙ ap (λ c. old.tray ++ cond c (l ∷ []) []) e;
    abroad = ap (λ z. z.abroad) (home refl) ∙ (sym (append-nil old.abroad) ∙ ap (λ c. old.abroad ++ cond (not c) (l ∷ []) []) e);
    words = ap (λ z. z.words) (home refl) ∙ ap (λ c. old.words ++ words_taken (cond c (l ∷ []) [])) e;
    keeps = ap (λ z. z.keeps) (home refl);
  }
  one-went l old new false e abroad home = record {
    tray = ap (λ z. z.tray) (abroad refl) ∙ (sym (append-nil old.tray) ∙ ap (λ c. old.tray ++ cond c (l ∷ []) []) e);
    abroad = ap (λ z. z.abroad) (abroad refl) ∙ ap (λ c. old.abroad ++ cond (not c) (l ∷ []) []) e;
    words = ap (λ z. z.words) (abroad refl) ∙ (sym (append-nil old.words) ∙ ap (λ c. old.words ++ words_taken (cond c (l ∷ []) [])) e);
    keeps = ap (λ z. z.keeps) (abroad refl);
  }

  -- the k-th of these messages, as a letter of either sign
  pub next-went : (f : Message → Letter) (ms : List Message) (k : ℕ) (m : Message) (old mid new : Flow) → k < length ms → m ≡ get_or ms k m →
      WentOn members (map f (take k ms)) old mid → WentOn members (f m ∷ []) mid new → WentOn members (map f (take (k + 1) ms)) old new
  next-went f ms k m old mid new within is a b =
      subst (λ zs. WentOn members zs old new)
      (sym (ap (λ n. map f (take n ms)) (add-one k) ∙ (ap (map f) (take-suc ms k m within) ∙
      (map-append f (take k ms) (get_or ms k m ∷ []) ∙ ap (λ z. map f (take k ms) ++ f z ∷ []) (sym is)))))
      (went-both members (map f (take k ms)) (f m ∷ []) old mid new a b)
