-- All letters that wait for a group are taken, each the first of its receiver's mail.
use Rattle.std.proofs.Common.{◌≡◌, ℕ, ◌<◌, ◌≤◌, inl, inr, min, Bool, true, false, List, [], ◌∷◌, ◌++◌, All, refl, sym, ap, ◌∙◌, subst, arith}
use Rattle.std.proofs.lemmas.Bool.{both_ways, cases_lt}
use Rattle.std.proofs.lemmas.List.Elements.{All-head, All-tail}
use Rattle.vlink.specs.declared.message.Message.{Message}
use Rattle.vlink.specs.declared.note.Note.{Note}
use Rattle.vlink.specs.Letters.{Letter}
use Rattle.virtual_time.specs.Law.{Order, Simulation, World, put, delivered, fetched, lowest, received_by, run, times_of}
use Rattle.virtual_time.proofs.Journal.{takes}
use Rattle.virtual_time.proofs.Kept.{put_elim, put_elim₂}
use Rattle.group_hand.specs.Hands.{with_letter}
use Rattle.group_hand.proofs.Going.{received-first, received-skip}
use Rattle.group_exchange.specs.Views.{with_letters}
use Rattle.group_exchange.specs.Keeps.{AreAsIn, IsLeastFloor}
use Rattle.group_exchange.specs.Effects.{takes_of}

-- one floor of a group falls
one-floor : (ours : ℕ → Bool) (end d t q : ℕ) (floors : ℕ → ℕ) → ours q ≡ true → IsLeastFloor ours end floors d → IsLeastFloor ours end (put q (min t (floors q)) floors) (min t d)
one-floor ours end d t q floors mine k = record {
  bound = put_elim (λ z n. ours z ≡ true → min t d ≤ n) q (min t (floors q)) floors (λ h. let a = k.bound q mine in omega arith) (λ z n h. let a = k.bound z h in omega arith);
  reached = elim (cases_lt d t) [
    | inl high ↦ elim k.reached [
      | inl e ↦ inl (omega arith)
      | inr w ↦ inr (w.0, w.1, put_elim (λ z n. floors z ≡ d → n ≡ min t d) q (min t (floors q)) floors (λ e. omega arith) (λ z n e. omega arith) w.0 w.2)
    ]
    | inr low ↦ inr (q, mine, put_elim (λ z n. z ≡ q → n ≡ min t d) q (min t (floors q)) floors (λ e. let a = k.bound q mine in omega arith) (λ z n e. absurd (n e)) q refl)
  ];
}

lowest-first : (t d : ℕ) (xs : List ℕ) → lowest (min t d) xs ≡ min t (lowest d xs)
lowest-first t d [] = refl
lowest-first t d (x ∷ xs) = let a = lowest-first t d xs in omega arith

module _ {S : Type 0} (o : Order Message) where
  -- one more
  pub with-more : (ls : List Letter) (l : Letter) (v : World Message S) → with_letters o (ls ++ l ∷ []) v ≡ with_letter o l (with_letters o ls v)
  with-more [] l v = refl
  with-more (m ∷ ls) l v = with-more ls l (with_letter o m v)

  -- letters on their way and GVT play no part
  pub with-mail : (ls : List Letter) (v : World Message S) → (with_letters o ls v).mail ≡ v.mail
  with-mail [] v = refl
  with-mail (l ∷ ls) v = with-mail ls (with_letter o l v)

  module _ (ours : ℕ → Bool) where
    one-alike : (l : Letter) (v w : World Message S) → AreAsIn ours v w → AreAsIn ours (with_letter o l v) (with_letter o l w)
    one-alike l v w a = record {
      parts = put_elim₂ (λ q x y. ours q ≡ true → x ≡ y) (o.receiver l.message) (delivered l (v.parts (o.receiver l.message))) (delivered l (w.parts (o.receiver l.message))) v.parts w.parts
          (λ h. ap (delivered l) (a.parts (o.receiver l.message) h)) (λ q n. a.parts q);
      floors = put_elim₂ (λ q x y. ours q ≡ true → x ≡ y) (o.receiver l.message) (min (o.time l.message) (v.floors (o.receiver l.message))) (min (o.time l.message) (w.floors (o.receiver l.message))) v.floors w.floors
          (λ h. ap (min (o.time l.message)) (a.floors (o.receiver l.message) h)) (λ q n. a.floors q);
    }

    -- two worlds that have the same of a group
    pub with-alike : (ls : List Letter) (v w : World Message S) → AreAsIn ours v w → AreAsIn ours (with_letters o ls v) (with_letters o ls w)
    with-alike [] v w a = a
    with-alike (l ∷ ls) v w a = with-alike ls (with_letter o l v) (with_letter o l w) (one-alike l v w a)

    -- letters for these processes change no other
    pub with-others : (ls : List Letter) (v : World Message S) → All (λ l. ours (o.receiver l.message) ≡ true) ls → (q : ℕ) → ours q ≡ false →
        ((with_letters o ls v).parts q ≡ v.parts q) × ((with_letters o ls v).floors q ≡ v.floors q)
    with-others [] v h q n = (refl, refl)
    with-others (l ∷ ls) v h q n =
        let mine = All-head (λ l. ours (o.receiver l.message) ≡ true) l ls h in
        let rest = with-others ls (with_letter o l v) (All-tail (λ l. ours (o.receiver l.message) ≡ true) l ls h) q n in
        let one = put_elim₂ (λ z x y. ours z ≡ false → (x ≡ v.parts z) × (y ≡ v.floors z)) (o.receiver l.message) (delivered l (v.parts (o.receiver l.message)))
        (min (o.time l.message) (v.floors (o.receiver l.message))) v.parts v.floors (λ k. absurd (both_ways (ours (o.receiver l.message)) k mine)) (λ z m k. (refl, refl)) q n in
        (rest.0 ∙ one.0, rest.1 ∙ one.1)

    -- the least floor of the group falls to their times
    pub with-floor : (end d : ℕ) (ls : List Letter) (v : World Message S) → All (λ l. ours (o.receiver l.message) ≡ true) ls → IsLeastFloor ours end v.floors d →
        IsLeastFloor ours end (with_letters o ls v).floors (lowest d (times_of o ls))
    with-floor end d [] v h k = k
    with-floor end d (l ∷ ls) v h k =
        subst (λ n. IsLeastFloor ours end (with_letters o ls (with_letter o l v)).floors n) (lowest-first (o.time l.message) d (times_of o ls))
        (with-floor end (min (o.time l.message) d) ls (with_letter o l v) (All-tail (λ l. ours (o.receiver l.message) ≡ true) l ls h)
        (one-floor ours end d (o.time l.message) (o.receiver l.message) v.floors (All-head (λ l. ours (o.receiver l.message) ≡ true) l ls h) k))

module _ {S K : Type 0} (f : Simulation Message S K Note) (ours : ℕ → Bool) where
  -- the letters were taken, none is left for these processes, and all others and their letters stay
  pub record TakesAll (ls : List Letter) (w w' : World Message S) : Type 0 where
    pub parts : (q : ℕ) → w'.parts q ≡ (with_letters f.rules.order ls w).parts q
    pub floors : (q : ℕ) → w'.floors q ≡ (with_letters f.rules.order ls w).floors q
    pub mail : (q : ℕ) → ours q ≡ true → w'.mail q ≡ []
    pub elsewhere : (q : ℕ) → ours q ≡ false → w'.mail q ≡ w.mail q
    pub gvt : w'.gvt ≡ w.gvt

  takes-more : (l : Letter) (ls : List Letter) (w : World Message S) → ours (f.rules.order.receiver l.message) ≡ true → f.rules.order.receiver l.message < f.processes →
      ((q : ℕ) → ours q ≡ true → w.mail q ≡ received_by f.rules.order q (l ∷ ls)) →
      ((v : World Message S) → ((q : ℕ) → ours q ≡ true → v.mail q ≡ received_by f.rules.order q ls) → TakesAll ls v (run f (takes_of f.rules.order ls) v)) →
      TakesAll (l ∷ ls) w (run f (takes_of f.rules.order (l ∷ ls)) w)
  unfolding run
  takes-more l ls w mine inside mail again =
      let o = f.rules.order in
      let p = o.receiver l.message in
      let rest = received_by o p ls in
      let next = fetched f p (l ∷ []) rest w in
      let more = again next (put_elim (λ q m. ours q ≡ true → m ≡ received_by o q ls) p rest w.mail (λ h. refl) (λ q n h. mail q h ∙ received-skip o q l ls (λ e. n (sym e)))) in
      let same = with-alike o (λ q. true) ls next (with_letter o l w) (record { parts = λ q h. refl; floors = λ q h. refl }) in
      subst (λ z. TakesAll (l ∷ ls) w (run f (takes_of o ls) z)) (sym (takes f p inside (l ∷ []) rest w (mail p mine ∙ received-first o p l ls refl))) (record {
        parts = λ q. more.parts q ∙ same.parts q refl;
        floors = λ q. more.floors q ∙ same.floors q refl;
        mail = more.mail;
        elsewhere = λ q n. more.elsewhere q n ∙ put_elim (λ z m. ours z ≡ false → m ≡ w.mail z) p rest w.mail (λ k. absurd (both_ways (ours p) k mine)) (λ z m k. refl) q n;
        gvt = more.gvt;
      })

  pub takes-all : (ls : List Letter) (w : World Message S) → All (λ l. ours (f.rules.order.receiver l.message) ≡ true) ls → All (λ l. f.rules.order.receiver l.message < f.processes) ls →
      ((q : ℕ) → ours q ≡ true → w.mail q ≡ received_by f.rules.order q ls) → TakesAll ls w (run f (takes_of f.rules.order ls) w)
  unfolding run
  takes-all [] w home within mail = record { parts = λ q. refl; floors = λ q. refl; mail = mail; elsewhere = λ q n. refl; gvt = refl }
  takes-all (l ∷ ls) w home within mail =
      takes-more l ls w (All-head (λ l. ours (f.rules.order.receiver l.message) ≡ true) l ls home) (All-head (λ l. f.rules.order.receiver l.message < f.processes) l ls within) mail
      (λ v. takes-all ls v (All-tail (λ l. ours (f.rules.order.receiver l.message) ≡ true) l ls home) (All-tail (λ l. f.rules.order.receiver l.message < f.processes) l ls within))
