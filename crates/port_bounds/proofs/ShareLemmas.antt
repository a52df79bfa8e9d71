-- The frames of one priority while the port is busy: those before, those that have started since, those that wait, and those to come.
use Rattle.std.proofs.Common.{◌≡◌, ℕ, ◌+◌, ◌-◌, ◌*◌, ◌≤◌, List, [], ◌∷◌, ◌++◌, arith, ap, sym, ◌∙◌, subst, append_assoc}
use Rattle.port_bounds.specs.Frames.{PutFrame, IsBetween, IsWithin, cost_of}
use Rattle.port_bounds.proofs.FrameLemmas.{cost-append, between-push, between-front, between-later, moved, gone_on, cut}

-- of all frames of a priority `gone` have started since the moment `began`, `waiting` wait, and `rest` is still to be put
pub record IsShare (all rest : List PutFrame) (began now : ℕ) (gone waiting : List PutFrame) : Type 0 where
  pub earlier : List PutFrame
  pub are_all : all ≡ earlier ++ ((gone ++ waiting) ++ rest)
  pub since : IsBetween began now (gone ++ waiting)

-- all but `rest` have started
pub record IsPast (all rest : List PutFrame) : Type 0 where
  pub earlier : List PutFrame
  pub are_all : all ≡ earlier ++ rest

module _ (all : List PutFrame) where
  pub share-first : (rest : List PutFrame) (x : PutFrame) → IsPast all (x ∷ rest) → IsShare all rest x.at x.at (x ∷ []) []
  share-first rest x st = record { earlier = st.earlier; are_all = st.are_all; since = (omega arith, omega arith) }

  pub share-none : (rest : List PutFrame) (t : ℕ) → IsPast all rest → IsShare all rest t t [] []
  share-none rest t st = record { earlier = st.earlier; are_all = st.are_all; since = omega arith }

  pub share-push : (rest : List PutFrame) (b now : ℕ) (gone waiting : List PutFrame) (x : PutFrame) → now ≤ x.at →
      IsShare all (x ∷ rest) b now gone waiting → IsShare all rest b x.at gone (waiting ++ x ∷ [])
  share-push rest b now gone waiting x a st = record {
    earlier = st.earlier;
    are_all = st.are_all ∙ ap (λ zs. st.earlier ++ zs) (moved gone waiting x rest);
    since = subst (IsBetween b x.at) (append_assoc gone waiting (x ∷ [])) (between-push b now x.at (gone ++ waiting) x st.since a (omega arith));
  }

  pub share-later : (rest : List PutFrame) (b now t : ℕ) (gone waiting : List PutFrame) → now ≤ t → IsShare all rest b now gone waiting → IsShare all rest b t gone waiting
  share-later rest b now t gone waiting a st = record { earlier = st.earlier; are_all = st.are_all; since = between-later b now t (gone ++ waiting) a st.since }

  pub share-next : (rest : List PutFrame) (b now t : ℕ) (gone waiting : List PutFrame) (x : PutFrame) → now ≤ t → IsShare all rest b now gone (x ∷ waiting) → IsShare all rest b t (gone ++ x ∷ []) waiting
  share-next rest b now t gone waiting x a st = record {
    earlier = st.earlier;
    are_all = st.are_all ∙ ap (λ zs. st.earlier ++ zs) (gone_on gone x waiting rest);
    since = subst (IsBetween b t) (sym (append_assoc gone (x ∷ []) waiting)) (between-later b now t (gone ++ (x ∷ waiting)) a st.since);
  }

  pub share-over : (rest : List PutFrame) (b now : ℕ) (gone : List PutFrame) → IsShare all rest b now gone [] → IsPast all rest
  share-over rest b now gone st = record { earlier = st.earlier ++ (gone ++ []); are_all = st.are_all ∙ sym (append_assoc st.earlier (gone ++ []) rest) }

  module _ (scale burst rate : ℕ) (within : IsWithin scale burst rate all) where
    pub share-most : (rest : List PutFrame) (b now : ℕ) (gone waiting : List PutFrame) → IsShare all rest b now gone waiting →
        scale * (cost_of gone + cost_of waiting) ≤ burst + rate * (now - b)
    share-most rest b now gone waiting st =
        let k = within.bounded st.earlier (gone ++ waiting) rest b now st.are_all st.since in
        rw (cost-append gone waiting) at k

    -- those before a frame that waits, and the frame itself
    pub share-head : (rest : List PutFrame) (b now : ℕ) (gone waiting : List PutFrame) (x : PutFrame) → IsShare all rest b now gone (x ∷ waiting) →
        scale * (cost_of gone + x.cost) ≤ burst + rate * (x.at - b)
    share-head rest b now gone waiting x st =
        let k : scale * cost_of (gone ++ x ∷ []) ≤ burst + rate * (x.at - b) = within.bounded st.earlier (gone ++ x ∷ []) (waiting ++ rest) b x.at
        (st.are_all ∙ ap (λ zs. st.earlier ++ zs) (cut gone x waiting rest)) (between-front b now gone x waiting st.since) in
        let c : cost_of (gone ++ x ∷ []) ≡ cost_of gone + x.cost = cost-append gone (x ∷ []) ∙ omega arith in
        rw c at k
