-- A timer of the one-thread run: a message that a process sends to itself, for a moment that is known from what the process has handled.
-- A port's PortFree is one.
use Rattle.std.specs.Prelude.{◌≡◌, ℕ, ◌<◌, ◌≤◌, Bool, true, false, List, [], ◌∷◌, filter, Option, Some, None, ⊤}
use Rattle.virtual_time.specs.Law.{Rules, Simulation, Laws, IsReached, events}

-- for which moment the timer is set, if it is set: it follows from a note G, which is brought forward beside the state of the process
pub record Alarm (M S G : Type 0) : Type 0 where
  pub opening : G
  pub after : S → G → M → G
  pub moment : G → Option ℕ

-- the note after these messages, from a state and a note on
abbrev pub noted : {M S K N G : Type 0} → Rules M S K N → Alarm M S G → S → G → List M → G
noted r a s g [] = g
noted r a s g (m ∷ ms) = noted r a (r.after s m) (a.after s g m) ms

module _ {M S K N G : Type 0} (f : Simulation M S K N) (p : ℕ) (mine : M → Bool) (a : Alarm M S G) where
  -- not later than this moment, if there is one
  abbrev pub IsBy : ℕ → Option ℕ → Type 0
  IsBy t None = ⊤
  IsBy t (Some u) = t ≤ u

  -- the timer comes at just the moment for which it is set, and each other message not later than that
  pub record IsOnTime (m : M) (g : G) : Type 0 where
    pub at_moment : mine m ≡ true → a.moment g ≡ Some (f.rules.order.time m)
    pub not_later : IsBy (f.rules.order.time m) (a.moment g)

  -- each of these messages comes so, from a state and a note on
  abbrev pub AreOnTime : S → G → List M → Type 0
  AreOnTime s g [] = ⊤
  AreOnTime s g (m ∷ ms) = IsOnTime m g × AreOnTime (f.rules.after s m) (a.after s g m) ms

  -- the timer is not set and not among these messages; or it is there just once, for its moment; or that is after the end of the run
  pub data IsSet (ms : List M) (moment : Option ℕ) : Type 0 where
    Off : moment ≡ None → filter mine ms ≡ [] → IsSet ms moment
    On : (m : M) → moment ≡ Some (f.rules.order.time m) → filter mine ms ≡ m ∷ [] → IsSet ms moment
    PastEnd : (u : ℕ) → moment ≡ Some u → f.until < u → filter mine ms ≡ [] → IsSet ms moment

  -- process p keeps the timer, where `fits` says which notes fit a state
  pub record IsTimer (fits : S → G → Bool) : Type 0 where
    -- it is not set at first, and the notes fit the states
    pub opens : fits (f.opening p) a.opening ≡ true
    pub off : a.moment a.opening ≡ None
    pub keeps : (s : S) (g : G) (m : M) → IsReached f p s → fits s g ≡ true → f.rules.order.receiver m ≡ p → IsOnTime m g → fits (f.rules.after s m) (a.after s g m) ≡ true
    -- while it is set, another message leaves it set and sends none; where it is not, another message may set it, and so may the timer itself
    pub goes_on : (s : S) (g : G) (m : M) (u : ℕ) → IsReached f p s → fits s g ≡ true → f.rules.order.receiver m ≡ p → mine m ≡ false → a.moment g ≡ Some u →
        (a.moment (a.after s g m) ≡ Some u) × (filter mine (f.rules.sends s m) ≡ [])
    pub begins : (s : S) (g : G) (m : M) → IsReached f p s → fits s g ≡ true → f.rules.order.receiver m ≡ p → mine m ≡ false → a.moment g ≡ None →
        IsSet (f.rules.sends s m) (a.moment (a.after s g m))
    pub again : (s : S) (g : G) (m : M) → IsReached f p s → fits s g ≡ true → f.rules.order.receiver m ≡ p → mine m ≡ true → IsOnTime m g →
        IsSet (f.rules.sends s m) (a.moment (a.after s g m))
    -- it goes to the process itself, no other one sends it, and it is not offered
    pub to_itself : (m : M) → mine m ≡ true → f.rules.order.receiver m ≡ p
    pub by_none : (q : ℕ) → q < f.processes → (q ≡ p → ⊥) → (s : S) → IsReached f q s → (m : M) → filter mine (f.rules.sends s m) ≡ []
    pub not_offered : filter mine f.offers ≡ []

-- each timer comes at just its moment, and all that its process handles before comes no later
abbrev pub AreTimersOnTime : (M S K N G : Type 0) → Type 0
AreTimersOnTime M S K N G =
    (f : Simulation M S K N) → Laws f → (p : ℕ) → p < f.processes → (mine : M → Bool) (a : Alarm M S G) (fits : S → G → Bool) → IsTimer f p mine a fits →
    (n : ℕ) → AreOnTime f p mine a (f.opening p) a.opening (events f n p)
