-- What holds of each row that a walk over the words makes, where the walk has no fault: what each use of an argument keeps.
use Rattle.std.proofs.Common.{◌≡◌, ℕ, Bool, true, false, cond, zero, suc, List, [], ◌∷◌, length, drop, Option, Some, None, codes, refl, ap, subst, ◌&&◌, not, find, fold, slice_get, IfSome, is_some, encode_utf8, bytes_eq, chars}
use Rattle.std.specs.Prelude.{⊤}
use Rattle.std.specs.Option.{option_map_or}
use Rattle.clap.specs.Lexer.{long_of, short_of}
use Rattle.clap.specs.Kinds.{Kinds, or_else}
use Rattle.clap.specs.Faults.{bundle_fault, bundle_step_fault, check_fault, flag_word_fault, flags_fault, level_fault, long_fault, option_fault, other_fault, positional_fault, react_fault, settle_fault, short_fault, step_fault, stray_fault, turn_fault, use_fault, walk_fault, word_fault}
use Rattle.clap.specs.Simple.{Shape}
use Rattle.clap.specs.Walk.{Held, Names, Outcome, Row, Rule, Step, Text, Waiting, Walk, after_flag, after_step, arg_by_id, arg_by_index, arg_by_long, arg_by_short, attached_value, bundle, bundle_met, bundle_step, default_rows, done, finished, flag_met, has_row, idle, is_pending, long_met, long_or_other, next, nothing_held, option, option_met, option_word, plain, plain_word, positional, reacted, reading_by, refused, rows_after, settled, settled_rows, short_met, short_or_plain, subcommand, subcommand_met, subcommand_or_other, takes_several, takes_values, to_positional, trailing, used, used_by_id, value, waits, walk, walk_from, walked, with_default, word_met}
use Rattle.clap.specs.declared.error.kind.ErrorKind.TheVariants.{DisplayHelp, InvalidSubcommand, TooManyValues}

-- a fact of each element
abbrev pub Each : {X : Type 0} → (X → Type 0) → List X → Type 0
Each P [] = ⊤
Each P (x ∷ xs) = P x × Each P xs

-- it holds of what is found
pub each_found : {X : Type 0} (P : X → Type 0) (test : X → Bool) (xs : List X) (x : X) → Each P xs → find test xs ≡ Some x → P x
each_found P test [] x h is = cc
each_found P test (y ∷ ys) x h is = go (test y) is (each_found P test ys x h.1)
  where
    go : (b : Bool) → cond b (Some y) (find test ys) ≡ Some x → (find test ys ≡ Some x → P x) → P x
    go true same later = subst P (ap (λ o. option_map_or (λ z. z) o y) same) h.0
    go false same later = later same

-- two steps have no fault where both together have none
pub neither : (a b : Kinds) → or_else a b ≡ [] → (a ≡ []) × (b ≡ [])
neither [] b none = (refl, none)
neither (k ∷ ks) b none = cc

-- a use of the argument that has no fault keeps what holds of each row
pub record Keeps (again : Bool) (Q : Row → Type 0) (a : Rule) : Type 0 where
  pub kept : (values : List Text) (rows : List Row) → use_fault again a values rows ≡ [] → Each Q rows → Each Q (used a values rows)

module _ (c : List Rule) (again : Bool) (Q : Row → Type 0) (each : Each (Keeps again Q) c) where
  use_of : (o : Option Rule) → ((a : Rule) → o ≡ Some a → Keeps again Q a) → (values : List Text) (rows : List Row) → option_map_or (λ a. use_fault again a values rows) o [] ≡ []
      → Each Q rows → Each Q (used_by_id o values rows)
  use_of None keeps values rows none good = good
  use_of (Some a) keeps values rows none good = (keeps a refl).kept values rows none good

  settle : (h : Held) → settle_fault c again h ≡ [] → Each Q h.rows → Each Q (settled c h).rows
  settle h none good = go h.pending none
    where
      go : (p : Option (Text × List Text)) → option_map_or (λ p. option_map_or (λ a. use_fault again a p.1 h.rows) (arg_by_id c p.0) []) p [] ≡ []
          → Each Q (settled_rows c p h.rows)
      go None none = good
      go (Some p) none = use_of (arg_by_id c p.0) (λ a. each_found (Keeps again Q) (λ r. bytes_eq r.id p.0) c a each) p.1 h.rows none good

  react : (a : Rule) → Keeps again Q a → (values : List Text) (h : Held) → react_fault c again a values h ≡ [] → Each Q h.rows → Each Q (reacted c a values h).rows
  react a keeps values h none good =
      let both = neither (settle_fault c again h) (use_fault again a values (settled c h).rows) none in
      keeps.kept values (settled c h).rows both.1 (settle h both.0 good)

  with_option : (a : Rule) → Keeps again Q a → (v : Option Text) (h : Held) → option_fault c again a v h ≡ [] → Each Q h.rows → Each Q (option_met c a v h).0.rows
  with_option a keeps (Some v) h none good = react a keeps (v ∷ []) h none good
  with_option a keeps None h none good = settle h none good

  with_flag : (a : Rule) → Keeps again Q a → (v : Option Text) (h : Held) → cond (is_some v) (TooManyValues ∷ []) (react_fault c again a [] h) ≡ [] → Each Q h.rows
      → Each Q (flag_met c a v h).0.rows
  with_flag a keeps (Some v) h none good = good
  with_flag a keeps None h none good = react a keeps [] h none good

  with_long : (o : Option Rule) → ((a : Rule) → o ≡ Some a → Keeps again Q a) → (v : Option Text) (h : Held) → long_fault c again o v h ≡ [] → Each Q h.rows
      → Each Q (long_met c o v h).0.rows
  with_long None keeps v h none good = good
  with_long (Some a) keeps v h none good = go (takes_values a) none
    where
      go : (b : Bool) → cond b (option_fault c again a v h) (cond (is_some v) (TooManyValues ∷ []) (react_fault c again a [] h)) ≡ []
          → Each Q (cond b (option_met c a v h) (flag_met c a v h)).0.rows
      go true none = with_option a (keeps a refl) v h none good
      go false none = with_flag a (keeps a refl) v h none good

  with_short : (o : Option Rule) → ((a : Rule) → o ≡ Some a → Keeps again Q a) → (rest : Text) (h : Held) (then : Held → Held × Outcome) (fault : Held → Kinds)
      → ((later : Held) → fault later ≡ [] → Each Q later.rows → Each Q (then later).0.rows) → short_fault c again o rest h fault ≡ [] → Each Q h.rows
      → Each Q (short_met c o rest h then).0.rows
  with_short None keeps rest h then fault on none good = good
  with_short (Some a) keeps rest h then fault on none good = go (takes_values a) none
    where
      go : (b : Bool) → cond b (option_fault c again a (attached_value rest) h) (or_else (react_fault c again a [] h) (fault (reacted c a [] h))) ≡ []
          → Each Q (cond b (option_met c a (attached_value rest) h) (then (reacted c a [] h))).0.rows
      go true none = with_option a (keeps a refl) (attached_value rest) h none good
      go false none =
          let both = neither (react_fault c again a [] h) (fault (reacted c a [] h)) none in
          on (reacted c a [] h) both.1 (react a (keeps a refl) [] h both.0 good)

  with_character : (x : Option ℕ) (flags : Text) (skip : ℕ) (so_far : Outcome) (h : Held) (then : Text → ℕ → Outcome → Held → Held × Outcome) (fault : Text → ℕ → Held → Kinds)
      → ((t : Text) (n : ℕ) (o : Outcome) (later : Held) → fault t n later ≡ [] → Each Q later.rows → Each Q (then t n o later).0.rows)
      → bundle_step_fault c again x flags skip h fault ≡ [] → Each Q h.rows → Each Q (bundle_step c x flags skip so_far h then).0.rows
  with_character None flags skip so_far h then fault on none good = good
  with_character (Some x) flags zero so_far h then fault on none good =
      let rest = drop (length (encode_utf8 x)) flags in
      with_short (arg_by_short c x) (λ a. each_found (Keeps again Q) _ c a each) rest h (then rest 0 done) (fault rest 0) (on rest 0 done) none good
  with_character (Some x) flags (suc skip) so_far h then fault on none good = on (drop (length (encode_utf8 x)) flags) skip so_far h none good

  with_bundle : (k : ℕ) (flags : Text) (skip : ℕ) (so_far : Outcome) (h : Held) → flags_fault c again k flags skip h ≡ [] → Each Q h.rows
      → Each Q (bundle_met c k flags skip so_far h).0.rows
  unfolding flags_fault bundle_met
  with_bundle zero flags skip so_far h none good = good
  with_bundle (suc k) flags skip so_far h none good =
      with_character (slice_get (chars flags) 0) flags skip so_far h (bundle_met c k) (flags_fault c again k) (with_bundle k) none good

  with_plain : (waiting : Waiting) (word : Text) (h : Held) → Each Q h.rows → Each Q (plain_word c waiting word h).0.rows
  with_plain idle word h good = good
  with_plain positional word h good = good
  with_plain (option id) word h good = go (arg_by_id c id)
    where
      go : (o : Option Rule) → Each Q (option_word o id word h).0.rows
      go None = good
      go (Some a) = good

  behind_flag : (waiting : Waiting) (word : Text) (h : Held) (o : Outcome) → Each Q h.rows → Each Q (after_flag c waiting word h o).0.rows
  behind_flag waiting word h done good = good
  behind_flag waiting word h (waits id) good = good
  behind_flag waiting word h plain good = with_plain waiting word h good
  behind_flag waiting word h refused good = with_plain waiting word h good

  with_shorts : (f : Option Text) (waiting : Waiting) (word : Text) (h : Held) → option_map_or (λ flags. bundle_fault c again flags h) f [] ≡ [] → Each Q h.rows
      → Each Q (short_or_plain c waiting word f h).0.rows
  with_shorts None waiting word h none good = with_plain waiting word h good
  with_shorts (Some flags) waiting word h none good =
      behind_flag waiting word (bundle c flags h).0 (bundle c flags h).1 (with_bundle (length flags) flags h.skip plain (record h { skip = 0 }) none good)

  with_flag_word : (l : Option (Text × Option Text)) (waiting : Waiting) (word : Text) (h : Held) → flag_word_fault c again l word h ≡ [] → Each Q h.rows
      → Each Q (long_or_other c waiting word l h).0.rows
  with_flag_word None waiting word h none good = with_shorts (short_of word) waiting word h none good
  with_flag_word (Some p) waiting word h none good =
      let met = long_met c (arg_by_long c p.0) p.1 h in
      behind_flag waiting word met.0 met.1 (with_long (arg_by_long c p.0) (λ a. each_found (Keeps again Q) _ c a each) p.1 h none good)

-- the word that stops a walk is no call for help where the command has that subcommand
abbrev pub IsNoHelp : Shape → Text → Type 0
IsNoHelp s name = (bytes_eq name (codes "help") && not s.disable_help_subcommand) ≡ false

abbrev StopsWell : Shape → Step → Type 0
StopsWell s (subcommand name) = IsNoHelp s name
StopsWell s step = ⊤

abbrev pub Stopped : Shape → Option (Text × List Text) → Type 0
Stopped s stop = IfSome stop (λ p. IsNoHelp s p.0)

plain_goes_on : (s : Shape) (waiting : Waiting) (word : Text) (h : Held) → StopsWell s (plain_word s.rules waiting word h).1
plain_goes_on s idle word h = tt
plain_goes_on s positional word h = tt
plain_goes_on s (option id) word h = tt

flag_goes_on : (s : Shape) (waiting : Waiting) (word : Text) (h : Held) (o : Outcome) → StopsWell s (after_flag s.rules waiting word h o).1
flag_goes_on s waiting word h done = tt
flag_goes_on s waiting word h (waits id) = tt
flag_goes_on s waiting word h plain = plain_goes_on s waiting word h
flag_goes_on s waiting word h refused = plain_goes_on s waiting word h

shorts_go_on : (s : Shape) (f : Option Text) (waiting : Waiting) (word : Text) (h : Held) → StopsWell s (short_or_plain s.rules waiting word f h).1
shorts_go_on s None waiting word h = plain_goes_on s waiting word h
shorts_go_on s (Some flags) waiting word h = flag_goes_on s waiting word (bundle s.rules flags h).0 (bundle s.rules flags h).1

goes_on : (s : Shape) (l : Option (Text × Option Text)) (waiting : Waiting) (word : Text) (h : Held) → StopsWell s (long_or_other s.rules waiting word l h).1
goes_on s None waiting word h = shorts_go_on s (short_of word) waiting word h
goes_on s (Some p) waiting word h =
    let met = long_met s.rules (arg_by_long s.rules p.0) p.1 h in
    flag_goes_on s waiting word met.0 met.1

module _ (s : Shape) (names : Names) (Q : Row → Type 0) (each : Each (Keeps s.args_override_self Q) s.rules) where
  with_other : (m : Option Text) (waiting : Waiting) (position : ℕ) (word : Text) (h : Held) → other_fault s m word h ≡ [] → Each Q h.rows
      → Each Q (subcommand_or_other s.rules m waiting position word h).0.rows × StopsWell s (subcommand_or_other s.rules m waiting position word h).1
  with_other (Some name) waiting position word h none good = (good, go (bytes_eq name (codes "help") && not s.disable_help_subcommand) none)
    where
      go : (b : Bool) → cond b (DisplayHelp ∷ InvalidSubcommand ∷ []) [] ≡ [] → b ≡ false
      go true none = cc
      go false none = refl
  with_other None waiting position word h none good = go (bytes_eq word (45 ∷ 45 ∷ [])) none
    where
      go : (b : Bool) → cond b [] (flag_word_fault s.rules s.args_override_self (long_of word) word h) ≡ []
          → Each Q (cond b (h, trailing position) (long_or_other s.rules waiting word (long_of word) h)).0.rows
          × StopsWell s (cond b (h, trailing position) (long_or_other s.rules waiting word (long_of word) h)).1
      go true none = (good, tt)
      go false none = (
        with_flag_word s.rules s.args_override_self Q each (long_of word) waiting word h none good,
        goes_on s (long_of word) waiting word h,
      )

  with_word : (is_trailing : Bool) (waiting : Waiting) (position : ℕ) (word : Text) (h : Held) → word_fault s names is_trailing waiting word h ≡ [] → Each Q h.rows
      → Each Q (word_met s.rules names is_trailing waiting position word h).0.rows × StopsWell s (word_met s.rules names is_trailing waiting position word h).1
  with_word true waiting position word h none good = (good, tt)
  with_word false waiting position word h none good = with_other (subcommand_met names waiting word) waiting position word h none good

  with_positional : (o : Option Rule) (word : Text) (w : Walk) (h : Held) → option_map_or (λ a. positional_fault s.rules s.args_override_self a h) o (stray_fault s) ≡ []
      → Stopped s w.stopped → Each Q h.rows → Each Q (to_positional s.rules o word w h).held.rows × Stopped s (to_positional s.rules o word w h).stopped
  with_positional None word w h none known good = (good, known)
  with_positional (Some a) word w h none known good = (go (is_pending a h.pending && takes_several a) none, tt)
    where
      go : (b : Bool) → cond b [] (settle_fault s.rules s.args_override_self h) ≡ [] → Each Q (cond b h (settled s.rules h)).rows
      go true none = good
      go false none = settle s.rules s.args_override_self Q each h none good

  with_step : (step : Step) (word : Text) (w : Walk) (h : Held) → step_fault s w.position h step ≡ [] → Stopped s w.stopped → StopsWell s step → Each Q h.rows
      → Each Q (after_step s.rules word w h step).held.rows × Stopped s (after_step s.rules word w h step).stopped
  with_step (next waiting) word w h none known well good = (good, known)
  with_step (trailing position) word w h none known well good = (good, known)
  with_step (subcommand name) word w h none known well good = (good, well)
  with_step value word w h none known well good = with_positional (arg_by_index s.rules w.position) word w h none known good

  with_walked : (stop : Option (Text × List Text)) (w : Walk) (word : Text) → turn_fault s names (record w { stopped = stop }) word ≡ [] → Each Q w.held.rows → Stopped s stop
      → Each Q (walked s.rules names (record w { stopped = stop }) word).held.rows × Stopped s (walked s.rules names (record w { stopped = stop }) word).stopped
  unfolding walked
  with_walked (Some p) w word none good known = (good, known)
  with_walked None w word none good known =
      let met = word_met s.rules names w.is_trailing w.waiting w.position word w.held in
      let both = neither (word_fault s names w.is_trailing w.waiting word w.held) (step_fault s w.position met.0 met.1) none in
      let here = with_word w.is_trailing w.waiting w.position word w.held both.0 good in
      with_step met.1 word (record w { stopped = None }) met.0 both.1 tt here.1 here.0

  -- the whole walk
  pub with_words : (words : List Text) (w : Walk) → walk_fault s names w words ≡ [] → Each Q w.held.rows → Stopped s w.stopped
      → Each Q (fold (walked s.rules names) w words).held.rows × Stopped s (fold (walked s.rules names) w words).stopped
  unfolding walk_fault
  with_words [] w none good known = (good, known)
  with_words (word ∷ rest) w none good known =
      let both = neither (turn_fault s names w word) (walk_fault s names (walked s.rules names w word) rest) none in
      let here = with_walked w.stopped w word both.0 good known in
      with_words rest (walked s.rules names w word) both.1 here.0 here.1

-- the default of the argument keeps what holds of each row
pub record KeepsByDefault (Q : Row → Type 0) (a : Rule) : Type 0 where
  pub kept : (rows : List Row) → Each Q rows → Each Q (with_default rows a)

-- an argument without one does
pub no_default : (Q : Row → Type 0) (a : Rule) → a.defaults ≡ [] → KeepsByDefault Q a
no_default Q a none = record { kept = λ rows good. go rows good (has_row a.id rows) a.defaults none }
  where
    go : (rows : List Row) → Each Q rows → (b : Bool) (ds : List Text) → ds ≡ [] → Each Q (cond b rows (default_rows a.id (reading_by a) ds rows))
    go rows good true ds none = good
    go rows good false [] none = good
    go rows good false (d ∷ ds) none = cc

with_defaults : (Q : Row → Type 0) (rules : List Rule) (rows : List Row) → Each (KeepsByDefault Q) rules → Each Q rows → Each Q (fold with_default rows rules)
with_defaults Q [] rows keep good = good
with_defaults Q (a ∷ rest) rows keep good = with_defaults Q rest (with_default rows a) keep.1 (keep.0.kept rows good)

-- a command without subcommands: it holds of each row, and the last checks have no fault
pub at_level : (s : Shape) (Q : Row → Type 0) → Each (Keeps s.args_override_self Q) s.rules → Each (KeepsByDefault Q) s.rules → (words : List Text)
    → level_fault s [] nothing_held words false [] ≡ []
    → Each Q (rows_after s.rules [] words) × (check_fault s (rows_after s.rules [] words) false ≡ [])
at_level s Q each defaults words none =
    let end = (walk s.rules [] nothing_held words).held in
    let first = neither (walk_fault s [] (walk_from nothing_held) words) _ none in
    let second = neither (settle_fault s.rules s.args_override_self end) _ first.1 in
    let third = neither _ (check_fault s (finished s.rules end) false) second.1 in
    let walked_well = with_words s [] Q each words (walk_from nothing_held) first.0 tt tt in
    let good = settle s.rules s.args_override_self Q each end second.0 walked_well.0 in
    (with_defaults Q s.rules (settled s.rules end).rows defaults good, third.1)
