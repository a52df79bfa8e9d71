-- Where the words have no fault, the program's parse gives one of its commands, with what that command requires, and numbers within their limits.
use Rattle.std.proofs.Common.{◌≡◌, ◌⊎◌, inl, inr, ℕ, Bool, true, false, cond, List, [], Option, Some, None, codes, refl, sym, subst, ap, get_or, arith, ◌&&◌, ◌||◌, not, find, option_map, is_some, bytes_eq}
use Rattle.std.specs.Prelude.{⊤}
use Rattle.std.specs.Option.{option_map_or}
use Rattle.std.proofs.lemmas.Slice.Eq.{bytes_eq-Decides}
use Rattle.clap.specs.Faults.{check_fault, entered_fault, fault_of, level_fault, walk_fault, settle_fault}
use Rattle.clap.specs.Kinds.{check_kinds}
use Rattle.clap.specs.Simple.{App, Shape, built, entered, label_of, names_of, rows_at, subcommand_of}
use Rattle.clap.specs.Takes.{is_given}
use Rattle.clap.specs.Walk.{Row, Rule, Text, answers_to, finished, nothing_held, rows_after, walk, walk_from}
use Rattle.vlink.specs.declared.time.TheConstants.{LATEST_NS}
use Rattle.command_line.specs.Given.{IsGiven}
use Rattle.command_line.specs.Program.{program}
use Rattle.command_line.proofs.Filling.{IsFilled, flag_default, flag_keeps, found_passes, has_first, help_keeps, is_set, is_within, set_keeps, version_keeps}
use Rattle.command_line.proofs.Walking.{Each, IsNoHelp, Keeps, KeepsByDefault, Stopped, at_level, each_found, neither, no_default, with_words}

-- the least and the greatest value of the argument with this id, if it is a number
abbrev limits_of : Text → Option (ℕ × ℕ)
limits_of id =
    cond (bytes_eq id (codes "workers")) (Some (1, 64))
    (cond (bytes_eq id (codes "groups")) (Some (1, 64))
    (cond (bytes_eq id (codes "turn")) (Some (1, 256)) (cond (bytes_eq id (codes "window")) (Some (1, LATEST_NS)) None)))

-- the checks of a command that requires one argument, or two, have no fault
requires_one : (g x : Bool) → check_kinds false false ((true && not g) || x) ≡ [] → g ≡ true
requires_one true x none = refl
requires_one false x none = cc

requires_two : (g h x : Bool) → check_kinds false false ((true && not g) || ((true && not h) || x)) ≡ [] → (g ≡ true) × (h ≡ true)
requires_two true true x none = (refl, refl)
requires_two true false x none = cc
requires_two false h x none = cc

abbrev IsCommand : Text → Type 0
IsCommand name = (name ≡ codes "check") ⊎ ((name ≡ codes "seq") ⊎ ((name ≡ codes "run") ⊎ ((name ≡ codes "replay") ⊎ (name ≡ codes "bounds"))))

gives : (s : Shape) → Each (Keeps s.args_override_self (IsFilled limits_of)) s.rules → Each (KeepsByDefault (IsFilled limits_of)) s.rules → IsCommand s.name
    → ((rows : List Row) → check_fault s rows false ≡ [] → is_given (codes "NET") rows ≡ true)
    → ((rows : List Row) → check_fault s rows false ≡ [] → s.name ≡ codes "replay" → is_given (codes "STEPS") rows ≡ true)
    → (words : List Text) → level_fault s [] nothing_held words false [] ≡ [] → IsGiven s.name (rows_after s.rules [] words)
gives s each defaults known net steps words none =
    let here = at_level s (IsFilled limits_of) each defaults words none in
    let rows = rows_after s.rules [] words in
    record {
      known = known;
      net = has_first limits_of (codes "NET") rows here.0 (net rows here.1);
      steps = λ is. has_first limits_of (codes "STEPS") rows here.0 (steps rows here.1 is);
      workers = is_within limits_of (codes "workers") 1 64 rows refl here.0;
      groups = is_within limits_of (codes "groups") 1 64 rows refl here.0;
      turn = is_within limits_of (codes "turn") 1 256 rows refl here.0;
      window = is_within limits_of (codes "window") 1 LATEST_NS rows refl here.0;
    }

abbrev ready : App
ready = built program

-- what the words after the command's name give
abbrev Gives : Text → Shape → Type 0
Gives word s = IsNoHelp ready.top word → answers_to word (label_of s) ≡ true → (words : List Text) → level_fault s [] nothing_held words false [] ≡ []
    → IsGiven s.name (rows_after s.rules [] words)

no_help : (word : Text) → IsNoHelp ready.top word → (bytes_eq (codes "help") word || false) ≡ true → ⊥
no_help word none names = go (bytes_eq (codes "help") word) refl names
  where
    go : (b : Bool) → bytes_eq (codes "help") word ≡ b → (b || false) ≡ true → ⊥
    go true is names =
        let same : codes "help" ≡ word = (bytes_eq-Decides (codes "help") word).0 is in
        let bad : true ≡ false = subst (λ w. IsNoHelp ready.top w) (sym same) none in
        cc
    go false is names = cc

plain : (a : Rule) → a.defaults ≡ [] → KeepsByDefault (IsFilled limits_of) a
plain = no_default (IsFilled limits_of)

not_replay : codes "bounds" ≡ codes "replay" → ⊥
not_replay e = let first : 98 ≡ 114 = ap (λ (text : Text). get_or text 0 0) e in omega (arith, first)

each_gives : (word : Text) → Each (Gives word) ready.subs
each_gives word = (
  λ no_help_called answers. gives _ (is_set limits_of _ _ refl refl refl, (help_keeps _ _ _ refl, tt))
      (plain _ refl, (plain _ refl, tt)) (inl refl)
      (λ rows none. requires_one (is_given (codes "NET") rows) _ none)
      (λ rows none is. cc),
  (
    λ no_help_called answers. gives _ (is_set limits_of _ _ refl refl refl, (is_set limits_of _ _ refl refl refl, (flag_keeps limits_of _ _ _ refl refl refl refl refl, (help_keeps _ _ _ refl, tt))))
        (plain _ refl, (plain _ refl, (flag_default limits_of _ _ refl refl, (plain _ refl, tt)))) (inr (inl refl))
        (λ rows none. requires_one (is_given (codes "NET") rows) _ none)
        (λ rows none is. cc),
    (
      λ no_help_called answers. gives _ (is_set limits_of _ _ refl refl refl, (set_keeps limits_of _ _ refl refl (λ t passes. passes), (set_keeps limits_of _ _ refl refl (λ t passes. passes), (set_keeps limits_of _ _ refl refl (λ t passes. passes), (set_keeps limits_of _ _ refl refl (λ t passes. passes), (is_set limits_of _ _ refl refl refl, (is_set limits_of _ _ refl refl refl, (flag_keeps limits_of _ _ _ refl refl refl refl refl, (help_keeps _ _ _ refl, tt)))))))))
          (plain _ refl, (plain _ refl, (plain _ refl, (plain _ refl, (plain _ refl, (plain _ refl, (plain _ refl, (flag_default limits_of _ _ refl refl, (plain _ refl, tt))))))))) (inr (inr (inl refl)))
          (λ rows none. requires_one (is_given (codes "NET") rows) _ none)
          (λ rows none is. cc),
      (
        λ no_help_called answers. gives _ (is_set limits_of _ _ refl refl refl, (is_set limits_of _ _ refl refl refl, (help_keeps _ _ _ refl, tt)))
            (plain _ refl, (plain _ refl, (plain _ refl, tt))) (inr (inr (inr (inl refl))))
            (λ rows none. (requires_two (is_given (codes "NET") rows) (is_given (codes "STEPS") rows) _ none).0)
            (λ rows none is. (requires_two (is_given (codes "NET") rows) (is_given (codes "STEPS") rows) _ none).1),
        (
          λ no_help_called answers. gives _ (is_set limits_of _ _ refl refl refl, (flag_keeps limits_of _ _ _ refl refl refl refl refl, (help_keeps _ _ _ refl, tt)))
              (plain _ refl, (flag_default limits_of _ _ refl refl, (plain _ refl, tt))) (inr (inr (inr (inr refl))))
              (λ rows none. requires_one (is_given (codes "NET") rows) _ none)
              (λ rows none is. absurd (not_replay is)),
          (λ no_help_called answers. absurd (no_help word no_help_called answers), tt),
        ),
      ),
    ),
  ),
)

abbrev Entered : Option (Text × List Row) → Type 0
Entered found = (e : Text × List Row) × (found ≡ Some e) × IsGiven e.0 e.1

enters : (rows : List Row) (stop : Option (Text × List Text)) → Stopped ready.top stop → entered_fault ready stop ≡ [] → check_fault ready.top rows (is_some (entered ready stop)) ≡ []
    → Entered (entered ready stop)
enters rows None known none needs = cc
enters rows (Some p) known none needs =
    go (find (λ s. answers_to p.0 (label_of s)) ready.subs) (λ s. each_found (Gives p.0) (λ s. answers_to p.0 (label_of s)) ready.subs s (each_gives p.0))
    (found_passes (λ s. answers_to p.0 (label_of s)) ready.subs) none needs
  where
    go : (f : Option Shape) → ((s : Shape) → f ≡ Some s → Gives p.0 s) → ((s : Shape) → f ≡ Some s → answers_to p.0 (label_of s) ≡ true)
        → option_map_or (λ s. level_fault s [] nothing_held p.1 false []) f [] ≡ [] → check_fault ready.top rows (is_some (option_map (λ s. rows_at s p.1) f)) ≡ []
        → Entered (option_map (λ s. rows_at s p.1) f)
    go None gives answers none needs = cc
    go (Some s) gives answers none needs = (rows_at s p.1, refl, gives s refl known (answers s refl) p.1 none)

-- a parse without fault gives a command
pub gives_command : (words : List Text) → fault_of program words ≡ [] → Entered (subcommand_of program words)
gives_command words none =
    let end = walk ready.top.rules (names_of ready) nothing_held words in
    let first = neither (walk_fault ready.top (names_of ready) (walk_from nothing_held) words) _ none in
    let second = neither (entered_fault ready end.stopped) _ first.1 in
    let third = neither (settle_fault ready.top.rules ready.top.args_override_self end.held) _ second.1 in
    let fourth = neither _ (check_fault ready.top (finished ready.top.rules end.held) (is_some (entered ready end.stopped))) third.1 in
    let walked_well = with_words ready.top (names_of ready) (λ _. ⊤) (help_keeps _ _ _ refl, (version_keeps _ _ _ refl, tt)) words (walk_from nothing_held) first.0 tt tt in
    enters (finished ready.top.rules end.held) end.stopped walked_well.1 second.0 fourth.1
