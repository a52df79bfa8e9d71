-- Words that join the block: how many of them are of messages that were handled, and how many of events that were committed.
use Rattle.std.proofs.Common.{◌≡◌, ℕ, ◌+◌, false, List, [], ◌∷◌, ◌++◌, length, refl, sym, ap, ◌∙◌, append_assoc, append-nil, arith}
use Rattle.virtual_time.specs.Law.{one_if}
use Rattle.vlink.specs.Letters.{Letter}
use Rattle.group_queues.specs.declared.block.Word.{Word}
use Rattle.group_queues.specs.declared.block.Word.TheVariants.{Ran}
use Rattle.group_hand.specs.Arriving.{words_taken}
use Rattle.group_queues.specs.Block.{AddsCommits, AddsLetters, AddsRun, commits_in, is_commit, is_run, runs_in}
use Rattle.group_queues.specs.DoneEvents.{DoneEvent}
use Rattle.group_queues.specs.Sealing.{words_of}

pub runs-append : (xs ys : List Word) → runs_in (xs ++ ys) ≡ runs_in xs + runs_in ys
runs-append [] ys = omega arith
runs-append (x ∷ xs) ys = let a = runs-append xs ys in omega arith

pub commits-append : (xs ys : List Word) → commits_in (xs ++ ys) ≡ commits_in xs + commits_in ys
commits-append [] ys = omega arith
commits-append (x ∷ xs) ys = let a = commits-append xs ys in omega arith

pub runs-none : (xs ys : List Word) → runs_in xs ≡ 0 → runs_in ys ≡ 0 → runs_in (xs ++ ys) ≡ 0
runs-none xs ys a b = omega (arith, runs-append xs ys, a, b)

pub commits-none : (xs ys : List Word) → commits_in xs ≡ 0 → commits_in ys ≡ 0 → commits_in (xs ++ ys) ≡ 0
commits-none xs ys a b = omega (arith, commits-append xs ys, a, b)

-- letters that were taken
taken-no-run : (ls : List Letter) → runs_in (words_taken ls) ≡ 0
taken-no-run [] = refl
taken-no-run (l ∷ ls) = omega (arith, taken-no-run ls)

taken-no-commit : (ls : List Letter) → commits_in (words_taken ls) ≡ 0
taken-no-commit [] = refl
taken-no-commit (l ∷ ls) = omega (arith, taken-no-commit ls)

pub adds-none : (old new : List Word) → new ≡ old → AddsLetters old new
adds-none old new e = record { added = []; words = e ∙ sym (append-nil old); no_run = refl; no_commit = refl }

pub adds-both : (old mid new : List Word) → AddsLetters old mid → AddsLetters mid new → AddsLetters old new
adds-both old mid new a b = record {
  added = a.added ++ b.added;
  words = b.words ∙ (ap (λ z. z ++ b.added) a.words ∙ append_assoc old a.added b.added);
  no_run = runs-none a.added b.added a.no_run b.no_run;
  no_commit = commits-none a.added b.added a.no_commit b.no_commit;
}

-- one word of a letter joined, and then letters were taken
pub adds-arrival : (old mid new : List Word) (d : Word) (ls : List Letter) → is_run d ≡ false → is_commit d ≡ false → mid ≡ old ++ d ∷ [] → new ≡ mid ++ words_taken ls → AddsLetters old new
adds-arrival old mid new d ls r c e n = record {
  added = d ∷ words_taken ls;
  words = n ∙ (ap (λ z. z ++ words_taken ls) e ∙ append_assoc old (d ∷ []) (words_taken ls));
  no_run = omega (arith, ap one_if r, taken-no-run ls);
  no_commit = omega (arith, ap one_if c, taken-no-commit ls);
}

-- the word of a run joined, and then words of letters
pub adds-run : (p : ℕ) (old mid new added : List Word) → mid ≡ old ++ Ran p ∷ [] → new ≡ mid ++ added → runs_in added ≡ 0 → commits_in added ≡ 0 → AddsRun p old new
adds-run p old mid new added e n r c = record {
  added = added;
  words = n ∙ (ap (λ z. z ++ added) e ∙ append_assoc old (Ran p ∷ []) added);
  no_run = r;
  no_commit = c;
}

pub adds-run-taken : (p : ℕ) (old mid new : List Word) (ls : List Letter) → mid ≡ old ++ Ran p ∷ [] → new ≡ mid ++ words_taken ls → AddsRun p old new
adds-run-taken p old mid new ls e n = adds-run p old mid new (words_taken ls) e n (taken-no-run ls) (taken-no-commit ls)

-- the same where the words were others by name
pub adds-run-again : (p : ℕ) (old mid new : List Word) → mid ≡ old → AddsRun p mid new → AddsRun p old new
adds-run-again p old mid new e a = record {
  added = a.added;
  words = a.words ∙ ap (λ z. z ++ Ran p ∷ a.added) e;
  no_run = a.no_run;
  no_commit = a.no_commit;
}

-- events were committed
commits-all : {K : Type 0} (ds : List (DoneEvent K)) → commits_in (words_of ds) ≡ length (words_of ds)
commits-all [] = refl
commits-all (d ∷ ds) = omega (arith, commits-all ds)

pub adds-commits : {K : Type 0} (old mid new : List Word) (ds : List (DoneEvent K)) → mid ≡ old → new ≡ mid ++ words_of ds → AddsCommits old new
adds-commits old mid new ds e n = record { added = words_of ds; words = n ∙ ap (λ z. z ++ words_of ds) e; commits = commits-all ds }

pub adds-no-commit : (old new : List Word) → new ≡ old → AddsCommits old new
adds-no-commit old new e = record { added = []; words = e ∙ sym (append-nil old); commits = refl }
