-- What a host states of all that the program uses outside itself.
use Rattle.std.specs.Prelude.{◌≡◌, ◌≢◌, ℕ, Bool, true, List, Option, codes}

-- hosts S, files F that are being written, standard outputs O and error outputs E, as plain functions and relations
pub record Outside (S F O E : Type 0) : Type 1 where
  -- what a read of the file with this path may give: its bytes, or none where it cannot be read
  pub gives : S → List ℕ → Option (List ℕ) → Type 0
  -- what a make of a file with this path may come to: it is made, or it is not
  pub makes : S → List ℕ → Bool → Type 0
  -- what may be told of two paths: that they name one file, or that they do not
  pub tells : S → List ℕ → List ℕ → Bool → Type 0
  -- standard output and error output
  pub output : S → O
  pub errors : S → E
  -- the host once standard output is this, and once error output is
  pub with_output : S → O → S
  pub with_errors : S → E → S
  -- the host once a new, empty file with this path was made, and once the file with it was given back, as it is
  pub made : S → List ℕ → S
  pub closed : S → List ℕ → F → S
  -- the host once a file with this path could not be read, or not be made
  pub missed : S → List ℕ → S
  -- what a file, standard output and error output took so far, where they can tell, and how many writes to them failed
  pub wrote : F → Option (List ℕ)
  pub file_failures : F → ℕ
  pub showed : O → Option (List ℕ)
  pub output_failures : O → ℕ
  pub said : E → Option (List ℕ)
  pub errors_failures : E → ℕ

-- the path of a file that keeps nothing of what is written into it
abbrev pub nowhere : List ℕ
nowhere = codes "/dev/null"

-- the law of a host, where these are what its sinks took, and how many of their writes failed
pub record IsHost {S F O E : Type 0} (outside : Outside S F O E) (file_taken : F → Option (List ℕ)) (file_failures : F → ℕ)
    (output_taken : O → Option (List ℕ)) (output_failures : O → ℕ) (errors_taken : E → Option (List ℕ)) (errors_failures : E → ℕ) : Type 0 where
  -- equal paths name one file, but for the one that keeps nothing
  pub equal_paths : (host : S) (path : List ℕ) (is_one : Bool) → path ≢ nowhere → outside.tells host path path is_one → is_one ≡ true
  -- what is written on standard output stands there, and not on error output
  pub output_stays : (host : S) (out : O) → outside.output (outside.with_output host out) ≡ out
  pub errors_beside : (host : S) (out : O) → outside.errors (outside.with_output host out) ≡ outside.errors host
  -- what is written on error output stands there, and not on standard output
  pub errors_stay : (host : S) (out : E) → outside.errors (outside.with_errors host out) ≡ out
  pub output_beside : (host : S) (out : E) → outside.output (outside.with_errors host out) ≡ outside.output host
  -- a file that is made, given back, or can be neither read nor made is on neither
  pub output_at_made : (host : S) (path : List ℕ) → outside.output (outside.made host path) ≡ outside.output host
  pub errors_at_made : (host : S) (path : List ℕ) → outside.errors (outside.made host path) ≡ outside.errors host
  pub output_at_closed : (host : S) (path : List ℕ) (file : F) → outside.output (outside.closed host path file) ≡ outside.output host
  pub errors_at_closed : (host : S) (path : List ℕ) (file : F) → outside.errors (outside.closed host path file) ≡ outside.errors host
  pub output_at_missed : (host : S) (path : List ℕ) → outside.output (outside.missed host path) ≡ outside.output host
  pub errors_at_missed : (host : S) (path : List ℕ) → outside.errors (outside.missed host path) ≡ outside.errors host
  -- a stream that is put back changes nothing
  pub output_same : (host : S) → outside.with_output host (outside.output host) ≡ host
  pub errors_same : (host : S) → outside.with_errors host (outside.errors host) ≡ host
  -- what is said on error output, and a file that is made, are beside each other
  pub errors_before_made : (host : S) (path : List ℕ) (out : E) → outside.with_errors (outside.made host path) out ≡ outside.made (outside.with_errors host out) path
  pub makes_beside : (host : S) (path : List ℕ) (out : E) (is_made : Bool) → outside.makes host path is_made → outside.makes (outside.with_errors host out) path is_made
  -- of what its sinks took, and of their failures, the host tells as they do
  pub file_took : (file : F) → outside.wrote file ≡ file_taken file
  pub file_failed : (file : F) → outside.file_failures file ≡ file_failures file
  pub output_took : (out : O) → outside.showed out ≡ output_taken out
  pub output_failed : (out : O) → outside.output_failures out ≡ output_failures out
  pub errors_took : (out : E) → outside.said out ≡ errors_taken out
  pub errors_failed : (out : E) → outside.errors_failures out ≡ errors_failures out
