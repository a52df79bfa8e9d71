-- What words ask for that are not an order.
use Rattle.std.specs.Prelude.{◌≡◌, ◌⊎◌, [], ◌∷◌}
use Rattle.clap.specs.Words.{Kinds}
use Rattle.clap.specs.declared.error.kind.ErrorKind.{ErrorKind}
use Rattle.clap.specs.declared.error.kind.ErrorKind.TheVariants.{DisplayHelp, DisplayVersion}

-- no mistake: the words ask for help, or for the version
abbrev pub AsksFor : ErrorKind → Type 0
AsksFor kind = (kind ≡ DisplayHelp) ⊎ (kind ≡ DisplayVersion)

-- among these kinds is one that is no mistake
abbrev pub AsksForText : Kinds → Type 0
AsksForText [] = ⊥
AsksForText (kind ∷ kinds) = AsksFor kind ⊎ AsksForText kinds
