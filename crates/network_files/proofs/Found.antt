-- What a file has that was read.
use Rattle.std.proofs.Common.{◌≡◌, ℕ, List, Some, None, Ok, refl, subst}
use Rattle.std.specs.declared.option.Option.{Option}
use Rattle.dom_edge.specs.Stores.{Files, Holds, IfFile, ReadsFile}

-- the file was read, and its bytes are such
pub in_file : (files : Option Files) (name bytes : List ℕ) (limit : ℕ) (P : List ℕ → Type 0) → ReadsFile files name limit (Ok bytes) → P bytes → IfFile files name P
in_file None name bytes limit P reads such = tt
in_file (Some fs) name bytes limit P reads such = by (fs name) refl reads
  where
    by : (held : Option (List ℕ)) → fs name ≡ held → Holds held limit (Ok bytes) → IfFile (Some fs) name P
    by (Some found) is holds = (found, is, subst P holds.0 such)
    by None is holds = absurd holds
