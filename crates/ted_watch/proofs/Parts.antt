-- Parts of an answer one behind the other.
use Rattle.std.proofs.Common.{◌≡◌, ℕ, List, [], ◌∷◌, ◌++◌, append_assoc, codes, decimal, Option}
use Rattle.dom_base.specs.declared.names.As.{As}
use Rattle.ted_watch.specs.declared.shown.Shown.{Shown}
use Rattle.ted_watch.specs.Answers.{counts_text, said_text, shown_text}

pub counts_parts : (v : List ℕ) (s : Shown) →
    (((((v ++ codes " generation ") ++ decimal s.generation) ++ codes " nodes ") ++ decimal s.nodes) ++ codes " links ") ++ decimal s.links ≡ v ++ counts_text s
counts_parts v s = simp append_assoc

pub shown_parts : (v : List ℕ) (at : As) (o : Option Shown) → ((v ++ decimal at.0) ++ said_text o) ++ 10 ∷ [] ≡ v ++ shown_text at o
shown_parts v at o = simp append_assoc
