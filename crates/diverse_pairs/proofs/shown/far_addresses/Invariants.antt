use Rattle.std.proofs.Common.{◌≡◌, ◌++◌, ◌∷◌, List, drop}
use Rattle.dom_base.specs.declared.link.Link.{Link}
use Rattle.path_search.specs.Segments.{AreAt}
use Rattle.path_search.proofs.OpenForm.{fars}
use Rattle.diverse_pairs.proofs.shown.far_addresses.Given as goal

abbrev pub invariant-loop-place : goal.invariant-loop-place
invariant-loop-place l = (ls : List Link) → AreAt l.topology.links l.places ls → l.shown.items ++ fars (drop l.place-index ls) ≡ l.fn.source ∷ fars ls
