use Rattle.std.proofs.Common.{◌≡◌, ◌++◌, drop}
use Rattle.std.specs.Prelude.{All}
use Rattle.network_links.specs.Adjacencies.{are_adjacencies}
use Rattle.network_links.specs.Sides.{adjacencies_in}
use Rattle.network_links.proofs.FreshLemmas.{IsNewLink}
use Rattle.network_links.proofs.links.Links.new.Given as goal

abbrev pub invariant-loop-lower : goal.invariant-loop-lower
invariant-loop-lower l = (adjacencies_in l.links.items ++ are_adjacencies (drop l.lower-index l.adjacencies) ≡ are_adjacencies l.adjacencies) × All IsNewLink l.links.items
