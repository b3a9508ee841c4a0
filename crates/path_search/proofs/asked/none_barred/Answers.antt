use Rattle.std.proofs.Common.{◌≡◌, List, Bool, [], rules, subst, sym}
use Rattle.path_search.specs.Asked.{AreBarred}
use Rattle.path_search.proofs.Barring.{none_barred}
use Rattle.path_search.proofs.asked.none_barred.Goals as goal

pub returns : goal.returns
returns g c =
    let rows = g.G.Links.rows c.args._links.now in
    let is : c.new.result.items ≡ [] = search rules in
    subst (λ (l : List Bool). AreBarred rows c.args._query.now l) (sym is) (none_barred rows c.args._query.now c.requires)
