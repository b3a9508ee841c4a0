-- A walk begins at an admitted node.
use Rattle.std.proofs.Common.{List, [], ◌∷◌, subst}
use Rattle.dom_base.specs.declared.addr.Addr.{Addr}
use Rattle.dom_base.specs.declared.link.Link.{Link}
use Rattle.dom_base.specs.declared.query.Query.{Query}
use Rattle.dom_base.specs.declared.query.Seed.{Seed}
use Rattle.dom_base.specs.declared.query.Label.{Label}
use Rattle.te_links.specs.Rows.{Rows}
use Rattle.walk_laws.specs.Walks.{AdmitsNode, Walk}
use Rattle.walk_laws.specs.Labels.{Reaches}

pub walk_admits : (g : Rows) (q : Query) (u v : Addr) (ls : List Link) → Walk g q u v ls → AdmitsNode g q u
walk_admits g q u v [] walk = walk.1
walk_admits g q u v (l ∷ ls) walk = subst (AdmitsNode g q) walk.0 walk.1.from

-- so a node with a label is admitted
pub reaches_admits : (g : Rows) (q : Query) (seeds : List Seed) (u : Addr) (a : Label) → Reaches g q seeds u a → AdmitsNode g q u
reaches_admits g q seeds u a r = walk_admits g q u r.seed.node r.links r.walk
