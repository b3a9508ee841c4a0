-- The topology that is built from rows.
use Rattle.std.specs.Prelude.{◌≡◌, IsPermutation}
use Rattle.te_links.specs.Rows.{Rows, IsTopology}

-- the topology has exactly these rows, which obey the rules
pub record IsBuilt (g t : Rows) : Type 0 where
  pub rules : IsTopology g
  pub own : t.own ≡ g.own
  pub nodes : IsPermutation g.nodes t.nodes
  pub links : IsPermutation g.links t.links
  pub outs : IsPermutation g.outs t.outs
  pub entries : IsPermutation g.entries t.entries
