-- The border table of an ask: for each entry and each way out of the domain the least cost (RFC 5441, section 4.2).
use Rattle.std.specs.Prelude.{◌≡◌, ◌⊎◌, ◌<◌, List, AllPairs, Contains}
use Rattle.dom_base.specs.AddrOrder.{rank}
use Rattle.dom_base.specs.declared.addr.Addr.{Addr}
use Rattle.dom_base.specs.declared.names.As.{As}
use Rattle.dom_base.specs.declared.border.BorderRow.{BorderRow}
use Rattle.dom_base.specs.declared.link.Link.{Link}
use Rattle.dom_base.specs.declared.query.Query.{Query}
use Rattle.te_links.specs.declared.rows.OutLink.{OutLink}
use Rattle.te_links.specs.Rows.{Rows}
use Rattle.walk_laws.specs.Walks.{IsLeast, cost}
use Rattle.walk_laws.specs.Borders.{IsBorderRow}
use Rattle.border_costs.specs.declared.job.Target.{Target}
use Rattle.border_costs.specs.declared.job.Target.TheVariants.{Node, Next}
use Rattle.border_costs.specs.declared.job.Ask.{Ask}

-- the least cost from the row's entry over an out link to the next domain, within the cap
pub record IsRowOver (g : Rows) (q : Query) (next : As) (r : BorderRow) : Type 0 where
  pub out : OutLink
  pub row : IsBorderRow g q next r.entry out r.cost
  pub far : r.far ≡ out.link.far
  pub head : r.head ≡ out.link.to

-- the least cost from the row's entry to a node of the domain, which is both addresses
pub record IsRowAt (g : Rows) (q : Query) (t : Addr) (r : BorderRow) : Type 0 where
  pub links : List Link
  pub least : IsLeast g q r.entry t links
  pub sum : r.cost ≡ cost q links
  pub far : r.far ≡ t
  pub head : r.head ≡ t

abbrev pub IsRowTo : Rows → Query → Target → BorderRow → Type 0
IsRowTo g q (Node t) r = IsRowAt g q t r
IsRowTo g q (Next b) r = IsRowOver g q b r

-- a row of the table, of an entry of the ask
pub record IsTableRow (g : Rows) (ask : Ask) (r : BorderRow) : Type 0 where
  pub entry : Contains ask.entries r.entry
  pub row : IsRowTo g ask.query ask.target r

-- by the entry, and then by the far address
abbrev pub IsRowBefore : BorderRow → BorderRow → Type 0
IsRowBefore r s = (rank r.entry < rank s.entry) ⊎ ((r.entry ≡ s.entry) × (rank r.far < rank s.far))

-- all rows of an ask and no others, in order, and so each once
pub record IsBorderTable (g : Rows) (ask : Ask) (rows : List BorderRow) : Type 0 where
  pub each : (r : BorderRow) → Contains rows r → IsTableRow g ask r
  pub every : (r : BorderRow) → IsTableRow g ask r → Contains rows r
  pub order : AllPairs IsRowBefore rows
