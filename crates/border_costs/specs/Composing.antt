-- What the rows of an ask are worth: over right rows of the next domain they tell the least costs of the whole list of domains, and a
-- border table tells them to whoever has what lies beyond (RFC 5441, section 4.2).
use Rattle.std.specs.Prelude.{◌≡◌, ◌⊎◌, ◌↔◌, ℕ, List, [], ◌∷◌, Contains}
use Rattle.std.specs.declared.option.Option.{Option}
use Rattle.dom_base.specs.declared.addr.Addr.{Addr}
use Rattle.dom_base.specs.declared.names.As.{As}
use Rattle.dom_base.specs.declared.border.BorderRow.{BorderRow}
use Rattle.dom_base.specs.declared.query.Label.{Label}
use Rattle.dom_base.specs.declared.query.Query.{Query}
use Rattle.te_links.specs.Rows.{Rows}
use Rattle.walk_laws.specs.Crossing.{Goal, At, Told, query_in, IsLeastCost, HasNoCrossing}
use Rattle.walk_laws.specs.Composition.{AreBeyond}
use Rattle.walk_laws.specs.TableJoins.{IsTableJoin, IsTableEnd}
use Rattle.vspt_tree.specs.declared.branch.Best.{Best}
use Rattle.border_costs.specs.declared.job.Down.{Down}
use Rattle.border_costs.specs.declared.job.Target.{Target}
use Rattle.border_costs.specs.declared.job.Target.TheVariants.{Node, Next}
use Rattle.border_costs.specs.declared.job.Ask.{Ask}
use Rattle.border_costs.specs.declared.answer.Answer.{Answer}
use Rattle.border_costs.specs.Asks.{beyond, IsPair}
use Rattle.border_costs.specs.Solutions.{AreRows}
use Rattle.border_costs.specs.Tables.{IsBorderTable}

-- each row has the least cost from its entry, and an entry without a row has no walk
pub record TellLeast (q : Query) (g : Rows) (rest : List Rows) (goal : Goal) (entries : List Addr) (best : List Best) : Type 0 where
  pub each : (b : Best) → Contains best b → Contains entries b.entry × IsLeastCost q g rest b.entry goal b.cost
  pub every : (e : Addr) → Contains entries e → HasNoCrossing q g rest e goal ⊎ ((b : Best) × Contains best b × (b.entry ≡ e))

-- at a border
abbrev pub RowsCompose : Type 0
RowsCompose =
    (q : Query) (g h : Rows) (rest : List Rows) (goal : Goal) (a : Ask) (rows : Answer) → AreRows g a rows → a.query ≡ query_in q g.own → a.target ≡ Next h.own →
    AreBeyond q g.own h rest goal (beyond a.down) → TellLeast q g (h ∷ rest) goal a.entries rows.best

-- in the last domain
abbrev pub RowsEnd : Type 0
RowsEnd =
    (q : Query) (g : Rows) (t : Addr) (a : Ask) (rows : Answer) → AreRows g a rows → a.query ≡ query_in q g.own → a.target ≡ Node t →
    TellLeast q g [] (At t) a.entries rows.best

-- and there over rows that were told of the domain beyond it, whatever they are
abbrev pub RowsReport : Type 0
RowsReport =
    (q : Query) (g : Rows) (next : As) (a : Ask) (rows : Answer) → AreRows g a rows → a.query ≡ query_in q g.own → a.target ≡ Next next →
    TellLeast q g [] (Told next (beyond a.down)) a.entries rows.best

-- the join of a table for an entry of an ask
abbrev pub IsTableJoinTo : ℕ → List BorderRow → List Down → Addr → Target → Option Label → Type 0
IsTableJoinTo cap table down entry (Node t) o = IsTableEnd cap table entry o
IsTableJoinTo cap table down entry (Next b) o = IsTableJoin cap table (beyond down) entry o

-- it is the entry's pair
abbrev pub TableTellsPairs : Type 0
TableTellsPairs =
    (g : Rows) (a : Ask) (table : List BorderRow) → IsBorderTable g a table → (entry : Addr) → Contains a.entries entry →
    (o : Option Label) → IsPair g a entry o ↔ IsTableJoinTo a.query.cap table a.down entry a.target o
