-- What a query asks of nodes and links, looked up once for a whole search.
use Rattle.std.specs.Prelude.{◌≡◌, ◌↔◌, ◌<◌, ℕ, List, length, Bool, true, false, Some, slice_get, slice_index_or}
use Rattle.dom_base.specs.declared.addr.Addr.{Addr}
use Rattle.dom_base.specs.declared.link.Link.{Link}
use Rattle.dom_base.specs.declared.query.Query.{Query}
use Rattle.dom_base.specs.Admission.{Allows, BarsNode}
use Rattle.te_links.specs.Rows.{Rows}
use Rattle.path_search.specs.declared.asked.Asked.{Asked}

-- past the end no node is barred
abbrev pub is_barred : List Bool → ℕ → Bool
is_barred barred i = slice_index_or barred i false

-- of the first m nodes, whether the query bars each
pub record AreBarredUpTo (g : Rows) (q : Query) (barred : List Bool) (m : ℕ) : Type 0 where
  pub long : length barred ≡ m
  pub each : (i : ℕ) (n : Addr) → i < m → slice_get g.nodes i ≡ Some n → (is_barred barred i ≡ true) ↔ BarsNode q n

abbrev pub AreBarred : Rows → Query → List Bool → Type 0
AreBarred g q barred = (i : ℕ) (n : Addr) → slice_get g.nodes i ≡ Some n → (is_barred barred i ≡ true) ↔ BarsNode q n

-- where nothing is asked of links, all are allowed; the query whose exclusions are in order is this one
pub record IsAsked (g : Rows) (q : Query) (asked : Asked) : Type 0 where
  pub free : asked.free ≡ true → (l : Link) → Allows q l
  pub barred : AreBarred g q asked.barred.items
  pub prepared : asked.prepared ≡ q
