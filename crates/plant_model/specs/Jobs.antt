-- The job of a pending request (RFC 5441, section 5): what is asked of the own domain, and the join of its border table.
use Rattle.std.specs.Prelude.{◌≡◌, ◌⊎◌, ◌≤◌, ◌<◌, ℕ, cond, List, [], ◌∷◌, map, filter, Contains, AllPairs, Option, Some, None}
use Rattle.plant_model.specs.Types.{Addr, As, BorderRow, Entry, Class, Best, Branch, Target, Down, Ask}
use Rattle.dom_base.specs.AddrOrder.{rank}
use Rattle.te_links.specs.Rows.{Rows}
use Rattle.walk_laws.specs.TableJoins.{RowJoins, RowEnds}
use Rattle.disclosure.specs.declared.class.Class.TheVariants.{Client, Neighbour, Parent}
use Rattle.border_costs.specs.declared.job.Target.TheVariants.{Node, Next}
use Rattle.border_costs.specs.Asks.{beyond}
use Rattle.plant_text.specs.Names.{same_as}
use Rattle.plant_model.specs.Rising.{has_addr, insert_addr}
use Rattle.plant_model.specs.Branches.{downs}
use Rattle.plant_model.specs.Element.{Item}

-- where a job leads: along its sequence to the next domain, or to its end; a sequence has its own domain at least, so [] is never asked
abbrev pub target_along : List As → Addr → Target
target_along [] t = Node t
target_along (a ∷ []) t = Node t
target_along (a ∷ b ∷ rest) t = Next b

-- the entry nodes of a domain, rising, each once
abbrev pub entry_nodes : List Entry → List Addr
entry_nodes [] = []
entry_nodes (e ∷ es) = insert_addr e.node (entry_nodes es)

-- The nodes for which an asker is answered: the source, to a client; the entries from a neighbour; all entries and the source
-- where it is a node here, to the parent.
abbrev pub entries_of : Class → Addr → Rows → List Addr
entries_of (Client may) source g = source ∷ []
entries_of (Neighbour a) source g = map (λ e. e.node) (filter (λ e. same_as e.from_as a) g.entries)
entries_of Parent source g = cond (has_addr source g.nodes) (insert_addr source (entry_nodes g.entries)) (entry_nodes g.entries)

-- the ask of a domain for a request, in a topology of this number, with the branches that the next one told
abbrev pub ask_of : {P : Type 0} → As → ℕ → Item P → List Branch → ℕ → Rows → Ask
ask_of own number i down generation g = record {
  at = own;
  number = number;
  generation = generation;
  query = i.wanted.query;
  source = i.wanted.source;
  entries = entries_of i.class i.wanted.source g;
  target = target_along i.sequence i.wanted.target;
  down = downs down;
}

-- a row of the border table, in the last domain by itself and else with what lies beyond its head: a sum within the cap
abbrev pub JoinsBy : ℕ → Target → List BorderRow → List Down → Addr → ℕ → Addr → Option Addr → Type 0
JoinsBy cap (Node t) border down e c exit None = RowEnds cap border e (record { cost = c; exit = exit })
JoinsBy cap (Node t) border down e c exit (Some head) = ⊥
JoinsBy cap (Next b) border down e c exit None = ⊥
JoinsBy cap (Next b) border down e c exit (Some head) = (over : RowJoins cap border (beyond down) e (record { cost = c; exit = exit })) × (over.row.head ≡ head)

-- The join of a border table with downstream rows: for each entry the least pair of a sum and an exit. The segments stand
-- for nothing.
pub record IsJoinOf (cap : ℕ) (target : Target) (border : List BorderRow) (down : List Down) (best : List Best) : Type 0 where
  pub rising : AllPairs (λ (x y : Best). rank x.entry < rank y.entry) best
  pub each : (b : Best) → Contains best b → JoinsBy cap target border down b.entry b.cost b.exit b.head
  pub least : (b : Best) → Contains best b → (c : ℕ) (exit : Addr) (head : Option Addr) → JoinsBy cap target border down b.entry c exit head →
      (b.cost < c) ⊎ ((b.cost ≡ c) × (rank b.exit ≤ rank exit))
  pub all : (e : Addr) (c : ℕ) (exit : Addr) (head : Option Addr) → JoinsBy cap target border down e c exit head →
      (b : Best) × Contains best b × (b.entry ≡ e)

-- A way that is joined leads to a node that the next domain told.
abbrev pub JoinsWhatWasTold : Type 0
JoinsWhatWasTold = (cap : ℕ) (next : As) (border : List BorderRow) (down : List Down) (e : Addr) (c : ℕ) (exit head : Addr) → JoinsBy cap (Next next) border down e c exit (Some head) →
    (rest : ℕ) × Contains (beyond down) (record { node = head; cost = rest })
