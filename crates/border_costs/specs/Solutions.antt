-- The answer to an ask.
use Rattle.std.specs.Prelude.{◌≡◌, ◌≢◌, ◌⊎◌, ◌↔◌, ◌≤◌, ◌<◌, ℕ, List, [], ◌∷◌, map, length, All, Contains, None, Some, IsTrue, slice_get}
use Rattle.std.specs.List.{zip}
use Rattle.std.specs.declared.option.Option.{Option}
use Rattle.dom_base.specs.declared.addr.Addr.{Addr}
use Rattle.dom_base.specs.declared.link.Link.{Link}
use Rattle.dom_base.specs.declared.names.As.{As}
use Rattle.dom_base.specs.declared.query.Query.{Query}
use Rattle.dom_base.specs.declared.query.Seed.{Seed}
use Rattle.dom_base.specs.declared.query.Label.{Label}
use Rattle.te_links.specs.declared.rows.OutLink.{OutLink}
use Rattle.te_links.specs.Rows.{Rows}
use Rattle.walk_laws.specs.Labels.{IsLabel, IsSegment}
use Rattle.walk_laws.specs.Capped.{capped}
use Rattle.walk_laws.specs.Certificate.{Certifies}
use Rattle.walk_laws.specs.Borders.{IsBorderSeed}
use Rattle.path_certificate.specs.declared.certificate.Certificate.{Certificate}
use Rattle.path_certificate.specs.Rows.{label_in}
use Rattle.path_search.specs.declared.find.LabelsTo.{LabelsTo}
use Rattle.path_search.specs.Arcs.{label_at}
use Rattle.path_search.specs.Search.{AreLabels}
use Rattle.vspt_tree.specs.declared.branch.Best.{Best}
use Rattle.border_costs.specs.declared.job.Target.{Target}
use Rattle.border_costs.specs.declared.job.Target.TheVariants.{Node, Next}
use Rattle.border_costs.specs.declared.job.Down.{Down}
use Rattle.border_costs.specs.declared.job.Ask.{Ask}
use Rattle.border_costs.specs.declared.answer.Answer.{Answer}
use Rattle.border_costs.specs.declared.answer.LabelledAnswer.{LabelledAnswer}
use Rattle.border_costs.specs.Asks.{AreSeeds, IsPair, HasNoPair, beyond}

-- the far address is that of an out link with this head
abbrev pub IsHeadOf : Rows → Addr → Addr → Type 0
IsHeadOf g far head = (o : OutLink) × Contains g.outs o × (o.link.far ≡ far) × (o.link.to ≡ head)

abbrev pub HasNoOut : Rows → Addr → Type 0
HasNoOut g far = (o : OutLink) → Contains g.outs o → o.link.far ≢ far

-- the way beyond an exit: the admitted out link with this far address, its head, and the least row of the head, from which its seed is made
pub record GoesOver (g : Rows) (q : Query) (next : As) (down : List Down) (exit : Addr) (head : Option Addr) : Type 0 where
  pub out : OutLink
  pub seed : Seed
  pub least : IsBorderSeed g q next (beyond down) out seed
  pub is_exit : out.link.far ≡ exit
  pub is_head : head ≡ Some out.link.to

-- the node beyond the exit; none in the last domain
abbrev pub IsHead : Rows → Query → List Down → Target → Addr → Option Addr → Type 0
IsHead g q down (Node t) exit head = head ≡ None
IsHead g q down (Next b) exit head = GoesOver g q b down exit head

-- the best way from an entry: its pair, which is its label, the node beyond the exit, and the chosen segment in its open form
pub record IsBest (g : Rows) (ask : Ask) (seeds : List Seed) (entry : Addr) (row : Best) : Type 0 where
  pub is_entry : row.entry ≡ entry
  pub pair : IsPair g ask entry (Some (record { cost = row.cost; exit = row.exit }))
  pub label : IsLabel g ask.query seeds entry (Some (record { cost = row.cost; exit = row.exit }))
  pub is_head : IsHead g ask.query ask.down ask.target row.exit row.head
  pub links : List Link
  pub chosen : IsSegment g ask.query seeds entry (record { cost = row.cost; exit = row.exit }) links
  pub shown : row.segment ≡ entry ∷ map (λ l. l.far) links

-- in the order of the entries, one row for each that has a pair
abbrev pub AreBest : Rows → Ask → List Seed → List Addr → List Best → Type 0
AreBest g ask seeds [] rows = rows ≡ []
AreBest g ask seeds (entry ∷ entries) rows =
    (HasNoPair g ask entry × AreBest g ask seeds entries rows)
    ⊎ ((row : Best) × (rest : List Best) × (rows ≡ row ∷ rest) × IsBest g ask seeds entry row × AreBest g ask seeds entries rest)

-- each node in order with its least label, which meet the conditions of a certificate, and no path
pub record IsLabelled (g : Rows) (ask : Ask) (seeds : List Seed) (c : Certificate) : Type 0 where
  pub own : c.own ≡ ask.at
  pub labels : List (Option Label)
  pub are_labels : AreLabels g ask.query seeds labels
  pub rows : c.labels ≡ zip g.nodes labels
  pub certifies : Certifies g ask.query seeds (label_in c.labels)
  pub path : c.path ≡ None

abbrev pub IsKnownTarget : Rows → Target → Type 0
IsKnownTarget g (Node t) = Contains g.nodes t
IsKnownTarget g (Next b) = Unit {0}

-- the rows of an ask over a topology
pub record AreRows (g : Rows) (ask : Ask) (rows : Answer) : Type 0 where
  pub seeds : List Seed
  pub are_seeds : AreSeeds g ask seeds
  pub best : AreBest g ask seeds ask.entries rows.best
  pub source_known : IsTrue rows.source_known ↔ Contains g.nodes ask.source
  pub target_known : IsTrue rows.target_known ↔ IsKnownTarget g ask.target

-- the rows, with the labels of all nodes from the same seeds
pub record AreLabelledRows (g : Rows) (ask : Ask) (told : LabelledAnswer) : Type 0 where
  pub are_rows : AreRows g ask told.rows
  pub labels : IsLabelled g ask are_rows.seeds told.certificate

-- the places of the addresses that are nodes
pub record ArePlaces (g : Rows) (addresses : List Addr) (places : List ℕ) : Type 0 where
  pub inside : All (λ i. i < length g.nodes) places
  pub every : (i : ℕ) (n : Addr) → Contains addresses n → slice_get g.nodes i ≡ Some n → Contains places i

-- all labels up to a cost, which tell the label of each entry
pub record TellEntries (g : Rows) (ask : Ask) (seeds : List Seed) (found : LabelsTo) : Type 0 where
  pub within : found.reach ≤ ask.query.cap
  pub are_labels : AreLabels g (capped found.reach ask.query) seeds found.labels
  pub entries : (i : ℕ) (n : Addr) → Contains ask.entries n → slice_get g.nodes i ≡ Some n → IsLabel g ask.query seeds n (label_at found.labels i)

-- an ask, the topology that it is computed in, and what is computed
pub record Solution : Type 0 where
  pub ask : Ask
  pub topology : Rows
  pub rows : Answer
