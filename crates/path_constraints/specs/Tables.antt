-- The tables in which the exclusions of a query are looked up.
use Rattle.std.specs.Prelude.{◌≡◌, ◌↔◌, ℕ, Bool, true, false, List, Contains}
use Rattle.std.specs.BTreeSet.{BTreeSet, contains}
use Rattle.std.specs.Ordering.{nat_cmp}
use Rattle.dom_base.specs.declared.addr.Addr.{Addr}
use Rattle.dom_base.specs.declared.names.As.{As}
use Rattle.dom_base.specs.declared.query.Query.{Query}
use Rattle.dom_base.specs.declared.query.Exclusion.{Exclusion}
use Rattle.dom_base.specs.declared.query.Excluded.{Excluded}
use Rattle.dom_base.specs.declared.query.Excluded.TheVariants.{Prefix, AsNumber, Srlg, Other}
use Rattle.dom_base.specs.Admission.{LiesIn}
use Rattle.path_constraints.specs.Spans.{Covers, AreRising}

-- an address lies in a prefix with this attribute
abbrev pub NamesAddr : ℕ → Addr → Excluded → Type 0
NamesAddr kind a (Prefix addr length attribute) = (attribute ≡ kind) × LiesIn a addr length
NamesAddr kind a (AsNumber number) = ⊥
NamesAddr kind a (Srlg number) = ⊥
NamesAddr kind a (Other kind' body) = ⊥

abbrev pub NamesRisk : ℕ → Excluded → Type 0
NamesRisk n (Srlg number) = number ≡ n
NamesRisk n (Prefix addr length attribute) = ⊥
NamesRisk n (AsNumber number) = ⊥
NamesRisk n (Other kind body) = ⊥

abbrev pub NamesDomain : As → Excluded → Type 0
NamesDomain own (AsNumber number) = own ≡ number
NamesDomain own (Prefix addr length attribute) = ⊥
NamesDomain own (Srlg number) = ⊥
NamesDomain own (Other kind body) = ⊥

-- an exclusion that is no mere wish names something
abbrev pub Demands : (Excluded → Type 0) → Exclusion → Type 0
Demands Names row = (row.avoid ≡ false) × Names row.what

-- so does some exclusion of a list
abbrev pub SomeDemands : (Excluded → Type 0) → List Exclusion → Type 0
SomeDemands Names list = (row : Exclusion) × Contains list row × Demands Names row

-- a link's interfaces, nodes, shared risks, and whether the query's own domain is excluded
pub record AreTables (q : Query) (links nodes : List (Addr × Addr)) (risks : BTreeSet ℕ) (domain : Bool) : Type 0 where
  pub links_rise : AreRising links
  pub nodes_rise : AreRising nodes
  pub of_links : (a : Addr) → Covers links a ↔ SomeDemands (NamesAddr 0 a) q.exclusions
  pub of_nodes : (a : Addr) → Covers nodes a ↔ SomeDemands (NamesAddr 1 a) q.exclusions
  pub of_risks : (n : ℕ) → (contains nat_cmp risks n ≡ true) ↔ SomeDemands (NamesRisk n) q.exclusions
  pub of_domain : (domain ≡ true) ↔ SomeDemands (NamesDomain q.own) q.exclusions
