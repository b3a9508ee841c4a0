-- What the verdict of a check is worth.
use Rattle.std.proofs.Common.{◌≡◌, ◌↔◌, inl, inr, ℕ, suc, ◌<◌, List, [], ◌∷◌, refl, sym, ◌∙◌, subst, arith, None, Some}
use Rattle.std.specs.Prelude.{Contains}
use Rattle.std.specs.declared.option.Option.{Option}
use Rattle.std.proofs.lemmas.Bool.Decides.{eqb_tells}
use Rattle.std.proofs.lemmas.List.Elements.{All-contains}
use Rattle.dom_base.specs.AddrOrder.{rank}
use Rattle.dom_base.proofs.Ranks.{same_addr}
use Rattle.dom_base.specs.declared.addr.Addr.{Addr}
use Rattle.dom_base.specs.declared.query.Query.{Query}
use Rattle.dom_base.specs.declared.query.Seed.{Seed as SeedRow}
use Rattle.dom_base.specs.declared.query.Label.{Label}
use Rattle.te_links.specs.Rows.{Rows, IsTopology}
use Rattle.walk_laws.specs.Labels.{IsLabel}
use Rattle.walk_laws.specs.Certificate.{Labelling, Certifies, PathHolds}
use Rattle.walk_laws.proofs.Reached.{certified}
use Rattle.walk_laws.proofs.Complete.{path_walks}
use Rattle.path_certificate.specs.declared.broken.Broken.{Broken}
use Rattle.path_certificate.specs.declared.certificate.Certificate.{Certificate}
use Rattle.path_certificate.specs.declared.verdict.Place.{Place}
use Rattle.path_certificate.specs.declared.verdict.Place.TheVariants.{Seed, Link, Node, Path}
use Rattle.path_certificate.specs.declared.verdict.Verdict.{Verdict}
use Rattle.path_certificate.specs.declared.verdict.Verdict.TheVariants.{Holds, Fails}
use Rattle.path_certificate.specs.Rows.{label_in, AreLabelRows}
use Rattle.path_certificate.specs.Claims.{Claim, claim_of, LeadsOver, SeedHoldsAt, LinkHoldsAt, NodeHoldsAt, PathHoldsAt, HoldsAt, IsBefore, IsVerdict, ShowsWalk, seed_told, seed_bound, link_told, link_bound, node_told}
use Rattle.path_certificate.specs.Offers.{IsFirstBroken}
use Rattle.path_certificate.proofs.Making.{place_of, contains_at}
use Rattle.path_certificate.proofs.Leading.{over_all, all_over}

-- all conditions of a kind
abbrev pub SeedsHold : Claim → Type 0
SeedsHold c = (i : ℕ) → SeedHoldsAt c.topology c.query c.label c.seeds i

abbrev pub LinksHold : Claim → Type 0
LinksHold c = (i : ℕ) → LinkHoldsAt c.topology c.query c.label i

abbrev pub NodesHold : Claim → Type 0
NodesHold c = (i : ℕ) → NodeHoldsAt c.topology c.query c.seeds c.label i

abbrev pub PathIsGood : Claim → Type 0
PathIsGood c = (k : ℕ) → PathHoldsAt c.topology c.query c.seeds c.label c.source c.path k

before_seed : (c : Claim) (i : ℕ) → ((j : ℕ) → j < i → SeedHoldsAt c.topology c.query c.label c.seeds j) → (other : Place) → IsBefore other (Seed i) → HoldsAt c other
before_seed c i earlier (Seed j) (inl lt) = absurd (omega arith)
before_seed c i earlier (Seed j) (inr same) = earlier j same.1
before_seed c i earlier (Link j) (inl lt) = absurd (omega arith)
before_seed c i earlier (Link j) (inr same) = absurd (omega (arith, same.0))
before_seed c i earlier (Node j) (inl lt) = absurd (omega arith)
before_seed c i earlier (Node j) (inr same) = absurd (omega (arith, same.0))
before_seed c i earlier (Path j) (inl lt) = absurd (omega arith)
before_seed c i earlier (Path j) (inr same) = absurd (omega (arith, same.0))

before_link : (c : Claim) (i : ℕ) → SeedsHold c → ((j : ℕ) → j < i → LinkHoldsAt c.topology c.query c.label j) → (other : Place) → IsBefore other (Link i) → HoldsAt c other
before_link c i seeds earlier (Seed j) before = seeds j
before_link c i seeds earlier (Link j) (inl lt) = absurd (omega arith)
before_link c i seeds earlier (Link j) (inr same) = earlier j same.1
before_link c i seeds earlier (Node j) (inl lt) = absurd (omega arith)
before_link c i seeds earlier (Node j) (inr same) = absurd (omega (arith, same.0))
before_link c i seeds earlier (Path j) (inl lt) = absurd (omega arith)
before_link c i seeds earlier (Path j) (inr same) = absurd (omega (arith, same.0))

before_node : (c : Claim) (i : ℕ) → SeedsHold c → LinksHold c → ((j : ℕ) → j < i → NodeHoldsAt c.topology c.query c.seeds c.label j) → (other : Place) → IsBefore other (Node i) → HoldsAt c other
before_node c i seeds links earlier (Seed j) before = seeds j
before_node c i seeds links earlier (Link j) before = links j
before_node c i seeds links earlier (Node j) (inl lt) = absurd (omega arith)
before_node c i seeds links earlier (Node j) (inr same) = earlier j same.1
before_node c i seeds links earlier (Path j) (inl lt) = absurd (omega arith)
before_node c i seeds links earlier (Path j) (inr same) = absurd (omega (arith, same.0))

before_path : (c : Claim) (i : ℕ) → SeedsHold c → LinksHold c → NodesHold c → ((j : ℕ) → j < i → PathHoldsAt c.topology c.query c.seeds c.label c.source c.path j) → (other : Place) → IsBefore other (Path i) → HoldsAt c other
before_path c i seeds links nodes earlier (Seed j) before = seeds j
before_path c i seeds links nodes earlier (Link j) before = links j
before_path c i seeds links nodes earlier (Node j) before = nodes j
before_path c i seeds links nodes earlier (Path j) (inl lt) = absurd (omega arith)
before_path c i seeds links nodes earlier (Path j) (inr same) = earlier j same.1

pub seed_first : (c : Claim) (b : Broken) → IsFirstBroken (SeedHoldsAt c.topology c.query c.label c.seeds) (seed_told c.label c.seeds) (seed_bound c.seeds) b →
    IsVerdict c (Fails (Seed b.index) b.told b.bound)
seed_first c b first = (record { fails = first.broken.fails; earlier = before_seed c b.index first.earlier }, first.broken.same_told, first.broken.same_bound)

pub link_first : (c : Claim) (b : Broken) → SeedsHold c →
    IsFirstBroken (LinkHoldsAt c.topology c.query c.label) (link_told c.topology c.label) (link_bound c.topology c.query c.label) b →
    IsVerdict c (Fails (Link b.index) b.told b.bound)
link_first c b seeds first = (record { fails = first.broken.fails; earlier = before_link c b.index seeds first.earlier }, first.broken.same_told, first.broken.same_bound)

pub node_first : (c : Claim) (b : Broken) → SeedsHold c → LinksHold c →
    IsFirstBroken (NodeHoldsAt c.topology c.query c.seeds c.label) (node_told c.topology c.label) (λ _. None) b → IsVerdict c (Fails (Node b.index) b.told b.bound)
node_first c b seeds links first = (record { fails = first.broken.fails; earlier = before_node c b.index seeds links first.earlier }, first.broken.same_told, first.broken.same_bound)

pub path_first : (c : Claim) (k : ℕ) → SeedsHold c → LinksHold c → NodesHold c → (PathHoldsAt c.topology c.query c.seeds c.label c.source c.path k → ⊥) →
    ((j : ℕ) → j < k → PathHoldsAt c.topology c.query c.seeds c.label c.source c.path j) → IsVerdict c (Fails (Path k) None None)
path_first c k seeds links nodes fails earlier = (record { fails = fails; earlier = before_path c k seeds links nodes earlier }, refl, refl)

pub all_hold : (c : Claim) → SeedsHold c → LinksHold c → NodesHold c → PathIsGood c → IsVerdict c Holds
all_hold c seeds links nodes path (Seed i) = seeds i
all_hold c seeds links nodes path (Link i) = links i
all_hold c seeds links nodes path (Node i) = nodes i
all_hold c seeds links nodes path (Path k) = path k

later : {X : Type 0} (x y : X) (xs : List X) → Contains xs y → Contains (x ∷ xs) y
later x y xs (k, below, is) = (suc k, omega arith, is)

-- a label stands in a row, and so at a node
named : (nodes : List Addr) (rows : List (Addr × Option Label)) (n : Addr) (a : Label) → ((row : Addr × Option Label) → Contains rows row → Contains nodes row.0) →
    label_in rows n ≡ Some a → Contains nodes n
named nodes [] n a at is = cc
named nodes (row ∷ rows) n a at is =
    elim (eqb_tells (rank row.0) (rank n)) [
      | inl t ↦ subst (Contains nodes) (same_addr row.0 n t.1) (at row (0, omega arith, refl))
      | inr f ↦ named nodes rows n a (λ r found. at r (later row r rows found)) (rw f.0 at is)
    ]

pub are_certified : (g : Rows) (q : Query) (seeds : List SeedRow) (rows : List (Addr × Option Label)) → AreLabelRows g.nodes rows →
    ((i : ℕ) → SeedHoldsAt g q (label_in rows) seeds i) → ((i : ℕ) → LinkHoldsAt g q (label_in rows) i) → ((i : ℕ) → NodeHoldsAt g q seeds (label_in rows) i) →
    Certifies g q seeds (label_in rows)
are_certified g q seeds rows are at_seeds at_links at_nodes = record {
  at_seeds = λ s is_seed. let at = place_of seeds s is_seed in at_seeds at.0 s at.1;
  at_links = λ l a admitted. let at = place_of g.links l admitted.is_link in at_links at.0 l at.1 a admitted;
  at_nodes = λ n a is.
      let node : Contains g.nodes n = named g.nodes rows n a (λ row found. All-contains (λ (r : Addr × Option Label). Contains g.nodes r.0) rows row are.at_nodes found) is in
      let at = place_of g.nodes n node in
      at_nodes at.0 n a at.1 is;
}

path_is : (g : Rows) (q : Query) (seeds : List SeedRow) (label : Labelling) (source : Addr) (path : Option (List Addr)) →
    ((k : ℕ) → PathHoldsAt g q seeds label source path k) → PathHolds g q seeds label source path
path_is g q seeds label source None at = at 0
path_is g q seeds label source (Some []) at = at 0
path_is g q seeds label source (Some (first ∷ fars)) at =
    let start = at 0 in (
      start.0,
      start.1,
      start.2,
      over_all g q seeds label fars source start.0
          (λ k.
          let other = at k in
          let both : Some other.0 ≡ Some start.0 = sym other.1 ∙ start.1 in
          let same : other.0 ≡ start.0 = cc in
          subst (λ (a : Label). LeadsOver g q seeds label source a fars k) same other.3),
    )

is_path : (g : Rows) (q : Query) (seeds : List SeedRow) (label : Labelling) (source : Addr) (path : Option (List Addr)) →
    PathHolds g q seeds label source path → (k : ℕ) → PathHoldsAt g q seeds label source path k
is_path g q seeds label source None holds k = holds
is_path g q seeds label source (Some []) holds k = holds
is_path g q seeds label source (Some (first ∷ fars)) holds k =
    (holds.0, holds.1, holds.2, all_over g q seeds label fars source holds.0 holds.3 k)

shows : (g : Rows) (q : Query) (seeds : List SeedRow) (label : Labelling) (source : Addr) (path : Option (List Addr)) → Certifies g q seeds label →
    PathHolds g q seeds label source path → ShowsWalk g q seeds label source path
shows g q seeds label source None certifies holds = holds
shows g q seeds label source (Some []) certifies holds = holds
shows g q seeds label source (Some (first ∷ fars)) certifies holds =
    (holds.0, holds.1, holds.2, path_walks g q seeds label certifies source holds.0 fars holds.1 holds.3)

holds_at : (c : Claim) → Certifies c.topology c.query c.seeds c.label → PathHolds c.topology c.query c.seeds c.label c.source c.path → (place : Place) → HoldsAt c place
holds_at c certifies path (Seed i) = λ s at. certifies.at_seeds s (contains_at c.seeds i s at)
holds_at c certifies path (Link i) = λ l at. certifies.at_links l
holds_at c certifies path (Node i) = λ n a at is. certifies.at_nodes n a is
holds_at c certifies path (Path k) = is_path c.topology c.query c.seeds c.label c.source c.path path k

-- what a verdict says of the labels and the path
pub record Says (g : Rows) (q : Query) (seeds : List SeedRow) (source : Addr) (c : Certificate) (v : Verdict) : Type 0 where
  pub exact : (v ≡ Holds) ↔ (Certifies g q seeds (label_in c.labels) × PathHolds g q seeds (label_in c.labels) source c.path)
  pub least : v ≡ Holds → (n : Addr) → IsLabel g q seeds n (label_in c.labels n)
  pub walk : v ≡ Holds → ShowsWalk g q seeds (label_in c.labels) source c.path

pub says : (g : Rows) (q : Query) (seeds : List SeedRow) (source : Addr) (c : Certificate) (v : Verdict) → IsTopology g → AreLabelRows g.nodes c.labels →
    IsVerdict (claim_of g q seeds source c) v → Says g q seeds source c v
says g q seeds source c Holds valid are is =
    let certifies = are_certified g q seeds c.labels are (λ i. is (Seed i)) (λ i. is (Link i)) (λ i. is (Node i)) in
    let path = path_is g q seeds (label_in c.labels) source c.path (λ k. is (Path k)) in
    record {
      exact = (λ _. (certifies, path), λ _. refl);
      least = λ _. certified g q seeds (label_in c.labels) valid certifies;
      walk = λ _. shows g q seeds (label_in c.labels) source c.path certifies path;
    }
says g q seeds source c (Fails place told bound) valid are is = record {
  exact = (λ same. absurd (cc), λ both. absurd (is.0.fails (holds_at (claim_of g q seeds source c) both.0 both.1 place)));
  least = λ same. absurd (cc);
  walk = λ same. absurd (cc);
}

-- where all conditions hold of the rows
pub good : (g : Rows) (q : Query) (seeds : List SeedRow) (source : Addr) (c : Certificate) (rows : List (Addr × Option Label)) → rows ≡ c.labels → IsTopology g → AreLabelRows g.nodes c.labels →
    ((i : ℕ) → SeedHoldsAt g q (label_in rows) seeds i) → ((i : ℕ) → LinkHoldsAt g q (label_in rows) i) → ((i : ℕ) → NodeHoldsAt g q seeds (label_in rows) i) →
    ((k : ℕ) → PathHoldsAt g q seeds (label_in rows) source c.path k) → Says g q seeds source c Holds
good g q seeds source c rows same valid are at_seeds at_links at_nodes at_path =
    says g q seeds source c Holds valid are (all_hold (claim_of g q seeds source c)
    (rw same at at_seeds) (rw same at at_links) (rw same at at_nodes) (rw same at at_path))
