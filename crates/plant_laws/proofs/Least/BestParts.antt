-- The part of a walk that a best row stands for: its chosen segment, the out link of its exit, and the least branch beyond.
use Rattle.std.proofs.Common.{◌≡◌, ◌+◌, ◌≤◌, ℕ, Bool, true, false, cond, List, [], ◌∷◌, sym, ◌∙◌, ap, subst, inl, inr, refl, arith, nat_lt}
use Rattle.std.specs.Prelude.{Contains, Some, None}
use Rattle.std.proofs.lemmas.Bool.{eqb-true, eq-eqb, ltb-true, ltb-false}
use Rattle.std.specs.declared.option.Option.{Option}
use Rattle.plant_model.specs.Types.{Addr, As, Link, Query, Seed, Label, OutLink, Best, Branch, Target, Down, Ask}
use Rattle.dom_base.specs.Admission.{weight}
use Rattle.te_links.specs.Rows.{Rows, IsInOrder}
use Rattle.walk_laws.specs.Walks.{Walk, cost}
use Rattle.walk_laws.specs.Labels.{IsLabel, IsSegment}
use Rattle.walk_laws.specs.Borders.{Beyond, LeadsTo, IsDown, IsJoin, JoinsAt, AreBorderSeeds}
use Rattle.walk_laws.proofs.Admitted.{walk_admits}
use Rattle.border_costs.specs.declared.job.Target.TheVariants.{Node, Next}
use Rattle.border_costs.specs.Asks.{beyond, target_seed, AreSeedsTo, IsPairTo}
use Rattle.border_costs.specs.Solutions.{IsHead, GoesOver, IsBest}
use Rattle.plant_model.specs.Names.{same_addr}
use Rattle.vspt_tree.specs.Branches.{better, first_least}
use Rattle.plant_model.specs.Branches.{downs}
use Rattle.plant_laws.specs.Shown.{segment_of, IsChosenTo}
use Rattle.border_costs.proofs.Members.{contains_none, contains_head, contains_tail, contains_cases}
use Rattle.plant_laws.proofs.Least.BorderJoins.{one_out}
use Rattle.plant_laws.proofs.Least.Segments.{segment_leads}
use Rattle.dom_base.specs.AddrOrder.{rank}
use Rattle.dom_base.proofs.Ranks.{same_addr as one_place}

pub same_addr_is : (a b : Addr) → same_addr a b ≡ true → a ≡ b
same_addr_is a b e = one_place a b (eqb-true (rank a) (rank b) e)

-- the first least branch of a node
abbrev pub IsFirst : Addr → List Branch → Option Branch → Type 0
IsFirst n bs None = (b : Branch) → Contains bs b → b.entry ≡ n → ⊥
IsFirst n bs (Some b) = Contains bs b × (b.entry ≡ n) × ((x : Branch) → Contains bs x → x.entry ≡ n → b.cost ≤ x.cost)

module _ (n : Addr) (b : Branch) (bs : List Branch) where
  skipped : (o : Option Branch) → same_addr b.entry n ≡ false → IsFirst n bs o → IsFirst n (b ∷ bs) o
  skipped None e is = λ x c at. elim (contains_cases b bs x c) [ inl same ↦ absurd (other (ap (λ (y : Branch). y.entry) same ∙ at)) | inr inside ↦ is x inside at ]
    where
      other : b.entry ≡ n → ⊥
      other same = let t : same_addr b.entry n ≡ true = eq-eqb (rank b.entry) (rank n) (ap rank same) in let no : true ≡ false = sym t ∙ e in cc
  skipped (Some k) e is = (contains_tail b bs k is.0, is.1, λ x c at. elim (contains_cases b bs x c) [ inl same ↦ absurd (other (ap (λ (y : Branch). y.entry) same ∙ at)) | inr inside ↦ is.2 x inside at ])
    where
      other : b.entry ≡ n → ⊥
      other same = let t : same_addr b.entry n ≡ true = eq-eqb (rank b.entry) (rank n) (ap rank same) in let no : true ≡ false = sym t ∙ e in cc

  counted : (o : Option Branch) → b.entry ≡ n → IsFirst n bs o → IsFirst n (b ∷ bs) (better b o)
  counted None at is = (contains_head b bs, at, λ x c x_at. elim (contains_cases b bs x c) [ inl same ↦ (let e = ap (λ (y : Branch). y.cost) same in omega (arith, e)) | inr inside ↦ absurd (is x inside x_at) ])
  counted (Some k) at is = go (nat_lt k.cost b.cost) refl
    where
      go : (y : Bool) → nat_lt k.cost b.cost ≡ y → IsFirst n (b ∷ bs) (cond y (Some k) (Some b))
      go true e = (
        contains_tail b bs k is.0,
        is.1,
        λ x c x_at. elim (contains_cases b bs x c) [
          | inl same ↦ (let less = ltb-true k.cost b.cost e in let f = ap (λ (y : Branch). y.cost) same in omega (arith, less, f))
          | inr inside ↦ is.2 x inside x_at
        ],
      )
      go false e = (
        contains_head b bs,
        at,
        λ x c x_at. elim (contains_cases b bs x c) [
          | inl same ↦ (let f = ap (λ (y : Branch). y.cost) same in omega (arith, f))
          | inr inside ↦ (let no_less = ltb-false k.cost b.cost e in let le = is.2 x inside x_at in omega (arith, no_less, le))
        ],
      )

pub first_is : (n : Addr) (bs : List Branch) → IsFirst n bs (first_least n bs)
first_is n [] = λ b c at. contains_none b c
first_is n (b ∷ bs) = go (same_addr b.entry n) refl (first_is n bs)
  where
    go : (y : Bool) → same_addr b.entry n ≡ y → IsFirst n bs (first_least n bs) → IsFirst n (b ∷ bs) (cond y (better b (first_least n bs)) (first_least n bs))
    go true e is = counted n b bs (first_least n bs) (same_addr_is b.entry n e) is
    go false e is = skipped n b bs (first_least n bs) e is

-- rows beyond are those of branches
pub row_of_branch : (bs : List Branch) (b : Branch) → Contains bs b → Contains (beyond (downs bs)) (record { node = b.entry; cost = b.cost })
row_of_branch [] b h = absurd (contains_none b h)
row_of_branch (x ∷ xs) b h = elim (contains_cases x xs b h) [
  | inl same ↦ subst (λ (y : Branch). Contains (beyond (downs (x ∷ xs))) (record { node = y.entry; cost = y.cost })) same (contains_head _ (beyond (downs xs)))
  | inr inside ↦ contains_tail _ (beyond (downs xs)) _ (row_of_branch xs b inside)
]

pub branch_of_row : (bs : List Branch) (n : Addr) (c : ℕ) → Contains (beyond (downs bs)) (record { node = n; cost = c }) → (b : Branch) × Contains bs b × (b.entry ≡ n) × (b.cost ≡ c)
branch_of_row [] n c h = absurd (contains_none _ h)
branch_of_row (x ∷ xs) n c h = elim (contains_cases _ (beyond (downs xs)) _ h) [
  | inl same ↦ (x, contains_head x xs, ap (λ (y : Beyond). y.node) same, ap (λ (y : Beyond). y.cost) same)
  | inr inside ↦ (let r = branch_of_row xs n c inside in (r.0, contains_tail x xs r.0 r.1, r.2, r.3))
]

pub record IsLeastBranch (bs : List Branch) (n : Addr) (c : ℕ) : Type 0 where
  pub branch : Branch
  pub first : first_least n bs ≡ Some branch
  pub is_branch : Contains bs branch
  pub at : branch.entry ≡ n
  pub cost : branch.cost ≡ c

pub least_branch : (bs : List Branch) (n : Addr) (c : ℕ) → IsDown (beyond (downs bs)) n c → IsLeastBranch bs n c
least_branch bs n c is = go (first_least n bs) refl (first_is n bs)
  where
    go : (o : Option Branch) → first_least n bs ≡ o → IsFirst n bs o → IsLeastBranch bs n c
    go None e first = let r = branch_of_row bs n c is.is_row in absurd (first r.0 r.1 r.2)
    go (Some b) e first =
        let r = branch_of_row bs n c is.is_row in
        let le = first.2 r.0 r.1 r.2 in
        let ge = is.least b.cost (subst (λ (a : Addr). Contains (beyond (downs bs)) (record { node = a; cost = b.cost })) first.1 (row_of_branch bs b first.0)) in
        record { branch = b; first = e; is_branch = first.0; at = first.1; cost = omega (arith, le, ge, r.3) }

-- the part in the last domain
pub record EndsIn (g : Rows) (q : Query) (t : Addr) (b : Best) : Type 0 where
  pub links : List Link
  pub chosen : IsChosenTo g q (Node t) [] b.entry t links
  pub walk : Walk g q b.entry t links
  pub sum : b.cost ≡ cost q links
  pub shown : b.segment ≡ segment_of b.entry links
  pub head : b.head ≡ None
  pub exit : b.exit ≡ t

-- the part in a domain that a walk leaves, with the branch beyond
pub record GoesOn (g : Rows) (q : Query) (next : As) (down : List Branch) (b : Best) : Type 0 where
  pub links : List Link
  pub out : OutLink
  pub chosen : IsChosenTo g q (Next next) (downs down) b.entry out.link.far links
  pub walk : Walk g q b.entry out.link.from links
  pub leads : LeadsTo g q next out
  pub below_cost : ℕ
  pub below : IsLeastBranch down out.link.to below_cost
  pub sum : b.cost ≡ cost q links + weight q.metric out.link + below_cost
  pub shown : b.segment ≡ segment_of b.entry links
  pub head : b.head ≡ Some out.link.to
  pub exit : b.exit ≡ out.link.far

abbrev pair_of : Best → Label
pair_of b = record { cost = b.cost; exit = b.exit }

pub ends_in : (g : Rows) (q : Query) (t : Addr) (seeds : List Seed) (b : Best) → IsLabel g q seeds b.entry (Some (pair_of b)) → seeds ≡ target_seed t ∷ [] →
    JoinsAt g q t b.entry (pair_of b) → b.head ≡ None → (links : List Link) → IsSegment g q seeds b.entry (pair_of b) links → b.segment ≡ segment_of b.entry links → EndsIn g q t b
ends_in g q t seeds b is are pair head links segment shown =
    let admits = walk_admits g q b.entry t pair.links pair.least.feasible.walk in
    let label : IsLabel g q (target_seed t ∷ []) b.entry (Some (pair_of b)) = subst (λ (ss : List Seed). IsLabel g q ss b.entry (Some (pair_of b))) are is in
    let leads = segment_leads g q seeds b.entry (pair_of b) links admits segment in
    let one : target_seed t ≡ leads.seed = elim (contains_cases (target_seed t) [] leads.seed (subst (λ (ss : List Seed). Contains ss leads.seed) are leads.is_seed)) [ inl same ↦ same | inr none ↦ absurd (contains_none leads.seed none) ] in
    let no_cost = ap (λ (s : Seed). s.cost) one in
    record {
      links = links;
      chosen = subst (λ (x : Addr). IsChosenTo g q (Node t) [] b.entry x links) pair.exit (record {
        seeds = target_seed t ∷ [];
        are_seeds = refl;
        cost = b.cost;
        label = label;
        segment = subst (λ (ss : List Seed). IsSegment g q ss b.entry (pair_of b) links) are segment;
      });
      walk = subst (λ (x : Addr). Walk g q b.entry x links) (ap (λ (s : Seed). s.node) (sym one)) leads.walk;
      sum = omega (arith, leads.sum, no_cost);
      shown = shown;
      head = head;
      exit = pair.exit;
    }

pub goes_on : (g : Rows) (q : Query) (next : As) (down : List Branch) (seeds : List Seed) (b : Best) → IsInOrder g → IsLabel g q seeds b.entry (Some (pair_of b)) →
    AreBorderSeeds g q next (beyond (downs down)) seeds → IsJoin g q next (beyond (downs down)) b.entry (Some (pair_of b)) →
    ((o : OutLink) × LeadsTo g q next o × (o.link.far ≡ b.exit) × (b.head ≡ Some o.link.to)) →
    (links : List Link) → IsSegment g q seeds b.entry (pair_of b) links → b.segment ≡ segment_of b.entry links → GoesOn g q next down b
goes_on g q next down seeds b order label are join head links segment shown =
    let admits = walk_admits g q b.entry join.0.out.link.from join.0.row.links join.0.row.least.feasible.walk in
    let leads = segment_leads g q seeds b.entry (pair_of b) links admits segment in
    let found = are.each leads.seed leads.is_seed in
    let out = found.0 in
    let seed = found.1 in
    let same : head.0 ≡ out = one_out g.outs order.outs head.0 out head.1.is_out seed.out.is_out (head.2 ∙ leads.exit ∙ seed.exit) in
    record {
      links = links;
      out = out;
      chosen = subst (λ (x : Addr). IsChosenTo g q (Next next) (downs down) b.entry x links) (leads.exit ∙ seed.exit) (record { seeds = seeds; are_seeds = are; cost = b.cost; label = label; segment = segment });
      walk = subst (λ (x : Addr). Walk g q b.entry x links) seed.node leads.walk;
      leads = seed.out;
      below_cost = seed.beyond;
      below = least_branch down out.link.to seed.beyond seed.is_down;
      sum = omega (arith, leads.sum, seed.sum);
      shown = shown;
      head = head.3 ∙ ap (λ (o : OutLink). let x : Option Addr = Some o.link.to in x) same;
      exit = leads.exit ∙ seed.exit;
    }

-- a best row of an ask
pub best_ends : (g : Rows) (a : Ask) (seeds : List Seed) (t : Addr) (b : Best) → AreSeedsTo g a.query a.down a.target seeds →
    a.target ≡ Node t → IsBest g a seeds b.entry b → EndsIn g a.query t b
best_ends g a seeds t b are target is =
    ends_in g a.query t seeds b is.label (subst (λ (x : Target). AreSeedsTo g a.query a.down x seeds) target are)
    (subst (λ (x : Target). IsPairTo g a.query a.down b.entry x (Some (pair_of b))) target is.pair)
    (subst (λ (x : Target). IsHead g a.query a.down x b.exit b.head) target is.is_head) is.links is.chosen is.shown

pub best_goes_on : (g : Rows) (a : Ask) (seeds : List Seed) (next : As) (down : List Branch) (b : Best) → IsInOrder g →
    AreSeedsTo g a.query a.down a.target seeds → a.target ≡ Next next → a.down ≡ downs down → IsBest g a seeds b.entry b → GoesOn g a.query next down b
best_goes_on g a seeds next down b order are target told is =
    let over : GoesOver g a.query next a.down b.exit b.head = subst (λ (x : Target). IsHead g a.query a.down x b.exit b.head) target is.is_head in
    goes_on g a.query next down seeds b order is.label
    (subst (λ (ds : List Down). AreBorderSeeds g a.query next (beyond ds) seeds) told (subst (λ (x : Target). AreSeedsTo g a.query a.down x seeds) target are))
    (subst (λ (ds : List Down). IsJoin g a.query next (beyond ds) b.entry (Some (pair_of b))) told (subst (λ (x : Target). IsPairTo g a.query a.down b.entry x (Some (pair_of b))) target is.pair))
    (over.out, over.least.out, over.is_exit, over.is_head) is.links is.chosen is.shown
