-- From the labels over each way out to the rows of the border table.
use Rattle.std.proofs.Common.{◌≡◌, inl, inr, ℕ, ◌+◌, ◌<◌, ◌≤◌, List, [], ◌∷◌, ◌++◌, length, get_or, arith, refl, sym, ◌∙◌, ap, subst, Some, None}
use Rattle.std.specs.Prelude.{AllPairs, Contains, slice_get, option_map}
use Rattle.std.specs.List.{filter_map}
use Rattle.std.specs.declared.option.Option.{Option}
use Rattle.std.proofs.lemmas.Bool.{cases_lt}
use Rattle.std.proofs.lemmas.Option.{slice_get-get_or, slice_get_within, get_or_from_slice_get}
use Rattle.std.proofs.lemmas.List.Elements.{All-contains, Contains-append_left, Contains-append_right, Contains-append_cases, Contains-get_or, Contains-push}
use Rattle.dom_base.specs.AddrOrder.{rank}
use Rattle.dom_base.specs.declared.addr.Addr.{Addr}
use Rattle.dom_base.specs.declared.border.BorderRow.{BorderRow}
use Rattle.dom_base.specs.declared.link.Link.{Link}
use Rattle.dom_base.specs.declared.query.Query.{Query}
use Rattle.dom_base.specs.declared.query.Seed.{Seed}
use Rattle.dom_base.specs.declared.query.Label.{Label}
use Rattle.dom_base.specs.Admission.{weight}
use Rattle.te_links.specs.Rows.{Rows, IsInOrder}
use Rattle.walk_laws.specs.Walks.{AdmitsNode, Walk, IsFeasible, IsLeast, cost}
use Rattle.walk_laws.specs.Labels.{Reaches, IsLabel}
use Rattle.walk_laws.proofs.Admitted.{walk_admits}
use Rattle.walk_laws.proofs.Lower.{made, le_cost}
use Rattle.walk_laws.proofs.Joining.{least_to_seed, label_joins_at}
use Rattle.path_search.specs.Arcs.{label_at}
use Rattle.path_search.specs.Search.{AreLabels}
use Rattle.border_costs.specs.declared.job.Target.{Target}
use Rattle.border_costs.specs.declared.job.Target.TheVariants.{Node, Next}
use Rattle.border_costs.specs.declared.job.Ask.{Ask}
use Rattle.border_costs.specs.declared.ways.Way.{Way}
use Rattle.border_costs.specs.declared.table.Column.{Column}
use Rattle.border_costs.specs.Asks.{target_seed}
use Rattle.border_costs.specs.Tables.{IsRowTo, IsTableRow, IsRowBefore, IsBorderTable}
use Rattle.border_costs.specs.Ways.{IsWay, AreColumns, row_at, target_way}
use Rattle.border_costs.proofs.Picked.{one_of, mapped, unmapped, pairs_unmapped, picked_from, picked, picked_pairs, pairs_joined}

abbrev row_over : Addr → Way → ℕ → BorderRow
row_over n w c = record { entry = n; far = w.seed.exit; head = w.head; cost = c }

-- a label over a way is a row
row_of_label : (g : Rows) (q : Query) (target : Target) (w : Way) (n : Addr) (a : Label) → IsWay g q target w → IsLabel g q (w.seed ∷ []) n (Some a) → IsRowTo g q target (row_over n w a.cost)
row_of_label g q (Node t) w n a way is =
    let joins = label_joins_at g q t w.seed (ap (λ (v : Way). v.seed.node) way) (ap (λ (v : Way). v.seed.cost) way) (ap (λ (v : Way). v.seed.exit) way) n (Some a) is in
    record {
      links = joins.links;
      least = joins.least;
      sum = joins.sum;
      far = ap (λ (v : Way). v.seed.exit) way;
      head = ap (λ (v : Way). v.head) way;
    }
row_of_label g q (Next b) w n a way is =
    let r = is.0 in
    let o = way.0 in
    let over = way.1 in
    let same : w.seed ≡ r.seed = one_of w.seed r.seed r.is_seed in
    let node : r.seed.node ≡ o.link.from = ap (λ (s : Seed). s.node) (sym same) ∙ over.node in
    let sum : a.cost ≡ cost q r.links + weight q.metric o.link = omega (arith, r.sum, ap (λ (s : Seed). s.cost) same, over.cost) in
    record {
      out = o;
      row = record {
        out = over.out;
        links = r.links;
        least = subst (λ (m : Addr). IsLeast g q n m r.links) node (least_to_seed g q (w.seed ∷ []) n a is r);
        sum = sum;
        within = r.within;
      };
      far = over.exit;
      head = over.head;
    }

-- a least walk to the one seed, within the cap, makes the label
label_of_least : (g : Rows) (q : Query) (s : Seed) (u : Addr) (links : List Link) → IsLeast g q u s.node links → cost q links + s.cost ≤ q.cap →
    (o : Option Label) → IsLabel g q (s ∷ []) u o → (a : Label) × (o ≡ Some a) × (a.cost ≡ cost q links + s.cost)
label_of_least g q s u links least within o is = go o is
  where
    reached : Reaches g q (s ∷ []) u (made q links s)
    reached = record {
      seed = s;
      is_seed = Contains-push [] s;
      links = links;
      walk = least.feasible.walk;
      sum = refl;
      exit = refl;
      within = within;
    }

    go : (p : Option Label) → IsLabel g q (s ∷ []) u p → (a : Label) × (p ≡ Some a) × (a.cost ≡ cost q links + s.cost)
    go None none = absurd (none (made q links s) reached)
    go (Some a) found =
        let r = found.0 in
        let same : s ≡ r.seed = one_of s r.seed r.is_seed in
        let other : IsFeasible g q u s.node r.links = record {
          walk = subst (λ (m : Addr). Walk g q u m r.links) (ap (λ (t : Seed). t.node) (sym same)) r.walk;
          within = omega (arith, r.sum, r.within);
        } in
        let low : a.cost ≤ (made q links s).cost = le_cost a (made q links s) (found.1 (made q links s) reached) in
        let high : cost q links ≤ cost q r.links = least.least r.links other in
        (a, refl, omega (arith, low, high, r.sum, ap (λ (t : Seed). t.cost) same))

-- the way that a row goes by
record IsByWay (g : Rows) (q : Query) (target : Target) (r : BorderRow) : Type 0 where
  pub way : Way
  pub is_way : IsWay g q target way
  pub within : way.seed.cost ≤ q.cap
  pub far : way.seed.exit ≡ r.far
  pub head : way.head ≡ r.head
  pub label : (o : Option Label) → IsLabel g q (way.seed ∷ []) r.entry o → (a : Label) × (o ≡ Some a) × (a.cost ≡ r.cost)

way_of_row : (g : Rows) (q : Query) (target : Target) (r : BorderRow) → IsRowTo g q target r → IsByWay g q target r
way_of_row g q (Node t) r row = record {
  way = target_way t;
  is_way = refl;
  within = omega arith;
  far = sym row.far;
  head = sym row.head;
  label = λ o is.
      let found = label_of_least g q (target_seed t) r.entry row.links row.least (omega (arith, row.least.feasible.within)) o is in
      (found.0, found.1, omega (arith, found.2, row.sum));
}
way_of_row g q (Next b) r row =
    let o = row.out in
    let seed : Seed = record { node = o.link.from; cost = weight q.metric o.link; exit = o.link.far } in
    record {
      way = record { seed = seed; head = o.link.to };
      is_way = (o, record { out = row.row.out; node = refl; cost = refl; exit = refl; head = refl });
      within = omega (arith, row.row.sum, row.row.within);
      far = sym row.far;
      head = sym row.head;
      label = λ p is.
          let found = label_of_least g q seed r.entry row.row.links row.row.least (omega (arith, row.row.sum, row.row.within)) p is in
          (found.0, found.1, omega (arith, found.2, row.row.sum));
    }

-- a row begins at a node
row_admits : (g : Rows) (q : Query) (target : Target) (r : BorderRow) → IsRowTo g q target r → AdmitsNode g q r.entry
row_admits g q (Node t) r row = walk_admits g q r.entry t row.links row.least.feasible.walk
row_admits g q (Next b) r row = walk_admits g q r.entry row.out.link.from row.row.links row.row.least.feasible.walk

-- all rows of one node, in the order of their far addresses
pub record AreNodeRows (g : Rows) (q : Query) (target : Target) (n : Addr) (rows : List BorderRow) : Type 0 where
  pub each : (r : BorderRow) → Contains rows r → (r.entry ≡ n) × IsRowTo g q target r
  pub every : (r : BorderRow) → r.entry ≡ n → IsRowTo g q target r → Contains rows r
  pub rising : AllPairs (λ r s. rank r.far < rank s.far) rows

module _ (g : Rows) (q : Query) (target : Target) (columns : List Column) (are : AreColumns g q target columns) (place : ℕ) (n : Addr) (at : slice_get g.nodes place ≡ Some n) where
  label_in : (c : Column) → Contains columns c → IsLabel g q (c.way.seed ∷ []) n (label_at c.labels place)
  label_in c has = (All-contains (λ (d : Column). AreLabels g q (d.way.seed ∷ []) d.labels) columns c are.labels has).each place n at

  way_in : (c : Column) → Contains columns c → IsWay g q target c.way
  way_in c has = are.ways.each c.way (mapped (λ (d : Column). d.way) columns c has)

  node_row : (c : Column) → Contains columns c → (o : Option Label) → label_at c.labels place ≡ o → (r : BorderRow) →
      option_map (λ (a : Label). row_over n c.way a.cost) o ≡ Some r → (r.entry ≡ n) × IsRowTo g q target r
  node_row c has None label r is = absurd cc
  node_row c has (Some a) label r is =
      let same : row_over n c.way a.cost ≡ r = cc in
      subst (λ (s : BorderRow). (s.entry ≡ n) × IsRowTo g q target s) same
      (refl, row_of_label g q target c.way n a (way_in c has) (subst (IsLabel g q (c.way.seed ∷ []) n) label (label_in c has)))

  row_far : (c : Column) (o : Option Label) (r : BorderRow) → option_map (λ (a : Label). row_over n c.way a.cost) o ≡ Some r → r.far ≡ c.way.seed.exit
  row_far c None r is = absurd cc
  row_far c (Some a) r is =
      let same : row_over n c.way a.cost ≡ r = cc in
      ap (λ (s : BorderRow). s.far) (sym same)

  node_every : (r : BorderRow) → r.entry ≡ n → IsRowTo g q target r → Contains (filter_map (row_at place n) columns) r
  node_every r entry row =
      let by = way_of_row g q target r row in
      let column = unmapped (λ (d : Column). d.way) columns by.way (are.ways.every by.way by.is_way by.within) in
      let c = column.0 in
      let label : IsLabel g q (by.way.seed ∷ []) r.entry (label_at c.labels place) =
      subst (λ (m : Addr). IsLabel g q (by.way.seed ∷ []) m (label_at c.labels place)) (sym entry)
      (subst (λ (w : Way). IsLabel g q (w.seed ∷ []) n (label_at c.labels place)) column.2 (label_in c column.1)) in
      let found = by.label (label_at c.labels place) label in
      let make : Addr → Addr → Addr → ℕ → BorderRow = λ e f h k. record { entry = e; far = f; head = h; cost = k } in
      let same : row_over n c.way found.0.cost ≡ r =
      ap (λ e. make e c.way.seed.exit c.way.head found.0.cost) (sym entry)
      ∙ ap (λ f. make r.entry f c.way.head found.0.cost) (ap (λ (w : Way). w.seed.exit) column.2 ∙ by.far)
      ∙ ap (λ h. make r.entry r.far h found.0.cost) (ap (λ (w : Way). w.head) column.2 ∙ by.head)
      ∙ ap (λ k. make r.entry r.far r.head k) found.2 in
      picked (row_at place n) columns c r column.1 (ap (option_map (λ (a : Label). row_over n c.way a.cost)) found.1 ∙ ap Some same)

  pub node_rows : AreNodeRows g q target n (filter_map (row_at place n) columns)
  node_rows = record {
    each = λ r has. let found = picked_from (row_at place n) columns r has in node_row found.0 found.1 (label_at found.0.labels place) refl r found.2;
    every = node_every;
    rising = picked_pairs (λ (c d : Column). rank c.way.seed.exit < rank d.way.seed.exit) (λ (r s : BorderRow). rank r.far < rank s.far) (row_at place n)
        (λ c d r s less is_r is_s.
        omega (arith, less, ap rank (row_far c (label_at c.labels place) r is_r), ap rank (row_far d (label_at d.labels place) s is_s)))
        columns (pairs_unmapped (λ (v w : Way). rank v.seed.exit < rank w.seed.exit) (λ (c : Column). c.way) columns are.ways.rising);
  }

-- the rows of the first i nodes
pub record IsTableUpTo (g : Rows) (ask : Ask) (i : ℕ) (rows : List BorderRow) : Type 0 where
  pub each : (r : BorderRow) → Contains rows r → IsTableRow g ask r × ((k : ℕ) × (k < i) × (slice_get g.nodes k ≡ Some r.entry))
  pub every : (k : ℕ) (r : BorderRow) → k < i → slice_get g.nodes k ≡ Some r.entry → IsTableRow g ask r → Contains rows r
  pub order : AllPairs IsRowBefore rows

module _ (g : Rows) (ask : Ask) where
  pub no_rows : IsTableUpTo g ask 0 []
  no_rows = record {
    each = λ r has. absurd (omega (arith, has.1));
    every = λ k r below at is. absurd (omega (arith, below));
    order = λ i j d before below. absurd (omega (arith, below));
  }

  nodes_rise : IsInOrder g → (k i : ℕ) (m n : Addr) → slice_get g.nodes k ≡ Some m → slice_get g.nodes i ≡ Some n → k < i → rank m < rank n
  nodes_rise order k i m n at_m at_n before =
      let rise = order.nodes k i m before (slice_get_within g.nodes i n at_n) in
      omega (arith, rise, ap rank (get_or_from_slice_get g.nodes k m m at_m), ap rank (get_or_from_slice_get g.nodes i n m at_n))

  same_node : (k i : ℕ) (m n : Addr) → slice_get g.nodes k ≡ Some m → slice_get g.nodes i ≡ Some n → k ≡ i → m ≡ n
  same_node k i m n at_m at_n here =
      let both : Some m ≡ Some n = sym at_m ∙ ap (slice_get g.nodes) here ∙ at_n in
      cc

  pub rows_added : IsInOrder g → (i : ℕ) (n : Addr) (rows more : List BorderRow) → IsTableUpTo g ask i rows → slice_get g.nodes i ≡ Some n → Contains ask.entries n →
      AreNodeRows g ask.query ask.target n more → IsTableUpTo g ask (i + 1) (rows ++ more)
  rows_added order i n rows more are at entry new = record {
    each = λ r has.
        elim (Contains-append_cases rows more r has) [
          | inl before ↦ (let old = are.each r before in (old.0, (old.1.0, omega (arith, old.1.1), old.1.2)))
          | inr there ↦
              let is = new.each r there in
              (record { entry = subst (Contains ask.entries) (sym is.0) entry; row = is.1 }, (i, omega arith, at ∙ ap Some (sym is.0)))
        ];
    every = λ k r below at_r is.
        elim (cases_lt k i) [
          | inl before ↦ Contains-append_left rows more r (are.every k r before at_r is)
          | inr past ↦ Contains-append_right rows more r (new.every r (same_node k i r.entry n at_r at (omega (arith, past, below))) is.row)
        ];
    order = pairs_joined IsRowBefore rows more are.order
        (λ k j d before below.
        let first = new.each (get_or more k d) (Contains-get_or more k d (omega arith)) in
        let second = new.each (get_or more j d) (Contains-get_or more j d below) in
        inr (first.0 ∙ sym second.0, new.rising k j d before below))
        (λ r s has there.
        let old = are.each r has in
        let is = new.each s there in
        inl (omega (arith, nodes_rise order old.1.0 i r.entry n old.1.2 at old.1.1, ap rank is.0)));
  }

  pub rows_left : (i : ℕ) (n : Addr) (rows : List BorderRow) → IsTableUpTo g ask i rows → slice_get g.nodes i ≡ Some n → ¬ Contains ask.entries n → IsTableUpTo g ask (i + 1) rows
  rows_left i n rows are at lacks = record {
    each = λ r has. let old = are.each r has in (old.0, (old.1.0, omega (arith, old.1.1), old.1.2));
    every = λ k r below at_r is.
        elim (cases_lt k i) [
          | inl before ↦ are.every k r before at_r is
          | inr past ↦ absurd (lacks (subst (Contains ask.entries) (same_node k i r.entry n at_r at (omega (arith, past, below))) is.entry))
        ];
    order = are.order;
  }

  pub all_rows : (i : ℕ) (rows : List BorderRow) → IsTableUpTo g ask i rows → length g.nodes ≤ i → IsBorderTable g ask rows
  all_rows i rows are whole = record {
    each = λ r has. (are.each r has).0;
    every = λ r is.
        let has = (row_admits g ask.query ask.target r is.row).is_node in
        are.every has.0 r (omega (arith, has.1, whole)) (slice_get-get_or g.nodes has.0 r.entry has.1 ∙ ap Some has.2) is;
    order = are.order;
  }
