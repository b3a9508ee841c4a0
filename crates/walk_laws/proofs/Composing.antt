-- Over right rows beyond the border, the join is the least of the whole list of domains.
use Rattle.std.proofs.Common.{◌≡◌, ◌⊎◌, inl, inr, ℕ, zero, suc, ◌+◌, ◌<◌, ◌≤◌, List, [], ◌∷◌, arith, refl, ap, subst, None, Some}
use Rattle.std.specs.Prelude.{Contains}
use Rattle.std.specs.declared.option.Option.{Option}
use Rattle.std.proofs.lemmas.Bool.{cases_lt, cases_eq}
use Rattle.std.proofs.lemmas.List.Elements.{Contains-push, Contains-push_cases, Contains-append_left, Contains-append_right, Contains-append_cases}
use Rattle.dom_base.specs.AddrOrder.{rank}
use Rattle.dom_base.proofs.Ranks.{same_addr}
use Rattle.dom_base.specs.declared.addr.Addr.{Addr}
use Rattle.dom_base.specs.declared.names.As.{As}
use Rattle.dom_base.specs.declared.link.Link.{Link}
use Rattle.dom_base.specs.declared.query.Query.{Query}
use Rattle.dom_base.specs.declared.query.Label.{Label}
use Rattle.dom_base.specs.Admission.{weight}
use Rattle.te_links.specs.Rows.{Rows}
use Rattle.walk_laws.specs.Walks.{Walk, IsFeasible, IsLeast, cost}
use Rattle.walk_laws.specs.Crossing.{Leg, Goal, At, Told, Last, Links, Over, Crosses, crossing_cost, query_in, IsFeasibleCrossing}
use Rattle.walk_laws.specs.Borders.{LeadsTo, Beyond, IsDown, Joins, IsJoin, IsJoinAt}
use Rattle.walk_laws.specs.Composition.{AreBeyond, IsLeastOf}
use Rattle.walk_laws.proofs.Lower.{le_cost}

-- where a walk is feasible there is none without a least one that costs no more
pub least_exists : (g : Rows) (q : Query) (u v : Addr) (n : ℕ) (ls : List Link) → cost q ls < n → IsFeasible g q u v ls →
    ¬ ((ms : List Link) → IsLeast g q u v ms → ¬ (cost q ms ≤ cost q ls))
least_exists g q u v zero ls below f none = absurd (omega (arith, below))
least_exists g q u v (suc n) ls below f none =
    let least : (other : List Link) → IsFeasible g q u v other → cost q ls ≤ cost q other =
    λ other fo.
    elim (cases_lt (cost q other) (cost q ls)) [
      | inr no_less ↦ omega (arith, no_less)
      | inl less ↦ absurd (least_exists g q u v n other (omega (arith, less, below)) fo (λ ms is le. none ms is (omega (arith, le, less))))
    ] in
    none ls (record { feasible = f; least = least }) (omega arith)

abbrev HasRow : List Beyond → Addr → Type 0
HasRow down n = (c : ℕ) × Contains down (record { node = n; cost = c })

-- the rows have one of a node, or none
row_or_none : (down : List Beyond) (n : Addr) → HasRow down n ⊎ ((c : ℕ) → ¬ Contains down (record { node = n; cost = c }))
row_or_none [] n = inr (λ c has. absurd (omega (arith, has.1)))
row_or_none (row ∷ rows) n =
    let make : Addr → Beyond = λ m. record { node = m; cost = row.cost } in
    elim (cases_eq (rank row.node) (rank n)) [
      | inl same ↦ inl (row.cost, subst (λ (m : Addr). Contains (row ∷ rows) (make m)) (same_addr row.node n same) (Contains-append_left (row ∷ []) rows row (Contains-push [] row)))
      | inr other ↦ elim (row_or_none rows n) [
        | inl found ↦ inl (found.0, Contains-append_right (row ∷ []) rows (record { node = n; cost = found.0 }) found.1)
        | inr none ↦ inr (λ c has. elim (Contains-append_cases (row ∷ []) rows (record { node = n; cost = c }) has) [
          | inr later ↦ none c later
          | inl first ↦ elim (Contains-push_cases [] row (record { node = n; cost = c }) first) [
            | inl nothing ↦ absurd (omega (arith, nothing.1))
            | inr is ↦ other (ap (λ (b : Beyond). rank b.node) is)
          ]
        ])
      ]
    ]

-- where a node has a row there is none without a least one of it that costs no more
pub least_row_exists : (down : List Beyond) (n : Addr) (bound c : ℕ) → c < bound → Contains down (record { node = n; cost = c }) →
    ¬ ((d : ℕ) → IsDown down n d → ¬ (d ≤ c))
least_row_exists down n zero c below has none = absurd (omega (arith, below))
least_row_exists down n (suc bound) c below has none =
    let least : (d : ℕ) → Contains down (record { node = n; cost = d }) → c ≤ d =
    λ d other.
    elim (cases_lt d c) [
      | inr no_less ↦ omega (arith, no_less)
      | inl less ↦ absurd (least_row_exists down n bound d (omega (arith, less, below)) other (λ e is le. none e is (omega (arith, le, less))))
    ] in
    none c (record { is_row = has; least = least }) (omega arith)

module _ (g : Rows) (q : Query) (next : As) (down : List Beyond) (entry : Addr) where
  -- a walk to the tail of an out link costs, with the least row of its head, no less than every join
  pub some_join_over : (leg : Leg) (c : ℕ) → Walk g q entry leg.out.link.from leg.links → LeadsTo g q next leg.out → IsDown down leg.out.link.to c →
      cost q leg.links + weight q.metric leg.out.link + c ≤ q.cap →
      ¬ ((b : Label) → Joins g q next down entry b → ¬ (b.cost ≤ cost q leg.links + weight q.metric leg.out.link + c))
  some_join_over leg c walk out is_down within none =
      let inner : IsFeasible g q entry leg.out.link.from leg.links = record { walk = walk; within = omega (arith, within) } in
      least_exists g q entry leg.out.link.from (suc (cost q leg.links)) leg.links (omega arith) inner
      (λ ms least no_more.
      let total : ℕ = cost q ms + weight q.metric leg.out.link in
      let fits : total + c ≤ q.cap = omega (arith, no_more, within) in
      none (record { cost = total + c; exit = leg.out.link.far })
      (record {
        out = leg.out;
        total = total;
        row = record { out = out; links = ms; least = least; sum = refl; within = omega (arith, fits) };
        beyond = c;
        is_down = is_down;
        sum = refl;
        exit = refl;
        within = fits;
      })
      (omega (arith, no_more)))

-- Where each pair of a join is a feasible crossing walk, and none costs less than every pair, the join is the least of them.
module _ (q : Query) (g : Rows) (rest : List Rows) (next : As) (down : List Beyond) (entry : Addr) (goal : Goal)
    (crossing : (a : Label) → Joins g (query_in q g.own) next down entry a →
    (legs : List Leg) × (last : Last) × IsFeasibleCrossing q g rest entry goal legs last × (a.cost ≡ crossing_cost q legs last))
    (some_join : (legs : List Leg) (last : Last) → IsFeasibleCrossing q g rest entry goal legs last →
    ¬ ((b : Label) → Joins g (query_in q g.own) next down entry b → ¬ (b.cost ≤ crossing_cost q legs last))) where
  least_of : (o : Option Label) → IsJoin g (query_in q g.own) next down entry o → IsLeastOf q g rest entry goal o
  least_of None none = λ legs last f. some_join legs last f (λ b j le. none b j)
  least_of (Some a) is =
      let way = crossing a is.0 in
      record {
        legs = way.0;
        last = way.1;
        least = record {
          feasible = way.2;
          least = λ other end f.
              elim (cases_lt (crossing_cost q other end) (crossing_cost q way.0 way.1)) [
                | inr no_less ↦ omega (arith, no_less)
                | inl less ↦ absurd (some_join other end f (λ b j le. let low : a.cost ≤ b.cost = le_cost a b (is.1 b j) in absurd (omega (arith, low, le, less, way.3))))
              ];
        };
        is = way.3;
      }

module _ (q : Query) (g h : Rows) (rest : List Rows) (goal : Goal) (down : List Beyond) (are : AreBeyond q g.own h rest goal down) (entry : Addr) where
  -- a row of a node is the least of its rows
  row_is_down : (n : Addr) (c : ℕ) → Contains down (record { node = n; cost = c }) → IsDown down n c
  row_is_down n c has = record {
    is_row = has;
    least = λ d other.
        let a = (are.each n c has).1 in
        let b = (are.each n d other).1 in
        let low : crossing_cost q a.legs a.last ≤ crossing_cost q b.legs b.last = a.least.least b.legs b.last b.least.feasible in
        omega (arith, a.is, b.is, low);
  }

  -- no feasible crossing walk costs less than every join
  some_join : (legs : List Leg) (last : Last) → IsFeasibleCrossing q g (h ∷ rest) entry goal legs last →
      ¬ ((b : Label) → Joins g (query_in q g.own) h.own down entry b → ¬ (b.cost ≤ crossing_cost q legs last))
  some_join [] last f none = absurd f.walk
  some_join (leg ∷ legs) last f none =
      let crosses : Crosses g h q leg.out = f.walk.1 in
      let n = leg.out.link.to in
      let onward : IsFeasibleCrossing q h rest n goal legs last = record { walk = f.walk.2; within = omega (arith, f.within) } in
      elim (row_or_none down n) [
        | inr lacks ↦ are.absent n crosses.entry lacks legs last onward
        | inl found ↦
            let c = found.0 in
            let right = (are.each n c found.1).1 in
            let low : crossing_cost q right.legs right.last ≤ crossing_cost q legs last = right.least.least legs last onward in
            let out : LeadsTo g (query_in q g.own) h.own leg.out = record { is_out = crosses.is_out; towards = crosses.towards; allowed = crosses.allowed } in
            some_join_over g (query_in q g.own) h.own down entry leg c f.walk.0 out (row_is_down n c found.1) (omega (arith, low, right.is, f.within))
            (λ b j le. none b j (omega (arith, le, low, right.is)))
      ]

  -- a join is a feasible crossing walk
  is_crossing : (a : Label) → Joins g (query_in q g.own) h.own down entry a →
      (legs : List Leg) × (last : Last) × IsFeasibleCrossing q g (h ∷ rest) entry goal legs last × (a.cost ≡ crossing_cost q legs last)
  is_crossing a j =
      let o = j.out in
      let out = j.row.out in
      let beyond = are.each o.link.to j.beyond j.is_down.is_row in
      let onward = beyond.1 in
      let sum : a.cost ≡ cost (query_in q g.own) j.row.links + weight q.metric o.link + crossing_cost q onward.legs onward.last = omega (arith, j.sum, j.row.sum, onward.is) in (
        record { links = j.row.links; out = o } ∷ onward.legs,
        onward.last,
        record {
          walk = (
            j.row.least.feasible.walk,
            record { is_out = out.is_out; towards = out.towards; allowed = out.allowed; entry = beyond.0 },
            onward.least.feasible.walk,
          );
          within = omega (arith, sum, j.within);
        },
        sum,
      )

  pub composes : (o : Option Label) → IsJoin g (query_in q g.own) h.own down entry o → IsLeastOf q g (h ∷ rest) entry goal o
  composes = least_of q g (h ∷ rest) h.own down entry goal is_crossing some_join

-- over rows that were told of the domain beyond the last
module _ (q : Query) (g : Rows) (next : As) (down : List Beyond) (entry : Addr) where
  some_report : (legs : List Leg) (last : Last) → IsFeasibleCrossing q g [] entry (Told next down) legs last →
      ¬ ((b : Label) → Joins g (query_in q g.own) next down entry b → ¬ (b.cost ≤ crossing_cost q legs last))
  some_report (leg ∷ legs) last f none = absurd f.walk
  some_report [] (Links last) f none = absurd f.walk
  some_report [] (Over leg c) f none =
      least_row_exists down leg.out.link.to (suc c) c (omega arith) f.walk.2
      (λ d is_down le.
      some_join_over g (query_in q g.own) next down entry leg d f.walk.0 f.walk.1 is_down (omega (arith, le, f.within))
      (λ b j low. none b j (omega (arith, low, le))))

  is_report : (a : Label) → Joins g (query_in q g.own) next down entry a →
      (legs : List Leg) × (last : Last) × IsFeasibleCrossing q g [] entry (Told next down) legs last × (a.cost ≡ crossing_cost q legs last)
  is_report a j =
      let sum : a.cost ≡ cost (query_in q g.own) j.row.links + weight q.metric j.out.link + j.beyond = omega (arith, j.sum, j.row.sum) in (
        [],
        Over (record { links = j.row.links; out = j.out }) j.beyond,
        record { walk = (j.row.least.feasible.walk, j.row.out, j.is_down.is_row); within = omega (arith, sum, j.within) },
        sum,
      )

  pub reports : (o : Option Label) → IsJoin g (query_in q g.own) next down entry o → IsLeastOf q g [] entry (Told next down) o
  reports = least_of q g [] next down entry (Told next down) is_report some_report

-- in the last domain a crossing walk to a node is an inner walk
pub ends : (q : Query) (g : Rows) (entry t : Addr) (o : Option Label) → IsJoinAt g (query_in q g.own) t entry o → IsLeastOf q g [] entry (At t) o
ends q g entry t None none = go
  where
    go : (legs : List Leg) (last : Last) → ¬ IsFeasibleCrossing q g [] entry (At t) legs last
    go [] (Links last) f = none last (record { walk = f.walk; within = f.within })
    go [] (Over leg c) f = absurd f.walk
    go (leg ∷ legs) last f = absurd f.walk
ends q g entry t (Some a) is = record {
  legs = [];
  last = Links is.links;
  least = record {
    feasible = record { walk = is.least.feasible.walk; within = is.least.feasible.within };
    least = go;
  };
  is = is.sum;
}
  where
    go : (other : List Leg) (end : Last) → IsFeasibleCrossing q g [] entry (At t) other end → crossing_cost q [] (Links is.links) ≤ crossing_cost q other end
    go [] (Links end) f = is.least.least end (record { walk = f.walk; within = f.within })
    go [] (Over leg c) f = absurd f.walk
    go (leg ∷ legs) end f = absurd f.walk
