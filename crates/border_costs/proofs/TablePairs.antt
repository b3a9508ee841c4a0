-- The pairs of an ask are the joins of its border table.
use Rattle.std.proofs.Common.{◌≡◌, suc, List, Option, Some, None, sym, ◌∙◌, ap, subst, inr, refl, arith}
use Rattle.std.specs.Prelude.{Contains, ◌↔◌}
use Rattle.dom_base.specs.AddrOrder.{rank}
use Rattle.dom_base.specs.declared.addr.Addr.{Addr}
use Rattle.dom_base.specs.declared.names.As.{As}
use Rattle.dom_base.specs.declared.border.BorderRow.{BorderRow}
use Rattle.dom_base.specs.declared.link.Link.{Link}
use Rattle.dom_base.specs.declared.query.Query.{Query}
use Rattle.dom_base.specs.declared.query.Label.{Label}
use Rattle.te_links.specs.Rows.{Rows}
use Rattle.walk_laws.specs.Walks.{IsLeast, cost}
use Rattle.walk_laws.specs.Borders.{Beyond, IsDown, IsBorderRow, Joins, IsJoin, IsJoinAt}
use Rattle.walk_laws.specs.TableJoins.{RowJoins, RowEnds, IsTableJoin, IsTableEnd}
use Rattle.walk_laws.proofs.Composing.{least_exists}
use Rattle.border_costs.specs.declared.job.Target.{Target}
use Rattle.border_costs.specs.declared.job.Target.TheVariants.{Node, Next}
use Rattle.border_costs.specs.declared.job.Down.{Down}
use Rattle.border_costs.specs.Asks.{beyond, IsPairTo}
use Rattle.border_costs.specs.Tables.{IsRowTo, IsRowAt}
use Rattle.border_costs.specs.Composing.{IsTableJoinTo, TableTellsPairs}

-- the table has the rows of an entry to a target, and no others
record Tells (g : Rows) (q : Query) (table : List BorderRow) (entry : Addr) (to : Target) : Type 0 where
  each : (r : BorderRow) → Contains table r → IsRowTo g q to r
  every : (r : BorderRow) → r.entry ≡ entry → IsRowTo g q to r → Contains table r

module _ (g : Rows) (q : Query) (table : List BorderRow) (entry : Addr) (b : As) (tells : Tells g q table entry (Next b)) (down : List Beyond) where
  over : (a : Label) → Joins g q b down entry a → RowJoins q.cap table down entry a
  over a j =
      let r : BorderRow = record { entry = entry; far = j.out.link.far; head = j.out.link.to; cost = j.total } in
      record {
        row = r;
        is_row = tells.every r refl (record { out = j.out; row = j.row; far = refl; head = refl });
        at_entry = refl;
        beyond = j.beyond;
        is_down = j.is_down;
        sum = j.sum;
        exit = j.exit;
        within = j.within;
      }

  back : (a : Label) → RowJoins q.cap table down entry a → Joins g q b down entry a
  back a r =
      let row = tells.each r.row r.is_row in
      record {
        out = row.out;
        total = r.row.cost;
        row = subst (λ (e : Addr). IsBorderRow g q b e row.out r.row.cost) r.at_entry row.row;
        beyond = r.beyond;
        is_down = subst (λ (n : Addr). IsDownOf n) row.head r.is_down;
        sum = r.sum;
        exit = r.exit ∙ row.far;
        within = r.within;
      }
    where
      IsDownOf : Addr → Type 0
      IsDownOf n = IsDown down n r.beyond

  at_border : (o : Option Label) → IsJoin g q b down entry o ↔ IsTableJoin q.cap table down entry o
  at_border None = (λ none a r. none a (back a r), λ none a j. none a (over a j))
  at_border (Some a) = (λ is. (over a is.0, λ c r. is.1 c (back c r)), λ is. (back a is.0, λ c j. is.1 c (over c j)))

module _ (g : Rows) (q : Query) (table : List BorderRow) (entry t : Addr) (tells : Tells g q table entry (Node t)) where
  row_of : (links : List Link) → IsLeast g q entry t links → RowEnds q.cap table entry (record { cost = cost q links; exit = t })
  row_of links least =
      let r : BorderRow = record { entry = entry; far = t; head = t; cost = cost q links } in
      record {
        row = r;
        is_row = tells.every r refl (record { links = links; least = least; sum = refl; far = refl; head = refl });
        at_entry = refl;
        sum = refl;
        exit = refl;
        within = least.feasible.within;
      }

  least_of : (r : BorderRow) → r.entry ≡ entry → (row : IsRowAt g q t r) → IsLeast g q entry t row.links
  least_of r at row = subst (λ (e : Addr). IsLeast g q e t row.links) at row.least

  in_last : (o : Option Label) → IsJoinAt g q t entry o ↔ IsTableEnd q.cap table entry o
  in_last None = (
    λ none a r. (let row = tells.each r.row r.is_row in none row.links (least_of r.row r.at_entry row).feasible),
    λ none links f. least_exists g q entry t (suc (cost q links)) links (omega arith) f (λ ms least le. none (record { cost = cost q ms; exit = t }) (row_of ms least)),
  )
  in_last (Some a) = (
    λ is. (
      (let r = row_of is.links is.least in record { row = r.row; is_row = r.is_row; at_entry = r.at_entry; sum = is.sum ∙ r.sum; exit = is.exit ∙ r.exit; within = omega (arith, is.sum, r.within) }),
      λ b r.
          (let row = tells.each r.row r.is_row in
          let least = least_of r.row r.at_entry row in
          let one = is.least.least row.links least.feasible in
          let other = least.least is.links is.least.feasible in
          inr (omega (arith, is.sum, r.sum, row.sum, one, other), omega (arith, ap rank is.exit, ap rank r.exit, ap rank row.far))),
    ),
    λ is.
        (let row = tells.each is.0.row is.0.is_row in
        record { links = row.links; least = least_of is.0.row is.0.at_entry row; sum = is.0.sum ∙ row.sum; exit = is.0.exit ∙ row.far }),
  )

to_target : (g : Rows) (q : Query) (down : List Down) (table : List BorderRow) (entry : Addr) (to : Target) → Tells g q table entry to →
    (o : Option Label) → IsPairTo g q down entry to o ↔ IsTableJoinTo q.cap table down entry to o
to_target g q down table entry (Node t) tells o = in_last g q table entry t tells o
to_target g q down table entry (Next b) tells o = at_border g q table entry b tells (beyond down) o

pub table_tells_pairs : TableTellsPairs
table_tells_pairs g a table is entry inside o =
    to_target g a.query a.down table entry a.target
    (record {
      each = λ r there. (is.each r there).row;
      every = λ r at row. is.every r (record { entry = subst (λ (e : Addr). Contains a.entries e) (sym at) inside; row = row });
    })
    o
