-- A border table has one join.
use Rattle.std.proofs.Common.{refl, ap, None, Some}
use Rattle.dom_base.specs.declared.query.Label.{Label}
use Rattle.walk_laws.specs.TableJoins.{OneTableJoin, OneTableEnd}
use Rattle.walk_laws.proofs.Tight.{le_antisym}

pub one_table_join : OneTableJoin
one_table_join cap table down entry None None one other = refl
one_table_join cap table down entry None (Some b) one other = absurd (one b other.0)
one_table_join cap table down entry (Some a) None one other = absurd (other a one.0)
one_table_join cap table down entry (Some a) (Some b) one other = ap (λ (c : Label). Some c) (le_antisym a b (one.1 b other.0) (other.1 a one.0))

pub one_table_end : OneTableEnd
one_table_end cap table entry None None one other = refl
one_table_end cap table entry None (Some b) one other = absurd (one b other.0)
one_table_end cap table entry (Some a) None one other = absurd (other a one.0)
one_table_end cap table entry (Some a) (Some b) one other = ap (λ (c : Label). Some c) (le_antisym a b (one.1 b other.0) (other.1 a one.0))
