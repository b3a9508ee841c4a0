use Rattle.dom_base.proofs.Ranks.{same_v4, same_v6, other_kind, other_kind_back}
use Rattle.dom_base.proofs.addr.same.Goals as goal

pub returns-in-V4-V4 : goal.returns-in-V4-V4
returns-in-V4-V4 c = rw (c.in-V4-V4.is-0, c.in-V4-V4.is-1) (same_v4 c.in-V4-V4.m c.in-V4-V4.n)

pub returns-in-V6-V6 : goal.returns-in-V6-V6
returns-in-V6-V6 c = rw (c.in-V6-V6.is-0, c.in-V6-V6.is-1) (same_v6 c.in-V6-V6.m c.in-V6-V6.n)

pub returns-in_default : goal.returns-in_default
returns-in_default c = rw (c.in_default.is-0, c.in_default.is-1) (other_kind c.in_default.field-0-0 c.in_default.field-0-1)

pub returns-in_default-2 : goal.returns-in_default-2
returns-in_default-2 c = rw (c.in_default.is-0, c.in_default.is-1) (other_kind_back c.in_default.field-0-1 c.in_default.field-0-0)
