use Rattle.network_check.proofs.rows.tell_lack.Goals as goal

pub returns-in-Must : goal.returns-in-Must
returns-in-Must c = rw c.in-Must.is (rw (c.as_bytes.ensures.value, c.line_of_row-line.ensures) at c.tell_kind.ensures)
