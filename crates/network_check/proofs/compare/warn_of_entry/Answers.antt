use Rattle.network_check.proofs.compare.warn_of_entry.Goals as goal

pub returns : goal.returns
returns c = rw (c.lacks_out.ensures, c.as_bytes.ensures.value, c.as_str.ensures, c.from.ensures) at c.tell_if.ensures
