use Rattle.dom_base.specs.AddrText.{addr_text}
use Rattle.dom_base.proofs.addr_text.write_groups.Goals as goal

pub returns-clause-ok : goal.returns-clause-ok
unfolding addr_text
returns-clause-ok c = rw (c.four_texts-first.ensures, c.four_texts-second.ensures) at c.push_parts.ensures.ok
