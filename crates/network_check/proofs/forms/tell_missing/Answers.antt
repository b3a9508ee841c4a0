use Rattle.network_check.proofs.forms.tell_missing.Goals as goal

pub returns : goal.returns
returns c = rw (c.name_of.ensures, c.allowed_at.ensures) at c.tell.ensures
