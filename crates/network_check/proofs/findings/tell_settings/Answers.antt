use Rattle.network_check.proofs.findings.tell_settings.Goals as goal

pub returns-in-Faulty : goal.returns-in-Faulty
returns-in-Faulty c = rw c.in-Faulty.is (rw c.as_slice-in-Faulty.ensures at c.tell_faulty.ensures)
