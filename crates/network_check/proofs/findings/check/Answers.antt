use Rattle.std.proofs.Common.{◌∙◌}
use Rattle.network_check.proofs.Shortness.{looks_short}
use Rattle.network_check.proofs.findings.check.Goals as goal

pub tell_findings-requires-clause-seen : goal.tell_findings-requires-clause-seen
tell_findings-requires-clause-seen g c =
    let found = c.in_ok-findings.ensures.found in
    looks_short (g.S.Store.files c.args.store.now) (found.between, g.S.Store.faults c.look.new.store) c.in_ok-findings.findings.seen found.seen.are_looks

pub returns-clause-report : goal.returns-clause-report
returns-clause-report g c = record {
  findings = c.in_ok-findings.findings;
  found = c.in_ok-findings.ensures.found;
  text = c.from_vec.ensures ∙ (rw (c.new-text.ensures.items, c.as_bytes.ensures.value) at c.in_ok-tell_findings.ensures);
  faulty = c.is_at_fault.ensures;
}
