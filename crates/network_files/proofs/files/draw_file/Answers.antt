use Rattle.std.proofs.Common.{subst}
use Rattle.te_links.specs.declared.rows.Parts.{Parts}
use Rattle.network_files.specs.DrawnFiles.{IsDrawn}
use Rattle.network_files.proofs.files.draw_file.Goals as goal

pub returns-clause-file : goal.returns-clause-file
returns-clause-file c = record {
  name = c.in_ok-file_name.ensures;
  topology = c.in_ok-topology.topology;
  drawn = subst (λ (p : Parts). IsDrawn p c.in_ok-topology.topology) c.in_ok-rows.ensures.rows c.in_ok-topology.ensures;
  text = c.in_ok-text.ensures.text;
}
