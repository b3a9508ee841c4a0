use Rattle.std.proofs.Common.{ℕ, List, ◌++◌, ap, ◌∙◌}
use Rattle.std.specs.List.{flat_map}
use Rattle.line_text.specs.Spelling.{line_text}
use Rattle.te_text.specs.declared.row.TextRow.TheVariants as rows
use Rattle.te_text.specs.TopologyText.{header_words}
use Rattle.te_text.specs.Spelled.{row_text}
use Rattle.te_text.proofs.Listing.{whole_text}
use Rattle.te_text.proofs.ReadAgain.{reads_again, reads_only}
use Rattle.te_text.proofs.write.write_topology.Goals as goal

pub returns-clause-text : goal.returns-clause-text
returns-clause-text c =
    let t = c.args.topology.now in
    c.from_vec.ensures ∙ c.in_ok-write_entries.ensures.ok
    ∙ ap (λ (v : List ℕ). v ++ flat_map (λ e. row_text (rows.Entry e)) t.entries) (c.in_ok-write_outs.ensures.ok
    ∙ ap (λ (v : List ℕ). v ++ flat_map (λ o. row_text (rows.Out o)) t.outs) (c.in_ok-write_links.ensures.ok
    ∙ ap (λ (v : List ℕ). v ++ flat_map (λ l. row_text (rows.Link l)) t.links) (c.in_ok-write_nodes.ensures.ok
    ∙ ap (λ (v : List ℕ). v ++ flat_map (λ n. row_text (rows.Node n)) t.nodes) (rw c.own.ensures.own at c.in_ok-write_header.ensures.ok
    ∙ ap (λ (v : List ℕ). v ++ line_text (header_words t.own)) c.new-into.ensures.items))))
    ∙ whole_text t

pub returns-clause-again : goal.returns-clause-again
returns-clause-again c =
    reads_again c.args.topology.now
    (record {
      header = rw c.own.ensures.own at c.in_ok-write_header.ensures.again;
      nodes = c.in_ok-write_nodes.ensures.again;
      links = c.in_ok-write_links.ensures.again;
      outs = c.in_ok-write_outs.ensures.again;
      entries = c.in_ok-write_entries.ensures.again;
    })
    c.own.ensures.rules

pub returns-clause-only : goal.returns-clause-only
returns-clause-only c =
    reads_only c.args.topology.now
    (record {
      header = rw c.own.ensures.own at c.in_ok-write_header.ensures.again;
      nodes = c.in_ok-write_nodes.ensures.again;
      links = c.in_ok-write_links.ensures.again;
      outs = c.in_ok-write_outs.ensures.again;
      entries = c.in_ok-write_entries.ensures.again;
    })
    c.own.ensures.rules c.own.ensures.order
