use Rattle.std.proofs.Common.{◌++◌, ◌∷◌, [], ◌∙◌, ap, arith}
use Rattle.te_text.specs.declared.row.TextRow.TheVariants as rows
use Rattle.te_deltas.proofs.GatherLemmas.{map_further, map_whole}
use Rattle.te_deltas.proofs.rows.push_links.Goals as goal

pub loop-i-preserved : goal.loop-i-preserved
loop-i-preserved c =
    let so_far = c.loop-i.invariant in
    record {
      whole = so_far.whole;
      rows = map_further (λ x. rows.Link x) c.args.topology.now.links c.loop-i.i c.link_at.result.now c.args.into.now.items c.loop-i.into.items c.push.new.self.items c.link_at.ensures so_far.rows (c.in_ok-push.ensures.items ∙ ap (λ x. c.loop-i.into.items ++ rows.Link x ∷ []) c.in_ok-copy.ensures);
    }

pub returns : goal.returns
returns c = map_whole (λ x. rows.Link x) c.args.topology.now.links c.loop-i.i c.args.into.now.items c.loop-i.into.items (omega (arith, c.loop-i.invariant.whole)) c.loop-i.invariant.rows
