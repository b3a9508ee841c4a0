use Rattle.std.proofs.Common.{refl, ◌∙◌}
use Rattle.border_costs.proofs.Labelling.{certified}
use Rattle.border_costs.proofs.labelled.certificate_of.Goals as goal

pub returns : goal.returns
returns g c =
    let rows = g.G.Links.rows c.args.links.now in
    record {
      own = refl;
      labels = c.args.labels.now;
      are_labels = c.requires;
      rows = c.from_vec.ensures ∙ c.in_ok-rows.ensures;
      certifies = rw (c.from_vec.ensures ∙ c.in_ok-rows.ensures) (certified rows c.args.ask.now.query c.args.seeds.now c.args.labels.now c.requires);
      path = refl;
    }
