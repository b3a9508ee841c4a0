use Rattle.one_domain.proofs.Shown.{labelled, path_is}
use Rattle.one_domain.proofs.certifying.certificate_of.Goals as goal

pub chosen_of-requires : goal.chosen_of-requires
chosen_of-requires c = c.in_ok-rows.ensures.are_rows

pub returns : goal.returns
returns c =
    let told = c.in_ok-rows.field-0 in
    let labels = labelled c.args.topology.now c.args.wanted.now told c.in_ok-rows.ensures in
    record {
      labels = record { own = labels.own; labels = labels.labels; are_labels = labels.are_labels; rows = labels.rows };
      path = rw c.hops_of.ensures (path_is c.args.topology.now c.args.wanted.now c.chosen_of.result c.chosen_of.ensures);
    }
