use Rattle.std.proofs.Common.{◌≡◌, false, true, inl, inr, refl, sym}
use Rattle.path_certificate.specs.Rows.{label_in}
use Rattle.path_certificate.proofs.Making.{node_holds, node_may}
use Rattle.path_certificate.proofs.false_nodes.broken_node.Goals as goal

pub returns-then-may_have : goal.returns-then-may_have
returns-then-may_have c =
    let may = c.if-may_have.ensures.0 refl in
    node_holds c.args.topology.now c.args.query.now c.args.seeds.now (label_in c.args.rows.now) c.args.index c.node_at-node.result c.in_ok-label.label
    c.node_at-node.ensures (sym c.in_ok-label.ensures)
    (may.0, may.1, elim may.2 [ inl ends ↦ inl ends | inr t ↦ inr (c.requires.made.0 t) ])

pub returns : goal.returns
returns c = record {
  same_index = refl;
  fails = λ holds.
      let may = node_may c.args.topology.now c.args.query.now c.args.seeds.now (label_in c.args.rows.now) c.args.index c.node_at-node.result c.in_ok-label.label
      c.node_at-node.ensures (sym c.in_ok-label.ensures) holds in
      let bad : false ≡ true = c.if-may_have.ensures.1 (may.0, may.1, elim may.2 [ inl ends ↦ inl ends | inr m ↦ inr (c.requires.made.1 m) ]) in
      cc;
  same_told = rw c.node_at-node.ensures c.in_ok-label.ensures;
  same_bound = refl;
}
