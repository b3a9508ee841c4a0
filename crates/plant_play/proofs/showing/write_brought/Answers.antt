use Rattle.std.proofs.Common.{◌∙◌, List, Option, IfSome, sym, ap, subst, refl}
use Rattle.plant_network.specs.plant_model.Types.{Job, Sent, NetworkParts, PeerRow}
use Rattle.plant_network.specs.Topologies.{whole}
use Rattle.transcript.specs.Lines.{sents_text}
use Rattle.plant_play.specs.Logs.{behind, untold}
use Rattle.plant_play.specs.Making.{Brings, LabelsIf}
use Rattle.plant_play.proofs.ShownLemmas.{jobless_brings, refused_brings, still_wait}
use Rattle.plant_play.proofs.showing.write_brought.Goals as goal

pub returns-then-is_err : goal.returns-then-is_err
returns-then-is_err c = refused_brings c.args.line c.args.modes (whole c.args.plant.now) c.args.answer.now c.args.job.now c.args.into.now (sym c.if-is_err.ensures.value)

pub returns-in-None : goal.returns-in-None
returns-in-None c =
    let w = whole c.args.plant.now in
    let b0 = c.args.into.now in
    let b1 = c.write_said.new.into in
    let told = c.in_ok-write_said.ensures
    ∙ ap (λ (ps : List PeerRow). behind b0 (sents_text c.args.line ps c.said.result.now.kept)) (c.as_slice.ensures ∙ ap (λ (n : NetworkParts). n.peers) c.parts.ensures)
    ∙ ap (λ (ss : List Sent). behind b0 (sents_text c.args.line w.network.peers ss)) c.said.ensures in
    subst (λ (j : Option Job). Brings c.args.line c.args.modes w c.args.answer.now j b0 b1) (sym c.in-None.is)
    (jobless_brings c.args.line c.args.modes w c.args.answer.now b0 b1 (sym c.if-is_err.ensures.value) told)

pub write_shown-requires : goal.write_shown-requires
write_shown-requires c =
    let b0 = c.args.into.now in
    let b1 = c.write_said.new.into in
    let labels = c.args.labels.now in
    subst (λ (o : Option Job). IfSome o (λ j. LabelsIf c.args.line c.args.modes.certify j (untold b1.is_kept) labels)) c.in-Some.is
    (still_wait c.args.line c.args.modes.certify c.args.job.now (untold b0.is_kept) labels b0 b1 _ refl c.in_ok-write_said.ensures c.requires)
