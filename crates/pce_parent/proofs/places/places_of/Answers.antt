use Rattle.std.proofs.Common.{◌∙◌, subst, All, arith}
use Rattle.std.proofs.lemmas.List.{take_all}
use Rattle.pce_common.specs.plant_model.Types.{ParentLink}
use Rattle.pce_common.specs.plant_model.declared.upper.ChildRow.{ChildRow}
use Rattle.pce_common.specs.plant_model.BorderGraph.{Enter}
use Rattle.pce_parent.specs.Places.{HasLink, HasEnd, spot_of}
use Rattle.pce_parent.proofs.PlaceLaws.{links_stay, more_links, more_ends}
use Rattle.pce_parent.proofs.places.places_of.Goals as goal

pub loop-link-preserved : goal.loop-link-preserved
loop-link-preserved c =
    let old = c.loop-link.spots.keys in
    let new = c.add_link.new.spots.keys in
    let items = c.as_slice-link-items.result.now in
    let l : ParentLink = c.link-item.result in
    let did = c.in_ok-add_link.ensures in
    record {
      start = did.0 (spot_of (Enter c.args.job.now.start c.args.job.now.source)) c.loop-link.invariant.start;
      links = more_links old new items c.loop-link.link-index l (omega arith) did.0 c.loop-link.invariant.links (subst (HasLink new) c.link-item.is did.1);
    }

pub loop-row-init : goal.loop-row-init
loop-row-init c =
    let spots = c.loop-link.spots.keys in
    record {
      start = c.loop-link.invariant.start;
      links = subst (All (HasLink spots)) (take_all c.loop-link.link-index c.as_slice-link-items.result.now (omega arith) ∙ c.as_slice-link-items.ensures) c.loop-link.invariant.links;
      ends = λ k d below. absurd (omega arith);
    }

pub loop-row-preserved : goal.loop-row-preserved
loop-row-preserved c =
    let old = c.loop-row.spots.keys in
    let new = c.add_end.new.spots.keys in
    let items = c.as_slice-row-items.result.now in
    let r : ChildRow = c.row-item.result in
    let did = c.in_ok-add_end.ensures in
    record {
      start = did.0 (spot_of (Enter c.args.job.now.start c.args.job.now.source)) c.loop-row.invariant.start;
      links = links_stay old new c.args.job.now.links did.0 c.loop-row.invariant.links;
      ends = more_ends c.args.job.now old new items c.loop-row.row-index r (omega arith) did.0 c.loop-row.invariant.ends (subst (HasEnd c.args.job.now new) c.row-item.is did.1);
    }

pub returns : goal.returns
returns c =
    let inv = c.loop-row.invariant in
    let spots = c.loop-row.spots.keys in
    record {
      start = inv.start;
      links = inv.links;
      ends = subst (All (HasEnd c.args.job.now spots)) (take_all c.loop-row.row-index c.as_slice-row-items.result.now (omega arith) ∙ c.as_slice-row-items.ensures) inv.ends;
    }
