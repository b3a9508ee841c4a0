use Rattle.std.proofs.Common.{subst}
use Rattle.pce_parent.specs.declared.spot.Spot.{Spot}
use Rattle.pce_parent.specs.Places.{Adds}
use Rattle.pce_parent.proofs.PlaceLaws.{has_link}
use Rattle.pce_parent.proofs.places.add_link.Goals as goal

pub returns : goal.returns
returns c =
    let old = c.args.spots.now.keys in
    let mid = c.add.new.spots.keys in
    let new = c.add-2.new.spots.keys in
    has_link old mid new c.args.link.now
    (subst (λ (s : Spot). Adds old s mid) c.leaving.ensures c.in_ok-add.ensures)
    (subst (λ (s : Spot). Adds mid s new) c.entering.ensures c.in_ok-add-2.ensures)
