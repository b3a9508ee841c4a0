-- Where paths go on through no outside peer, chains end in the last domain.
use Rattle.std.proofs.Common.{◌≡◌, [], ◌∷◌, sym, ◌∙◌, ap}
use Rattle.dom_base.specs.declared.names.Peer.TheVariants.{Inner, Outside}
use Rattle.plant_model.specs.Routes.{toward}
use Rattle.plant_model.specs.Settings.{place}
use Rattle.plant_model.proofs.Outward.{no_routes}
use Rattle.plant_laws.specs.Ends.{Inside, Asked, ChainsEndInside}
use Rattle.plant_laws.proofs.Runs.Unrouted.{place_routes}

pub chains_end_inside : ChainsEndInside
chains_end_inside c n w behind [] end none ends = absurd ends
chains_end_inside c n w behind (one ∷ []) (Inside t) none ends = (ends.0, ap Inside ends.1)
chains_end_inside c n w behind (one ∷ []) (Asked next told) none ends =
    let inner : toward next (place n one.own).routes ≡ Inner next = ap (toward next) (place_routes n one.own ∙ no_routes n one.own none) in
    let clash : Inner next ≡ Outside ends.peer = sym inner ∙ ends.route in
    absurd cc
chains_end_inside c n w behind (one ∷ next ∷ rest) end none ends = chains_end_inside c n w behind (next ∷ rest) end none ends
