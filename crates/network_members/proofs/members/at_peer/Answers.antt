use Rattle.std.proofs.Common.{◌∙◌, Option, length, refl, sym, ap}
use Rattle.std.proofs.lemmas.Option.{slice_get_read, slice_get_past}
use Rattle.pce_common.specs.plant_model.Types.{PeerRow}
use Rattle.pce_common.specs.plant_model.Deeds.{at_row}
use Rattle.network_links.proofs.PeerRowLemmas.{peer_row_is}
use Rattle.network_members.proofs.members.at_peer.Goals as goal

pub returns-in-Some : goal.returns-in-Some
returns-in-Some c =
    let peers = c.args.peers.now in
    let lookup = c.in-Some.ensures.lookup in
    sym (ap (λ (o : Option PeerRow). at_row o) (peer_row_is c.args.peer peers ∙ slice_get_read peers (length peers) c.args.peer c.in-Some.row.now refl lookup.3.0 lookup.1))

pub returns-in-None : goal.returns-in-None
returns-in-None c =
    let peers = c.args.peers.now in
    sym (ap (λ (o : Option PeerRow). at_row o) (peer_row_is c.args.peer peers ∙ slice_get_past peers c.args.peer c.in-None.ensures.lookup.3))
