use Rattle.std.proofs.Common.{◌∙◌, Option, length, refl, sym, ap}
use Rattle.std.proofs.lemmas.Option.{slice_get_read, slice_get_past}
use Rattle.plant_model.specs.Types.{PeerRow}
use Rattle.plant_text.specs.Settings.{class_from}
use Rattle.network_links.proofs.PeerRowLemmas.{peer_row_is}
use Rattle.network_links.proofs.rows.class_at.Goals as goal

pub returns-in-Some : goal.returns-in-Some
returns-in-Some c =
    let peers = c.args.peers.now in
    let lookup = c.in-Some.ensures.lookup in
    sym (ap (λ (o : Option PeerRow). class_from o) (peer_row_is c.args.number peers ∙ slice_get_read peers (length peers) c.args.number c.in-Some.row.now refl lookup.3.0 lookup.1))

pub returns-in-None : goal.returns-in-None
returns-in-None c =
    let peers = c.args.peers.now in
    sym (ap (λ (o : Option PeerRow). class_from o) (peer_row_is c.args.number peers ∙ slice_get_past peers c.args.number c.in-None.ensures.lookup.3))
