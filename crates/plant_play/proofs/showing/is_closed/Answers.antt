use Rattle.std.proofs.Common.{◌∙◌, Option, true, false, cond, sym, ap}
use Rattle.std.proofs.lemmas.Option.{slice_get_past}
use Rattle.plant_network.specs.plant_model.Types.{Peer, PeerRow}
use Rattle.plant_text.specs.Settings.{class_from}
use Rattle.plant_network.specs.plant_model.Element.{is_client}
use Rattle.transcript.proofs.network_links.PeerRowLemmas.{peer_row_is}
use Rattle.plant_play.specs.Making.{closed_among}
use Rattle.plant_play.proofs.showing.is_closed.Goals as goal

pub returns-in-None : goal.returns-in-None
returns-in-None c =
    let peers = c.args.peers.now in
    let i = c.in-Outside.number in
    sym (ap (λ (p : Peer). closed_among peers p) c.in-Outside.is
    ∙ ap (λ (o : Option PeerRow). cond (is_client (class_from o)) false true) (peer_row_is i peers ∙ slice_get_past peers i c.in-None.ensures.lookup.3))
