use Rattle.std.proofs.Common.{◌∙◌, Option, sym, ap}
use Rattle.std.proofs.lemmas.Option.{slice_get_past}
use Rattle.network_links.specs.plant_model.Types.{PeerRow}
use Rattle.network_links.proofs.PeerRowLemmas.{peer_row_is}
use Rattle.transcript.specs.Lines.{name_from}
use Rattle.transcript.proofs.lines.name_at.Goals as goal

pub returns-in-None : goal.returns-in-None
returns-in-None c =
    let peers = c.args.peers.now in
    sym (ap (λ (o : Option PeerRow). name_from o) (peer_row_is c.args.number peers ∙ slice_get_past peers c.args.number c.in-None.ensures.lookup.3))
