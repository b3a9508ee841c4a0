-- The client that is added to settings is one of the network that they are.
use Rattle.std.proofs.Common.{◌≡◌, Option, Some, List, [], ◌∷◌, ◌++◌, length, is_some, refl, ap}
use Rattle.plant_play.specs.plant_model.Types.{As, NetworkParts, PeerRow}
use Rattle.plant_text.specs.Networks.{path_client, with_path}
use Rattle.plant_text.specs.Settings.{class_from, peer_row}
use Rattle.plant_play.specs.plant_model.Element.{is_client}
use Rattle.client_laws.specs.Told.{IsClient}

last_peer : (rows : List PeerRow) (last : PeerRow) → peer_row (length rows) (rows ++ last ∷ []) ≡ Some last
last_peer [] last = refl
last_peer (r ∷ rows) last = last_peer rows last

pub path_is_client : (n : NetworkParts) (at : As) → IsClient (with_path n at) (length n.peers)
path_is_client n at =
    let found = last_peer n.peers (path_client at) in
    record { known = ap (λ (o : Option PeerRow). is_some o) found; class = ap (λ (o : Option PeerRow). is_client (class_from o)) found }
