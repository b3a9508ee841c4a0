-- Accepted requests: how one begins, and how far it is.
use Rattle.std.specs.Prelude.{ℕ, cond, List, Option, Some, None}
use Rattle.pce_common.specs.plant_model.Types.{Peer, Branch}
use Rattle.request_table.specs.Pending.{same_peer}
use Rattle.pce_common.specs.plant_model.Element as element
use Rattle.pce_common.specs.plant_model.Element.{Item}
use Rattle.pce_element.specs.declared.accepted.Stage.{Stage}
use Rattle.pce_element.specs.declared.accepted.Stage.TheVariants.{Waits, Ready}
use Rattle.pce_element.specs.declared.accepted.Opening.{Opening}

abbrev pub played_network : Stage → element.Stage
played_network (Waits on id) = element.Waits on id
played_network (Ready branches) = element.Ready branches

-- a request at its begin, with its pin
abbrev pub new_item : {P : Type 0} → Opening → P → Item P
new_item o pin = record { class = o.class; flags = o.flags; wanted = o.wanted; sequence = o.sequence; pin = pin; stage = played_network o.stage }

-- the branches with which a request is ready
abbrev pub branches_at : element.Stage → Option (List Branch)
branches_at (element.Waits on id) = None
branches_at (element.Ready branches) = Some branches

-- the id of the peer for whose answer a request waits
abbrev pub id_sent_to : Peer → element.Stage → Option ℕ
id_sent_to p (element.Waits on id) = cond (same_peer on p) (Some id) None
id_sent_to p (element.Ready branches) = None
