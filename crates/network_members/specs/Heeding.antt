-- What is heeded of the replies of an outside peer, by what the element there has sent on.
use Rattle.std.specs.Prelude.{ℕ, List, map, Option, Some, None}
use Rattle.pce_common.specs.plant_model.Types.{Reply, Outside}
use Rattle.pce_common.specs.plant_model.Element.{sent_through}
use Rattle.pce_common.specs.plant_model.Outside.{heeded_by}
use Rattle.pce_common.specs.plant_model.RealWire.{wire}
use Rattle.pce_element.specs.Seen.{Seen}

-- Through how many domains beyond its own an element sent on the request that waits for the answer to an id of the peer. Where
-- there is no element, nothing waits.
abbrev pub sent_at : {P : Type 0} {S : Type 0} → ℕ → Option (Seen P S) → ℕ → Option ℕ
sent_at peer None id = None
sent_at peer (Some e) id = sent_through (Outside peer) id e.losing.element.pending.rows

abbrev pub heeded_each : (sent : ℕ → Option ℕ) → List Reply → List Reply
heeded_each sent replies = map (λ (r : Reply). heeded_by wire (sent r.id) r) replies
