-- A table of requests as contracts see it, by its fields.
use Rattle.std.specs.Prelude.{◌≡◌, min}
use Rattle.std.specs.Map.{lookup}
use Rattle.indexmap.specs.IndexMap.{spare}
use Rattle.dom_base.specs.Room.{Room}
use Rattle.dom_base.specs.declared.names.Peer.{Peer}
use Rattle.request_table.specs.declared.held.RequestKey.{RequestKey}
use Rattle.request_table.specs.Pending.{Pending, ArePending, asked_by, same_key, number_among}
use Rattle.request_table.specs.Counts.{count_in}
use Rattle.request_table.specs.declared.requests.Requests.TheInside.{Inside}

abbrev pub pending_of : {T : Type 0} → Inside T → Pending T
pending_of a = record { limit = a.limit; given = a.given; rows = a.rows.kept }

abbrev pub room_of : {T : Type 0} → Inside T → Room (Pending T)
room_of a = record { kept = pending_of a; spare = min a.rows.spare (min (spare a.numbers) a.counts.spare) }

-- each peer and id is looked up as the rows have it, and the count of each peer is that of its rows
pub record HoldsPending {T : Type 0} (a : Inside T) : Type 0 where
  pub pending : ArePending (pending_of a)
  pub index : (key : RequestKey) → lookup (same_key key) a.numbers.entries ≡ number_among key a.rows.kept
  pub counts : (peer : Peer) → count_in a.counts.kept peer ≡ asked_by peer a.rows.kept
