-- How many requests each peer has pending.
use Rattle.std.specs.Prelude.{ℕ, List, unwrap_or}
use Rattle.std.specs.Map.{lookup}
use Rattle.dom_base.specs.declared.names.Peer.{Peer}
use Rattle.request_table.specs.Pending.{same_peer}

-- the count of a peer, of which there is none at first
abbrev pub count_in : List (Peer × ℕ) → Peer → ℕ
count_in counts peer = unwrap_or (lookup (same_peer peer) counts) 0
