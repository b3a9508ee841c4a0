-- An inner link: two sessions and two queues, each named by the end that sends.
use Rattle.std.specs.Prelude.{ℕ, ◌+◌, ◌%◌, []}
use Rattle.plant_model.specs.Types.{As, State as Session}
use Rattle.plant_text.specs.Settings.{Adjacency}
use Rattle.pcep_session.specs.Table.{new_state}
use Rattle.plant_model.specs.Deeds.{our_offer}
use Rattle.network_links.specs.declared.link.End.{End}
use Rattle.network_links.specs.declared.link.End.TheVariants.{Lower, Upper}
use Rattle.network_links.specs.Ends.{Roomy, Sender}

pub record Joined : Type 0 where
  pub adjacency : Adjacency
  pub lower : Roomy Sender
  pub upper : Roomy Sender

abbrev pub at_end : End → Joined → Roomy Sender
at_end Lower x = x.lower
at_end Upper x = x.upper

abbrev pub set_end : End → Roomy Sender → Joined → Joined
set_end Lower s x = record x { lower = s }
set_end Upper s x = record x { upper = s }

abbrev pub other : End → End
other Lower = Upper
other Upper = Lower

-- the domain, or the parent, at an end
abbrev pub as_at : End → Adjacency → As
as_at Lower x = x.lower
as_at Upper x = x.upper

-- an end that has not begun
abbrev pub new_sender : Sender
new_sender = record { session = new_state (our_offer 0) (record { 0 = 0 }); out = [] }

-- The number of a session is one more than that of the one before it on its link, modulo 256.
abbrev pub next_sid : Session → ℕ
next_sid s = (s.offer.sid + 1) % 256
