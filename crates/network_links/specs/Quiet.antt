-- What a tick does to an outside peer, or to an end of a link, whose session has nothing to say or to do at it.
use Rattle.std.specs.Prelude.{◌≡◌, Bool, true}
use Rattle.plant_model.specs.Types.{As, Peer, Outside, Inner, Tick}
use Rattle.pcep_session.specs.Quiet.{after_quiet, is_quiet}
use Rattle.plant_text.specs.Settings.{has_adjacency}
use Rattle.network_links.specs.Ends.{with_kept}
use Rattle.network_links.specs.QuietSides.{is_quiet_peer, sender_ticked, ticked_quietly}
use Rattle.network_links.specs.Flow.{Flow, change_access, set_session}
use Rattle.network_links.specs.Sides.{Side}

-- what one end of a link sends
abbrev pub side_ticked : Tick → Side → Side
side_ticked now s = with_kept (sender_ticked now s.kept) s

-- ---- the session of a member with a peer

-- there is such a link
abbrev pub IsReached : As → Peer → Flow → Type 0
IsReached at (Outside i) f = Unit {0}
IsReached at (Inner b) f = has_adjacency at b f.adjacencies ≡ true

abbrev pub is_quiet_at : Tick → As → Peer → Flow → Bool
is_quiet_at now at (Outside i) f = is_quiet_peer now (f.accesses i).connection
is_quiet_at now at (Inner b) f = is_quiet now (f.sessions at b)

-- at any other tick all is as it was
abbrev pub ticked_at : Tick → As → Peer → Flow → Flow
ticked_at now at (Outside i) f = change_access i (ticked_quietly now) f
ticked_at now at (Inner b) f = set_session at b (after_quiet now (f.sessions at b)) f
