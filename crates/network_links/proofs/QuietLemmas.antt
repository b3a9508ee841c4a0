-- A tick at which one session has nothing to say or to do is what contracts say of all outside peers, and of all links.
use Rattle.std.proofs.Common.{◌≡◌, ℕ, Bool}
use Rattle.plant_model.specs.Types.{As, Tick}
use Rattle.pcep_session.specs.Quiet.{after_quiet}
use Rattle.network_links.specs.QuietSides.{ticked_quietly}
use Rattle.network_links.specs.Accesses.{TicksGuest}
use Rattle.network_links.specs.Carried.{CarriedView, flow_in}
use Rattle.network_links.specs.Flow.{change_access, set_session}
use Rattle.network_links.specs.Peers.{Changes, Guests}
use Rattle.network_links.specs.Quiet.{side_ticked}
use Rattle.network_links.specs.Sides.{Row, set_side}
use Rattle.network_links.proofs.FlowLemmas.{access_changes, session_changes}

module _ (a : CarriedView) (i : ℕ) (g : Guests) (now : Tick) (quiet : Bool) (h : Changes i (TicksGuest now quiet) a.peers g) where
  pub access_ticks : flow_in (record a { peers = g }) ≡ change_access i (ticked_quietly now) (flow_in a)
  access_ticks = access_changes a i g (ticked_quietly now) (record { rest = h.rest; does = h.does.is })

-- the flow has another session there
pub flow_ticks : (a : CarriedView) (at b : As) (r : Row) (now : Tick) → r ≡ set_side at b (side_ticked now (a.links.sides at b)) a.links →
    flow_in (record a { links = r }) ≡ set_session at b (after_quiet now (a.links.sides at b).kept.session) (flow_in a)
flow_ticks a at b r now is = session_changes a at b r (after_quiet now (a.links.sides at b).kept.session) is
