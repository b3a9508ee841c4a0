-- The room that is left in the middle of an event, once what was said before it is cleared.
use Rattle.std.specs.Prelude.{ℕ}
use Rattle.pce_common.specs.plant_model.Types.{NetworkParts}
use Rattle.network_links.specs.Flow.{Flow}
use Rattle.pce_common.specs.Membership.{Membership}
use Rattle.network_events.specs.Rooms.{KeepsAnswers, KeepsSaid, own_most, said_in_all}

-- The list of said messages has room for so many more messages of sessions, and for every answer that is owed. After the event there is
-- as much room again as between events.
pub record KeepsOn {P : Type 0} {S : Type 0} (own : ℕ) (n : NetworkParts) (ms : Membership P S) (f : Flow) : Type 0 where
  pub answers : KeepsAnswers n ms f
  pub said : KeepsSaid own n ms f.room.said
  pub again : KeepsSaid (own_most n) n ms (said_in_all f)
