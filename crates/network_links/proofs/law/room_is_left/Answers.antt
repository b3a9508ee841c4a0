use Rattle.network_links.proofs.RoomLemmas.{put_leaves_room, first_leaves_room, less_leaves_room}
use Rattle.network_links.proofs.law.room_is_left.Goals as goal

pub returns-clause-put : goal.returns-clause-put
returns-clause-put c = put_leaves_room

pub returns-clause-first : goal.returns-clause-first
returns-clause-first c = first_leaves_room

pub returns-clause-less : goal.returns-clause-less
returns-clause-less c = less_leaves_room
