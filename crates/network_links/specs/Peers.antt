-- Outside peers by their numbers.
use Rattle.std.specs.Prelude.{◌≡◌, ℕ, List, Option, Some, None, slice_get, length}
use Rattle.std.specs.Option.{option_map}
use Rattle.plant_queues.specs.Messages.{Spare}
use Rattle.plant_model.specs.Names.{set_number}
use Rattle.plant_model.specs.State as model
use Rattle.plant_model.specs.Deeds.{on_connection}
use Rattle.network_links.specs.declared.access.Access.{Access}
use Rattle.network_links.specs.Ends.{Connected}
use Rattle.network_links.specs.Flow.{no_room}

abbrev pub never_open : Access
never_open = record { opened = 0; connection = None }

abbrev pub access_of : Access → model.Access
access_of a = record { opened = a.opened; connection = option_map (λ (x : Connected). x.kept) a.connection }

-- beyond the last peer nobody was ever open
abbrev pub access_or : Option Access → model.Access
access_or None = record { opened = 0; connection = None }
access_or (Some a) = access_of a

abbrev pub room_of : Option Connected → Spare
room_of None = no_room
room_of (Some x) = x.spare

abbrev pub room_or : Option Access → Spare
room_or None = no_room
room_or (Some a) = room_of a.connection

-- one of them, and the room of its queue
pub record Guest : Type 0 where
  pub access : model.Access
  pub room : Spare

abbrev pub guest_of : Access → Guest
guest_of a = record { access = access_of a; room = room_of a.connection }

abbrev pub nobody : Guest
nobody = record { access = record { opened = 0; connection = None }; room = no_room }

-- ---- peers as contracts see them

pub record Guests : Type 0 where
  pub count : ℕ
  pub accesses : ℕ → model.Access
  pub room : ℕ → Spare

abbrev pub guests_of : List Access → Guests
guests_of as' = record { count = length as'; accesses = λ i. access_or (slice_get as' i); room = λ i. room_or (slice_get as' i) }

abbrev pub no_guests : ℕ → Guests
no_guests count = record { count = count; accesses = λ i. record { opened = 0; connection = None }; room = λ i. no_room }

abbrev pub guest_at : ℕ → Guests → Guest
guest_at i g = record { access = g.accesses i; room = g.room i }

abbrev pub set_guest : ℕ → Guest → Guests → Guests
set_guest i x g = record g { accesses = set_number i x.access g.accesses; room = set_number i x.room g.room }

-- one of them changes in this way
pub record Changes (i : ℕ) (so : Guest → Guest → Type 0) (old new : Guests) : Type 0 where
  pub rest : new ≡ set_guest i (guest_at i new) old
  pub does : so (guest_at i old) (guest_at i new)

-- a connection changes, if it is open
abbrev pub change_guest : ℕ → (model.Connection → model.Connection) → Guests → Guests
change_guest i f g = record g { accesses = set_number i (on_connection f (g.accesses i)) g.accesses }
