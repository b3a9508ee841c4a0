-- An element as contracts see it, by its parts.
use Rattle.std.specs.Prelude.{◌+◌, ◌-◌, ◌≤◌, min, length, List}
use Rattle.std.specs.Global.{Global}
use Rattle.std.specs.VecDeque.{deque_capacity, deque_len}
use Rattle.std.specs.declared.collections.VecDeque.{VecDeque}
use Rattle.dom_base.specs.Room.{Room}
use Rattle.path_keys.specs.Keys.{Keys}
use Rattle.pce_common.specs.plant_model.declared.output.Lost.{Lost}
use Rattle.pce_common.specs.plant_model.Element.{Element, ElementSettings, Way}
use Rattle.pce_element.specs.Pinned.{Pinned}
use Rattle.pce_element.specs.Seen.{Seen, Spare}

abbrev pub element_of : {P : Type 0} {S : Type 0} → Pinned P → Keys S → List Way → Element P S
element_of requests keys ways = record { pending = requests.pending; keys = keys; ways = ways }

-- a request that is pending may be lost, and there is memory for that
abbrev pub room_of : {P : Type 0} {S : Type 0} → Pinned P → Room (Keys S) → VecDeque Lost Global → Spare
room_of requests keys lost =
    record { requests = min requests.spare (deque_capacity lost - (deque_len lost + length requests.pending.rows)); keys = keys.spare }

abbrev pub seen_of : {P : Type 0} {S : Type 0} → ElementSettings → Pinned P → Room (Keys S) → List Way → VecDeque Lost Global → Seen P S
seen_of place requests keys ways lost = record {
  place = place;
  current = requests.current;
  losing = record { element = element_of requests keys.kept ways; lost = lost.items };
  room = room_of requests keys lost;
}

abbrev pub HoldsLost : {P : Type 0} → Pinned P → VecDeque Lost Global → Type 0
HoldsLost requests lost = deque_len lost + length requests.pending.rows ≤ deque_capacity lost
