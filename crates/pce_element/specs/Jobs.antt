-- The job of a request that is ready.
use Rattle.std.specs.Prelude.{ℕ, List, map, filter, Option, Some, None}
use Rattle.std.specs.Arc.{arc_value}
use Rattle.pce_common.specs.plant_model.Types.{Addr, As, Entry, Ask, Job}
use Rattle.te_links.specs.Rows.{Rows}
use Rattle.request_table.specs.Pending.{item_of}
use Rattle.plant_text.specs.Names.{same_as}
use Rattle.pce_common.specs.plant_model.Element.{Item, Stage, Waits, Ready}
use Rattle.pce_common.specs.plant_model.Jobs.{ask_of}
use Rattle.pce_common.specs.plant_model.Plant.{Pin, Segment}
use Rattle.pce_element.specs.Seen.{Seen}

-- an ask, and the topology that it is computed in
pub record Work : Type 0 where
  pub ask : Ask
  pub topology : Rows

abbrev pub work_of : Job → Work
work_of j = record { ask = j.ask; topology = arc_value j.topology }

-- the entries from a neighbour
abbrev pub nodes_from : As → List Entry → List Addr
nodes_from a entries = map (λ e. e.node) (filter (λ e. same_as e.from_as a) entries)

-- a request is asked over the topology that it pinned, with the branches that the next domain told
abbrev pub work_at : As → ℕ → Item Pin → Stage → Option Work
work_at own number i (Waits on id) = None
work_at own number i (Ready down) = Some (record { ask = ask_of own number i down i.pin.number i.pin.topology; topology = i.pin.topology })

abbrev pub work_for : As → ℕ → Option (Item Pin) → Option Work
work_for own number None = None
work_for own number (Some i) = work_at own number i i.stage

-- the job of the request of a number, where it can be solved
abbrev pub job_at : Seen Pin Segment → ℕ → Option Work
job_at s number = work_for s.place.own number (item_of s.losing.element.pending number)
