-- A network, its acts and its answers may go to another thread.
use denote.Param.Send.{IsSend, sendable}
use denote.RattleType.{RattleType}
use Rattle.std.proofs.Crossing.{crosses}
use Rattle.dom_base.specs.contracts.addr.Addr as Addr
use Rattle.dom_base.specs.contracts.list.List as List
use Rattle.border_costs.specs.contracts.solved.Solved as Solved
use Rattle.te_generations.specs.contracts.generations.Generations as Generations
use Rattle.request_table.specs.contracts.held.Held as Held
use Rattle.request_table.specs.contracts.requests.Requests as Requests
use Rattle.request_table.specs.contracts.rows.Rows as Rows
use Rattle.network_events.specs.plant_model.contracts.event.Event as Event
use Rattle.network_members.specs.pce_element.contracts.accepted.Accepted as Accepted
use Rattle.network_members.specs.pce_element.contracts.element.Element as Element
use Rattle.network_members.specs.pce_element.contracts.topologies.PinnedTopology as PinnedTopology
use Rattle.network_members.specs.pce_element.contracts.topologies.Topologies as Topologies
use Rattle.network_members.specs.pce_element.contracts.topologies.TopologiesWorld.TheImpl as TopologiesWorld
use Rattle.network_members.specs.pce_parent.contracts.work.Done as Done
use Rattle.network_members.specs.contracts.elements.Elements as Elements
use Rattle.network_members.specs.contracts.hierarchy.Hierarchy as Hierarchy
use Rattle.plant_network.specs.contracts.acts.Act as Act
use Rattle.plant_network.specs.contracts.acts.Acted as Acted
use Rattle.plant_network.specs.contracts.acts.ActAnswer as ActAnswer
use Rattle.plant_network.specs.contracts.network.Network as Network
use Rattle.plant_network.proofs.CrossingParts.{border_solved_send, network_send, outcome_send, parent_send, refused_send, solved_send, topology_send, topology_sync, traffic_send, work_send}

-- the same where one is a field of another type
event_field_send : IsSend (Event.the_field).row
event_field_send = search (sendable, crosses, topology_send) depth 60 fits 30000

done_field_send : IsSend (Done.the_field).row
done_field_send = search (sendable, crosses, solved_send, border_solved_send) depth 60 fits 30000

acted_field_send : IsSend (Acted.the_field).row
acted_field_send = search (sendable, crosses, outcome_send, work_send, refused_send, topology_send, topology_sync) depth 60 fits 30000

pub act_send : IsSend Act.the_row
act_send = search (event_field_send, done_field_send, sendable, crosses) depth 60 fits 10000

pub turn_send : IsSend ActAnswer.the_row
turn_send = search (acted_field_send, sendable, crosses) depth 60 fits 10000

generations_send : IsSend Generations.the_row
generations_send = search (sendable, crosses) depth 60 fits 30000

topologies_send : IsSend Topologies.the_row
topologies_send = search (generations_send, sendable, crosses) depth 60 fits 30000

pinned_topology_send : IsSend PinnedTopology.the_row
pinned_topology_send = search (sendable, crosses) depth 60 fits 30000

accepted_send : IsSend (Accepted.the_row PinnedTopology.the_row)
accepted_send = search (pinned_topology_send, sendable, crosses) depth 60 fits 30000

-- what a key stands for
abbrev segment : RattleType
segment = List.the_row Addr.the_row

rows_send : IsSend (Rows.the_row (Held.the_row (Accepted.the_row PinnedTopology.the_row)))
rows_send = search (accepted_send, sendable, crosses) depth 60 fits 30000

requests_send : IsSend (Requests.the_row (Accepted.the_row PinnedTopology.the_row))
requests_send = search (rows_send, sendable, crosses) depth 60 fits 30000

element_send : IsSend (Element.the_row Topologies.the_row PinnedTopology.the_row segment Solved.the_row TopologiesWorld.ghosts)
element_send = search (topologies_send, requests_send, sendable, crosses) depth 90 fits 60000

elements_send : IsSend (Elements.the_row Topologies.the_row PinnedTopology.the_row segment Solved.the_row TopologiesWorld.ghosts)
elements_send = search (element_send, sendable, crosses) depth 90 fits 60000

hierarchy_send : IsSend (Hierarchy.the_row Topologies.the_row PinnedTopology.the_row segment Solved.the_row TopologiesWorld.ghosts)
hierarchy_send = search (network_send, elements_send, parent_send, sendable, crosses) depth 60 fits 30000

pub plant_send : IsSend (Network.the_row Topologies.the_row PinnedTopology.the_row segment Solved.the_row TopologiesWorld.ghosts)
plant_send = search (hierarchy_send, traffic_send, sendable, crosses) depth 60 fits 30000

pub ruleset crosses_with_plants = (plant_send, act_send, turn_send)
