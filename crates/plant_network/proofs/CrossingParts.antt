-- The parts of a network, of its acts and of its answers may go to another thread.
use denote.Param.Send.{IsSend, IsSync, sendable}
use Rattle.std.proofs.Crossing.{crosses}
use Rattle.te_links.specs.contracts.topology.Topology as Topology
use Rattle.network_events.specs.plant_model.contracts.event.Event as Event
use Rattle.network_events.specs.plant_model.contracts.outcome.Outcome as Outcome
use Rattle.network_events.specs.plant_model.contracts.upper.BorderJob as BorderJob
use Rattle.border_costs.specs.contracts.solved.Solved as Solved
use Rattle.border_costs.specs.contracts.job.Job as Job
use Rattle.network_members.specs.pce_parent.contracts.solved.BorderSolved as BorderSolved
use Rattle.network_members.specs.pce_parent.contracts.work.Done as Done
use Rattle.network_members.specs.pce_parent.contracts.work.Work as Work
use Rattle.plant_text.specs.contracts.network.Network as Network
use Rattle.network_members.specs.pce_parent.contracts.asking.Asking as Asking
use Rattle.network_members.specs.pce_parent.contracts.parent.Parent as Parent
use Rattle.network_events.specs.network_links.contracts.traffic.Traffic as Traffic
use Rattle.network_members.specs.pce_element.pce_common.contracts.refusal.Refusal as Refusal
use Rattle.plant_network.specs.contracts.acts.Acted as Acted

pub topology_send : IsSend Topology.the_row
topology_send = search (sendable, crosses) depth 60 fits 30000

pub topology_sync : IsSync Topology.the_row
topology_sync = search (sendable, crosses) depth 60 fits 30000

pub event_send : IsSend Event.the_row
event_send = search (sendable, crosses, topology_send) depth 60 fits 30000

pub outcome_send : IsSend Outcome.the_row
outcome_send = search (sendable, crosses) depth 60 fits 30000

pub solved_send : IsSend Solved.the_row
solved_send = search (sendable, crosses) depth 60 fits 30000

pub border_solved_send : IsSend BorderSolved.the_row
border_solved_send = search (sendable, crosses) depth 60 fits 30000

pub done_send : IsSend Done.the_row
done_send = search (sendable, crosses, solved_send, border_solved_send) depth 60 fits 30000

pub job_send : IsSend Job.the_row
job_send = search (sendable, crosses, topology_send, topology_sync) depth 60 fits 30000

pub border_job_send : IsSend BorderJob.the_row
border_job_send = search (sendable, crosses) depth 60 fits 30000

pub work_send : IsSend Work.the_row
work_send = search (sendable, crosses, job_send, border_job_send) depth 60 fits 30000

pub refused_send : IsSend (Refusal.the_row Done.the_row)
refused_send = search (sendable, crosses, done_send) depth 60 fits 30000

pub acted_send : IsSend Acted.the_row
acted_send = search (sendable, crosses, outcome_send, work_send, refused_send, topology_send, topology_sync) depth 60 fits 30000

pub network_send : IsSend Network.the_row
network_send = search (sendable, crosses) depth 60 fits 30000

pub asking_send : IsSend Asking.the_row
asking_send = search (sendable, crosses) depth 60 fits 30000

pub parent_send : IsSend Parent.the_row
parent_send = search (asking_send, sendable, crosses) depth 60 fits 30000

pub traffic_send : IsSend Traffic.the_row
traffic_send = search (sendable, crosses) depth 60 fits 30000
