pub mod PeerLemmas
pub mod PlaceLemmas
pub mod SideLemmas
pub mod RowLemmas
pub mod FreshLemmas
pub mod FlowLemmas
pub mod HappenLemmas
pub mod WaitLemmas
pub mod QuietLemmas
pub mod RoomLemmas
pub mod StepLemmas
pub mod InboxLemmas
mod QuietSideLemmas
pub mod DomainLemmas
pub mod AdjacencyLemmas
pub mod PeerRowLemmas
pub mod RouteLemmas
