-- what a reader needs, in this order
pub mod Tasks
pub mod Run
pub mod Networks
pub mod Replays
pub mod Headline
pub mod Commands
pub mod Requests
pub mod Files
pub mod Worlds
pub mod Around
pub mod Limits
pub mod Statuses
-- the interfaces between the parts of a run
pub mod Parts
pub mod PairParts
