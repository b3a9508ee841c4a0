pub mod Ending
pub mod Words
pub mod Beyond
pub mod Unread
pub mod InputEnds
pub mod PairReplies
pub mod NetworkEnds
pub mod RouteLemmas
mod RouteRanges
pub mod HeadlineLemmas
mod ReplayWorth
pub mod ShortWords
pub mod DrawnNetwork
pub mod BlindLemmas
pub mod BulkLemmas
pub mod RunsAreWorth
