-- What waits is under way, so in a quiet network nothing waits.
pub mod Waits
pub mod Fallen
pub mod Quiet
pub mod UnderWay
pub mod UnderWayTakes
pub mod Alive
pub mod Breaking
pub mod AliveSteps
pub mod UnderWayRuns
pub mod PassedOn
pub mod UnderWayLaw
pub mod Confined
pub mod Reaches
pub mod ReachesUpper
pub mod ReachesRuns
pub mod Resting
