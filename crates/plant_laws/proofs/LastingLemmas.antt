-- What lasts from step to step.
pub mod Tables
pub mod JobsKept
pub mod ElementsLast
pub mod ParentsLast
pub mod DeedsLast
pub mod HappeningsLast
pub mod EventsLast
pub mod BlindLast
