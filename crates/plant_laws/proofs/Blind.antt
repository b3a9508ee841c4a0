-- What closed peers are told does not depend on what is hidden.
pub mod Strip
pub mod Alike
pub mod AlikeSolves
pub mod Simulate
pub mod SimulateEvents
pub mod OneJoin
pub mod OneReply
pub mod OneBorder
pub mod Viewed
pub mod SaysBlind
pub mod OneThing
pub mod OneBest
pub mod OneStep
pub mod TwinsAlike
