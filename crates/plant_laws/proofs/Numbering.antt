-- The numbers under which requests are sent on.
pub mod SentOn
pub mod Fresh
pub mod Sends
pub mod Taken
pub mod TakenUpper
pub mod Decode
pub mod Onward
pub mod Errands
pub mod OnwardUpper
pub mod Ids
pub mod SentOnAsks
pub mod IdsSteps
pub mod Known
pub mod Counted
pub mod NumberRuns
pub mod Numbers
