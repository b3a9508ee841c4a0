-- Over a history two pins of one number at an element are of one topology.
pub mod StepLemmas
pub mod HistoryLemmas
