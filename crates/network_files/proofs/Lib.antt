pub mod LineCount
pub mod Found
pub mod DrawLemmas
pub mod DrawnRowLemmas
pub mod DrawnFileLemmas
pub mod DrawnSettingsLemmas
