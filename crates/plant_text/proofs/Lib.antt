pub mod RowLaws
pub mod RuleLaws
pub mod SheetLaws
pub mod NetworkLaws
pub mod SettingLaws
pub mod WordLaws
pub mod TextLaws
pub mod DocumentLaws
