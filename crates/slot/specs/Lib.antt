pub mod Effects
pub mod Slots
pub mod NoSlot
pub mod BankRule
pub mod BankRuleLaws
pub mod Guest
pub mod HiddenLaws
pub mod SettingsLaws
