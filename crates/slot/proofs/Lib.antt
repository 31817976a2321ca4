pub mod GuestRows
pub mod GuestLaws
pub mod HiddenLaws
pub mod SettingsLaws
