pub mod SettingLaws
