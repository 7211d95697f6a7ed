pub mod Chooser
