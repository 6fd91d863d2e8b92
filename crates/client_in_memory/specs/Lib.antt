pub mod Calls
pub mod Sessions
