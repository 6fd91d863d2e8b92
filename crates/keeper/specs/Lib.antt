pub mod Step
pub mod Keeper
pub mod Ready
pub mod Told
