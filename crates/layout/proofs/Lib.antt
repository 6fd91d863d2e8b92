pub mod Places
pub mod NewMemory
mod Numbered
pub mod Passing
