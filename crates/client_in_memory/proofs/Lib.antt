pub mod Afters
pub mod Carried
mod NewClient
