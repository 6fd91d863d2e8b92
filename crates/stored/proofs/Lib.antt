pub mod Entries
pub mod Listed
pub mod Parts
pub mod Regions
pub mod Small
pub mod Stands
