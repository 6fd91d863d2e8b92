pub mod Laws
pub mod Text
pub mod Meaning
pub mod Short
pub mod Told
pub mod Line
