pub mod Bytes
pub mod Coding
pub mod Fixed
pub mod Meaning
pub mod Laws
pub mod CodingLemmas
pub mod Text
