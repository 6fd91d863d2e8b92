mod Folding
mod Keeping
mod Places
pub mod Laws
