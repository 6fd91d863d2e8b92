mod Alike
mod Bounds
mod Changed
mod Held
mod Marking
mod Places
mod Within
