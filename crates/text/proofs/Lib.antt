mod Doings
mod Listed
mod Parts
mod Shorts
mod RootLaws
