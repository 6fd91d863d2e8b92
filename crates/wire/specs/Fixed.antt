-- What it is to write bytes at the front of a slice, and to refuse to. Assumes nothing: these are definitions.
use Rattle.std.specs.Prelude.{◌≡◌, ℕ, ◌+◌, ◌<◌, ◌≤◌, List, ◌++◌, length, take, drop}

-- `count` bytes stand at the front, where there was room for them, and the others are as they were
pub record Written (width : ℕ) (bs before after : List ℕ) (count : ℕ) : Type 0 where
  pub room : width ≤ length before
  pub counted : count ≡ width
  pub holds : after ≡ bs ++ drop width before

-- there was no room, and nothing is changed
pub record Unwritten (width : ℕ) (before after : List ℕ) : Type 0 where
  pub short : length before < width
  pub kept : after ≡ before

-- k bytes from a place on are these, and the others are as they were
abbrev pub placed : ℕ → ℕ → List ℕ → List ℕ → List ℕ
placed at k bs before = take at before ++ (bs ++ drop (at + k) before)
