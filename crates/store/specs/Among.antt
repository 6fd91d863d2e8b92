-- Whether a slot is one of some. Assumes nothing: this is a definition.
use Rattle.std.specs.Prelude.{ℕ, Bool, false, ◌||◌, List, [], ◌∷◌, ◌==◌}

unfoldable pub among : ℕ → List ℕ → Bool
among k [] = false
among k (j ∷ js) = among k js || j == k
