-- Where an entry goes in an ordered list: before the first that passes a test, or in its place if that is its like. Assumes nothing: these are definitions.
use Rattle.std.specs.Prelude.{Bool, false, cond, List, [], ◌∷◌}

unfoldable pub put_by : {X : Type 0} → (X → Bool) → (X → Bool) → X → List X → List X
put_by test like x [] = x ∷ []
put_by test like x (y ∷ ys) = cond (test y) (cond (like y) (x ∷ ys) (x ∷ (y ∷ ys))) (y ∷ put_by test like x ys)

-- whether the first of a list passes
unfoldable pub first_is : {X : Type 0} → (X → Bool) → List X → Bool
first_is test [] = false
first_is test (x ∷ xs) = test x
