-- What is let: some duty that is being decided lets it.
use Rattle.std.proofs.Common.{◌≡◌, ℕ, ◌&&◌, ◌||◌, eqb, List, [], ◌∷◌, refl, ap}
use Rattle.std.specs.List.{list_any}
use Rattle.protocol.specs.Data.{Past, Data, Duty, valid}
use Rattle.protocol.specs.Client.{some_valid}

pub some_lets : (ps : List Past) (k : ℕ) (d : Data) (ys : List Duty) → list_any (λ y. eqb y.slot k && valid ps d y) ys ≡ some_valid ps k d ys
unfolding some_valid
some_lets ps k d [] = refl
some_lets ps k d (y ∷ ys) = ap (λ b. (eqb y.slot k && valid ps d y) || b) (some_lets ps k d ys)
