-- Values picked by a test, by its equation.
use Rattle.std.proofs.Common.{◌≡◌, Bool, true, false}
use Rattle.protocol.specs.Data.{pick}

pub pick_true : {A : Type 0} (b : Bool) (x y : A) → b ≡ true → pick b x y ≡ x
unfolding pick
pick_true b x y e = rw e

pub pick_false : {A : Type 0} (b : Bool) (x y : A) → b ≡ false → pick b x y ≡ y
unfolding pick
pick_false b x y e = rw e

-- what holds of both holds of what is picked
pub picked : {A : Type 0} (P : A → Type 0) (b : Bool) (x y : A) → P x → P y → P (pick b x y)
unfolding pick
picked P true x y p q = p
picked P false x y p q = q
