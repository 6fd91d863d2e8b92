-- One of two values by a test, taken apart by the test. Assumes nothing.
use Rattle.std.proofs.Common.{◌≡◌, Bool, true, false, refl}
use Rattle.std.proofs.lemmas.Bool.{both_ways}
use Rattle.protocol.specs.Data.{pick}

pub pick_both : {A : Type 0} (b : Bool) (x y : A) (P : A → Type 0) → (b ≡ true → P x) → (b ≡ false → P y) → P (pick b x y)
unfolding pick
pick_both true x y P f g = f refl
pick_both false x y P f g = g refl

-- two values by one test
pub pick_two : {A B : Type 0} (b : Bool) (x y : A) (u v : B) (P : A → B → Type 0) → (b ≡ true → P x u) → (b ≡ false → P y v) → P (pick b x y) (pick b u v)
unfolding pick
pick_two true x y u v P f g = f refl
pick_two false x y u v P f g = g refl

pub pick_true : {A : Type 0} (b : Bool) (x y : A) → b ≡ true → pick b x y ≡ x
unfolding pick
pick_true true x y h = refl
pick_true false x y h = absurd (both_ways false refl h)
