-- A duty begun: what it drives out of what is being decided.
use Rattle.std.proofs.Common.{◌≡◌, ℕ, zero, suc, ◌-◌, ◌<◌, ◌≤◌, List, [], ◌∷◌, length, take, drop, sym, refl, ap, ◌∙◌, arith, length-drop}
use Rattle.std.specs.List.{AllByRecursion}
use Rattle.std.proofs.lemmas.List.{take_all}
use Rattle.protocol.specs.Data.{Duty}
use Rattle.stored.specs.Stored.{Bank, Stored, freed, with_queue}
use Rattle.keeper.specs.Step.{all_freed, started, start_or_wait}
use Rattle.steps.specs.Orderly.{SlotFits}
use Rattle.steps.specs.Queue.{first_begun}

-- the one that goes, if any: the last of as many as may be
driven_out : (w : ℕ) (y : Duty) (ys gone : List Duty) → 1 ≤ w → length ys ≤ w → gone ≡ take 1 (drop (w - 1) ys) → drop w (y ∷ ys) ≡ gone
driven_out w y ys gone some few e =
    let next : w ≡ suc (w - 1) = omega arith in
    let one : length (drop (w - 1) ys) ≤ 1 = simp length-drop (omega arith) in
    ap (λ n. drop n (y ∷ ys)) next ∙ sym (take_all 1 (drop (w - 1) ys) one) ∙ sym e

-- its bank is freed
pub freed_out : (n w v : ℕ) (y : Duty) (ys gone : List Duty) (bs : List Bank) → w ≡ v → 1 ≤ w → length ys ≤ w → gone ≡ take 1 (drop (v - 1) ys) → all_freed n gone bs ≡ all_freed n (drop w (y ∷ ys)) bs
freed_out n w v y ys gone bs same some few e =
    ap (λ zs. all_freed n zs bs) (sym (driven_out w y ys gone some few (e ∙ ap (λ k. take 1 (drop (k - 1) ys)) (sym same))))

pub one_freed : (n : ℕ) (y : Duty) (bs : List Bank) → freed n y.slot bs ≡ all_freed n (y ∷ []) bs
unfolding all_freed
one_freed n y bs = refl

pub none_freed : (n : ℕ) (bs : List Bank) → bs ≡ all_freed n [] bs
unfolding all_freed
none_freed n bs = refl

waits : (h : ℕ) → (t : Stored) → t.at_hand ≡ suc h → (ys : List Duty) → t.queue ≡ ys → first_begun ys t ≡ t
unfolding first_begun start_or_wait
waits h t e [] q = refl
waits h t e (y ∷ ys) q = ap (λ n. start_or_wait n y ys t) e ∙ ap (λ zs. with_queue zs t) (sym q)

empty_stays : (t : Stored) (ys : List Duty) → [] ≡ take 1 (drop 0 ys) → first_begun ys t ≡ t
unfolding first_begun
empty_stays t [] e = refl
empty_stays t (y ∷ ys) e = absurd cc

first_there : (y : Duty) (t : Stored) → t.at_hand ≡ 0 → (ys : List Duty) → y ∷ [] ≡ take 1 (drop 0 ys) → started y (drop 1 ys) t ≡ first_begun ys t
unfolding first_begun start_or_wait
first_there y t none [] e = absurd cc
first_there y t none (x ∷ ys) e =
    let same : y ≡ x = cc in
    ap (λ v. started v ys t) same ∙ sym (ap (λ n. start_or_wait n x ys t) none)

-- with one at hand, or none that waits, nothing is begun
pub stays : (t : Stored) → 0 < t.at_hand → first_begun t.queue t ≡ t
stays t some = by_hand t.at_hand refl some
  where
    by_hand : (h : ℕ) → t.at_hand ≡ h → 0 < h → first_begun t.queue t ≡ t
    by_hand zero e some = absurd (omega arith)
    by_hand (suc h) e some = waits h t e t.queue refl

pub none_waits : (t : Stored) → [] ≡ take 1 (drop 0 t.queue) → first_begun t.queue t ≡ t
none_waits t e = empty_stays t t.queue e

-- the first that waits is begun where none is at hand
pub begins : (y : Duty) (t : Stored) → t.at_hand ≡ 0 → y ∷ [] ≡ take 1 (drop 0 t.queue) → started y (drop 1 t.queue) t ≡ first_begun t.queue t
begins y t none e = first_there y t none t.queue e

-- a duty that is among these fits too
pub fits_there : (m : ℕ) (y : Duty) (ys : List Duty) → y ∷ [] ≡ take 1 (drop m ys) → AllByRecursion SlotFits ys → y.slot < 18446744073709551615
fits_there zero y [] e all = absurd cc
fits_there (suc m) y [] e all = absurd cc
fits_there zero y (x ∷ ys) e all =
    let same : y ≡ x = cc in
    omega (arith, all.0, ap (λ (v : Duty). v.slot) same)
fits_there (suc m) y (x ∷ ys) e all = fits_there m y ys e all.1

pub some_waits : (y : Duty) (ys : List Duty) → y ∷ [] ≡ take 1 (drop 0 ys) → 0 < length ys
some_waits y [] e = absurd cc
some_waits y (x ∷ ys) e = omega arith
