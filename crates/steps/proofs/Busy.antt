-- Whether a duty is at hand, by the number that says it.
use Rattle.std.proofs.Common.{◌≡◌, ℕ, zero, suc, ◌<◌, Bool, true, false, eqb, not, refl, sym, ap, ◌∙◌, arith}
use Rattle.std.proofs.lemmas.Bool.{ne_eqb, eq-eqb, false≢true}

pub idle : (b : Bool) (n : ℕ) → b ≡ not (eqb n 0) → b ≡ false → n ≡ 0
idle b zero e f = refl
idle b (suc n) e f =
    absurd (false≢true (sym f ∙ e ∙ ap not (ne_eqb (suc n) 0 (λ v. omega arith))))

pub busy : (b : Bool) (n : ℕ) → b ≡ not (eqb n 0) → b ≡ true → 0 < n
busy b zero e f = absurd (false≢true (sym (ap not (eq-eqb 0 0 refl)) ∙ sym e ∙ f))
busy b (suc n) e f = omega arith
