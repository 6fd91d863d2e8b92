-- The walk over the entries of a region: none of those before the i-th passed.
use Rattle.std.proofs.Common.{◌≡◌, ℕ, suc, ◌+◌, ◌-◌, ◌*◌, ◌<◌, ◌≤◌, Bool, true, false, cond, List, length, take, drop, Some, None, sym, refl, ap, ◌∙◌, zero-add, arith}
use Rattle.std.proofs.lemmas.Bool.{lt-ltb, le-ltb}
use Rattle.lists.specs.Lists.{first_passing, place_in, Region}
use Rattle.lists.proofs.Regions.{entry_there}

-- the first that passes is behind the first i
abbrev pub Passed : (List ℕ → Bool) → ℕ → ℕ → ℕ → List ℕ → Type 0
Passed test w n i xs = (rs : List (List ℕ)) → Region w n rs xs → first_passing test rs ≡ i + first_passing test (drop i rs)

pub none_passed : (test : List ℕ → Bool) (w n : ℕ) (xs : List ℕ) → Passed test w n 0 xs
none_passed test w n xs rs r = sym (zero-add (first_passing test rs))

module _ (test : List ℕ → Bool) (w n i : ℕ) (xs : List ℕ) (passed : Passed test w n i xs) (rs : List (List ℕ)) (r : Region w n rs xs) where
  pub passes_here : i < length rs → test (take (1 + w * i + w - (1 + w * i)) (drop (1 + w * i) xs)) ≡ true → Some i ≡ place_in rs (first_passing test rs)
  unfolding first_passing
  passes_here h yes_here =
      let found : first_passing test (drop i rs) ≡ 0 =
      ap (first_passing test) (entry_there w n i (1 + w * i) xs rs r refl h) ∙ ap (λ b. cond b 0 (suc (first_passing test (drop (suc i) rs)))) yes_here in
      let here : first_passing test rs ≡ i = omega (arith, passed rs r) in
      rw (here, lt-ltb i (length rs) h) refl

  pub passes_later : i < length rs → test (take (1 + w * i + w - (1 + w * i)) (drop (1 + w * i) xs)) ≡ false → first_passing test rs ≡ i + 1 + first_passing test (drop (i + 1) rs)
  unfolding first_passing
  passes_later h not_here =
      let next : i + 1 ≡ suc i = omega arith in
      let later : first_passing test (drop i rs) ≡ suc (first_passing test (drop (i + 1) rs)) =
      ap (first_passing test) (entry_there w n i (1 + w * i) xs rs r refl h)
      ∙ ap (λ b. cond b 0 (suc (first_passing test (drop (suc i) rs)))) not_here
      ∙ ap (λ j. suc (first_passing test (drop j rs))) (sym next) in
      omega (arith, passed rs r)

  pub none_left : length rs ≤ i → None ≡ place_in rs (first_passing test rs)
  none_left h =
      let far : length rs ≤ first_passing test rs = omega (arith, passed rs r) in
      rw (le-ltb (first_passing test rs) (length rs) far) refl
