-- A list with one more at a place, of which the first n stay.
use Rattle.std.proofs.Common.{◌≡◌, ℕ, suc, ◌+◌, ◌-◌, ◌<◌, ◌≤◌, min, List, ◌∷◌, ◌++◌, length, take, drop, sym, ap, ◌∙◌, ap₂, ⊎_elim, arith, length-take, take-take}
use lib.Seq.{take-append-le, take-append-add}
use Rattle.std.proofs.lemmas.List.{take_all, drop-take}
use Rattle.std.proofs.lemmas.Bool.{cases_lt}
use Rattle.rows.specs.Rows.{inserted}

take_least : {A : Type 0} (n k : ℕ) (xs : List A) → length xs ≡ n → take (min n k) xs ≡ take k xs
take_least n k xs e =
    ⊎_elim
    (λ h.
    let least : min n k ≡ n = omega arith in
    ap (λ i. take i xs) least ∙ take_all n xs (omega arith) ∙ sym (take_all k xs (omega arith)))
    (λ h. let least : min n k ≡ k = omega arith in ap (λ i. take i xs) least)
    (cases_lt n k)

-- a place within: the last one goes if there was no room
pub take_inserted : {A : Type 0} (n m : ℕ) (x : A) (xs : List A) → m ≤ length xs → m < n → take n (inserted xs m x) ≡ inserted (take (min (length xs) (n - 1)) xs) m x
take_inserted n m x xs h room =
    let k : ℕ = n - 1 - m in
    let front : length (take m xs) ≡ m = simp length-take (omega arith) in
    let all : n ≡ length (take m xs) + suc k = omega arith in
    let rest : n - 1 ≡ m + k = omega arith in
    let before : take (min (length xs) (n - 1)) xs ≡ take (m + k) xs =
    take_least (length xs) (n - 1) xs (omega arith) ∙ ap (λ i. take i xs) rest in
    ap (λ i. take i (take m xs ++ x ∷ drop m xs)) all
    ∙ take-append-add (take m xs) (x ∷ drop m xs) (suc k)
    ∙ ap₂ (λ a b. a ++ x ∷ b) (sym (take-take m (m + k) xs (omega arith))) (sym (drop-take m k xs))
    ∙ ap (λ t. inserted t m x) (sym before)

-- a place behind the n that stay: nothing changes
pub take_inserted_none : {A : Type 0} (n m : ℕ) (x : A) (xs : List A) → length xs ≤ n → m ≤ length xs → n ≤ m → take n (inserted xs m x) ≡ xs
take_inserted_none n m x xs h l full =
    let fits : n ≤ length (take m xs) = simp length-take (omega arith) in
    take-append-le n (take m xs) (x ∷ drop m xs) fits ∙ take-take n m xs full ∙ take_all n xs (omega arith)
