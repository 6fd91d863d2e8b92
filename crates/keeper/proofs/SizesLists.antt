-- How long lists are that the steps make of others; and that what holds of each bank, and of a bank that is made anew, holds of each bank then.
use Rattle.std.proofs.Common.{◌≡◌, ℕ, zero, suc, ◌≤◌, Bool, eqb, List, [], ◌∷◌, length, get_or, set, replicate, refl, ◌∙◌, arith, length-set}
use Rattle.std.specs.List.{AllByRecursion}
use Rattle.std.proofs.ByRecursion.{All-set}
use Rattle.protocol.specs.Data.{pick, Data, Duty, first_of}
use Rattle.protocol.specs.Client.{Share, has_slot, without, not_for, shares_not_for}
use Rattle.safety.proofs.Picks.{pick_both}
use Rattle.stored.specs.Stored.{empty, Bank, free_bank, place_of}
use Rattle.keeper.specs.Step.{all_freed, shown, decides, bank_after}

pub first_length : {A : Type 0} (n : ℕ) (xs : List A) → length (first_of n xs) ≤ n
unfolding first_of
first_length zero xs = omega arith
first_length (suc n) [] = omega arith
first_length (suc n) (x ∷ xs) = omega (arith, first_length n xs)

-- one is dropped or stays, by a test
dropped_length : {A : Type 0} (b : Bool) (x : A) (less : List A) (n : ℕ) → length less ≤ n → length (pick b less (x ∷ less)) ≤ suc n
dropped_length b x less n h = pick_both b less (x ∷ less) (λ t. length t ≤ suc n) (λ _. omega arith) (λ _. omega arith)

pub without_length : (k : ℕ) (ds : List Data) → length (without k ds) ≤ length ds
unfolding without
without_length k [] = omega arith
without_length k (d ∷ ds) = dropped_length (eqb d.slot k) d (without k ds) (length ds) (without_length k ds)

pub not_for_length : (ds : List Data) (ys : List Duty) → length (not_for ds ys) ≤ length ys
unfolding not_for
not_for_length ds [] = omega arith
not_for_length ds (y ∷ ys) =
    dropped_length (has_slot y.slot ds) y (not_for ds ys) (length ys) (not_for_length ds ys)

pub shares_not_for_length : (ds : List Data) (ss : List Share) → length (shares_not_for ds ss) ≤ length ss
unfolding shares_not_for
shares_not_for_length ds [] = omega arith
shares_not_for_length ds (s ∷ ss) =
    dropped_length (has_slot s.what.slot ds) s (shares_not_for ds ss) (length ss) (shares_not_for_length ds ss)

-- another one at a place, of which P holds if it held of the one that was there
pub all_set_at : {A : Type 0} (P : A → Type 0) (xs : List A) (i : ℕ) (d x : A) → (P (get_or xs i d) → P x) → AllByRecursion P xs → AllByRecursion P (set xs i x)
all_set_at P [] i d x f h = tt
all_set_at P (y ∷ ys) zero d x f h = (f h.0, h.1)
all_set_at P (y ∷ ys) (suc i) d x f h = (h.0, all_set_at P ys i d x f h.1)

pub all_replicate : {A : Type 0} (P : A → Type 0) (n : ℕ) (x : A) → P x → AllByRecursion P (replicate n x)
all_replicate P zero x h = tt
all_replicate P (suc n) x h = (h, all_replicate P n x h)

-- banks that are freed
pub all_freed_length : (n : ℕ) (ys : List Duty) (bs : List Bank) → length (all_freed n ys bs) ≡ length bs
unfolding all_freed
all_freed_length n [] bs = refl
all_freed_length n (y ∷ ys) bs =
    let there : ℕ = place_of (suc y.slot) bs in
    all_freed_length n ys (set bs there (free_bank n)) ∙ length-set bs there (free_bank n)

pub all_freed_all : (P : Bank → Type 0) (n : ℕ) → P (free_bank n) → (ys : List Duty) (bs : List Bank) → AllByRecursion P bs → AllByRecursion P (all_freed n ys bs)
unfolding all_freed
all_freed_all P n free [] bs h = h
all_freed_all P n free (y ∷ ys) bs h =
    let there : ℕ = place_of (suc y.slot) bs in
    all_freed_all P n free ys (set bs there (free_bank n)) (All-set P bs there (free_bank n) free h)

-- a bank after a block is free, or cleared, or as it was
pub bank_after_one : (P : Bank → Type 0) (n : ℕ) (ys : List Duty) (all : List Data) (b : Bank) → P (free_bank n) → P (record { mark = b.mark; cells = replicate n empty }) → P b → P (bank_after n ys all b)
bank_after_one P n ys all b free cleared same =
    let empty_bank : Bank = record { mark = b.mark; cells = replicate n empty } in
    pick_both (shown all b.mark) (pick (decides ys b.mark) (free_bank n) empty_bank) b P
    (λ _. pick_both (decides ys b.mark) (free_bank n) empty_bank P (λ _. free) (λ _. cleared)) (λ _. same)
