-- What is ahead after a block can be made by dropping what is before the next slot, and then putting the block's data in one by one, with the first of it kept each time.
use Rattle.std.proofs.Common.{◌≡◌, ℕ, zero, suc, ◌<◌, ◌≤◌, leb, List, [], ◌∷◌, length, sym, refl, ap, ◌∙◌, ⊎_elim, arith}
use Rattle.std.proofs.lemmas.List.{take_all}
use Rattle.std.proofs.lemmas.Bool.{cases_lt, lt-ltb, le-ltb, leb-true, leb-false, cases_order}
use Rattle.protocol.specs.Data.{pick, Data, first_of}
use Rattle.protocol.specs.Client.{by_slot, all_by_slot, above}
use Rattle.past.proofs.Laws.{first_of_is}
use Rattle.rows.proofs.Laws.{kept_length}
use Rattle.safety.proofs.Picks.{pick_both, pick_true}
use Rattle.keeper.specs.Step.{still_after}
use Rattle.keeper.specs.Told.{taken_in}
use Rattle.keeper.proofs.Marks.{pick_false}
use Rattle.keeper.proofs.Told.{put_alone, put_before, put_instead, put_past, put_cases}
use Rattle.keeper.proofs.ToldKept.{still_after_kept}

-- what is from slot j on: one for such a slot stays, one for a slot before it goes
still_in : (j : ℕ) (x : Data) (xs : List Data) → j ≤ x.slot → still_after j (x ∷ xs) ≡ x ∷ still_after j xs
unfolding still_after above
still_in zero x xs h = refl
still_in (suc k) x xs h = pick_true _ _ _ (lt-ltb k x.slot h)

still_out : (j : ℕ) (x : Data) (xs : List Data) → x.slot < j → still_after j (x ∷ xs) ≡ still_after j xs
unfolding still_after above
still_out zero x xs h = absurd (omega arith)
still_out (suc k) x xs h = pick_false _ _ _ (le-ltb k x.slot (omega arith))

still_none : (j : ℕ) → still_after j [] ≡ []
unfolding still_after above
still_none zero = refl
still_none (suc k) = refl

still_length : (j : ℕ) (xs : List Data) → length (still_after j xs) ≤ length xs
still_length j xs = rw (still_after_kept j xs) (kept_length _ xs)

-- one for a slot from j on may be put in before or after the others are dropped; one for a slot before j makes no difference
still_put : (j : ℕ) (d : Data) (xs : List Data) → j ≤ d.slot → still_after j (by_slot d xs) ≡ by_slot d (still_after j xs)
still_put j d [] h = rw (put_alone d, still_in j d [] h, still_none j, put_alone d)
still_put j d (x ∷ xs) h =
    ⊎_elim (λ e. rw (put_instead d x xs e, still_in j d xs h, still_in j x xs (omega arith), put_instead d x (still_after j xs) e))
    (⊎_elim
    (λ less. rw (put_before d x xs less, still_in j d (x ∷ xs) h, still_in j x xs (omega arith), put_before d x (still_after j xs) less))
    (λ more.
    ⊎_elim
    (λ out. rw (put_past d x xs more, still_out j x (by_slot d xs) out, still_out j x xs out) (still_put j d xs h))
    (λ stays. rw (put_past d x xs more, still_in j x (by_slot d xs) stays, still_in j x xs stays, put_past d x (still_after j xs) more) (ap (λ t. x ∷ t) (still_put j d xs h)))
    (cases_lt x.slot j)))
    (cases_order d.slot x.slot)

still_left_out : (j : ℕ) (d : Data) (xs : List Data) → d.slot < j → still_after j (by_slot d xs) ≡ still_after j xs
still_left_out j d [] h = rw (put_alone d, still_out j d [] h)
still_left_out j d (x ∷ xs) h =
    put_cases d x xs (λ t. still_after j t ≡ still_after j (x ∷ xs)) (λ _. still_out j d (x ∷ xs) h)
    (λ e. rw (still_out j d xs h, still_out j x xs (omega arith)))
    (λ more. rw (still_out j x (by_slot d xs) (omega arith), still_out j x xs (omega arith)) (still_left_out j d xs h))

-- of the first m the first n; and one in front of the first w, of which the first w are kept
first_first : {A : Type 0} (n m : ℕ) (xs : List A) → n ≤ m → first_of n (first_of m xs) ≡ first_of n xs
unfolding first_of
first_first zero m xs h = refl
first_first (suc n) zero xs h = absurd (omega arith)
first_first (suc n) (suc m) [] h = refl
first_first (suc n) (suc m) (x ∷ xs) h = ap (λ t. x ∷ t) (first_first n m xs (omega arith))

first_behind : {A : Type 0} (w : ℕ) (x : A) (xs : List A) → first_of w (x ∷ first_of w xs) ≡ first_of w (x ∷ xs)
unfolding first_of
first_behind zero x xs = refl
first_behind (suc w) x xs = ap (λ t. x ∷ t) (first_first w (suc w) xs (omega arith))

-- the first w with one more put in need only the first w that were there
first_put : (w : ℕ) (d : Data) (xs : List Data) → first_of w (by_slot d (first_of w xs)) ≡ first_of w (by_slot d xs)
unfolding first_of
first_put zero d xs = refl
first_put (suc w) d [] = refl
first_put (suc w) d (x ∷ xs) =
    ⊎_elim (λ e. rw (put_instead d x xs e, put_instead d x (first_of w xs) e) (ap (λ t. d ∷ t) (first_first w w xs (omega arith))))
    (⊎_elim (λ less. rw (put_before d x xs less, put_before d x (first_of w xs) less) (ap (λ t. d ∷ t) (first_behind w x xs)))
    (λ more. rw (put_past d x xs more, put_past d x (first_of w xs) more) (ap (λ t. x ∷ t) (first_put w d xs))))
    (cases_order d.slot x.slot)

-- so each of a block's data may be put in by itself, whatever was ahead
one_told : (w j : ℕ) (d : Data) (xs : List Data) →
    first_of w (still_after j (by_slot d xs)) ≡ pick (leb j d.slot) (first_of w (by_slot d (first_of w (still_after j xs)))) (first_of w (still_after j xs))
one_told w j d xs =
    let before : List Data = first_of w (still_after j xs) in
    pick_both (leb j d.slot) (first_of w (by_slot d before)) before (λ t. first_of w (still_after j (by_slot d xs)) ≡ t)
    (λ e. ap (first_of w) (still_put j d xs (leb-true j d.slot e)) ∙ sym (first_put w d (still_after j xs)))
    (λ e. ap (first_of w) (still_left_out j d xs (leb-false j d.slot e)))

first_told : (w j : ℕ) (ds xs : List Data) → first_of w (still_after j (all_by_slot ds xs)) ≡ taken_in w j ds (first_of w (still_after j xs))
unfolding all_by_slot taken_in
first_told w j [] xs = refl
first_told w j (d ∷ ds) xs = first_told w j ds (by_slot d xs) ∙ ap (taken_in w j ds) (one_told w j d xs)

-- what is ahead after a block, where no more than w were ahead
pub still_told : (w j : ℕ) (ds xs : List Data) → length xs ≤ w → first_of w (still_after j (all_by_slot ds xs)) ≡ taken_in w j ds (still_after j xs)
still_told w j ds xs few =
    let left : List Data = still_after j xs in
    first_told w j ds xs ∙ ap (taken_in w j ds) (first_of_is w left ∙ take_all w left (omega (arith, still_length j xs)))
