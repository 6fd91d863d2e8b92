-- Banks that are taken and freed hold what came for the slots of one duty more, or fewer; and as many are free as duties leave. Assumes nothing.
use Rattle.std.proofs.Common.{◌≡◌, ℕ, zero, suc, ◌+◌, ◌*◌, ◌<◌, ◌≤◌, List, [], ◌∷◌, ◌++◌, length, replicate, sym, refl, ap, ◌∙◌, subst, arith, length-set}
use Rattle.std.specs.List.{AllByRecursion}
use Rattle.std.proofs.ByRecursion.{All-set, All-get_or}
use Rattle.protocol.specs.Data.{Duty}
use Rattle.protocol.specs.Client.{Share}
use Rattle.stored.specs.Stored.{Bank, empty, free_bank, place_of, bank_at, taken, freed}
use Rattle.stored.specs.Stands.{cells_of, bank_of, AsMarked, banks_for, duties_for, BanksHold}
use Rattle.keeper.specs.Step.{all_freed}
use Rattle.keeper.proofs.Marks.{hit, hit_same, hit_next, hit_none, hit_last, banks_more, duties_more, banks_set, place_found}

-- the duties matter only by how many there are for each slot
pub rearranged : {n w : ℕ} {got : List Share} {ys zs : List Duty} {bs : List Bank} → ((k : ℕ) → duties_for k ys ≡ duties_for k zs) →
    BanksHold n w got ys bs → BanksHold n w got zs bs
rearranged e h = record { many = h.many; each = h.each; marks = λ k. h.marks k ∙ e k }

-- the first bank with a slot's mark freed: there is one mark less
freed_count : (n k j : ℕ) (bs : List Bank) → 1 ≤ banks_for (suc k) bs → banks_for j (freed n k bs) + hit (suc k) j ≡ banks_for j bs + hit 0 j
freed_count n k j bs some =
    let found = place_found (suc k) bs some in
    subst (λ (m : ℕ). banks_for j (freed n k bs) + hit m j ≡ banks_for j bs + hit 0 j) found.1
    (banks_set j bs (place_of (suc k) bs) (free_bank n) found.0)

-- a duty's slot has a bank
has_bank : (y : Duty) (ys : List Duty) (bs : List Bank) → ((k : ℕ) → banks_for (suc k) bs ≡ duties_for k (y ∷ ys)) → 1 ≤ banks_for (suc y.slot) bs
has_bank y ys bs marks = omega (arith, marks y.slot, duties_more y.slot y ys, hit_same y.slot)

-- freed, it counts for its slot no more
freed_marks : (n : ℕ) (y : Duty) (ys : List Duty) (bs : List Bank) → ((k : ℕ) → banks_for (suc k) bs ≡ duties_for k (y ∷ ys)) →
    (k : ℕ) → banks_for (suc k) (freed n y.slot bs) ≡ duties_for k ys
freed_marks n y ys bs marks k =
    omega (arith, marks k, duties_more k y ys, freed_count n y.slot (suc k) bs (has_bank y ys bs marks), hit_next y.slot k, hit_none k)

-- the bank of a duty's slot freed
pub freed_holds : {n w : ℕ} {got : List Share} {y : Duty} {ys : List Duty} {bs : List Bank} → BanksHold n w got (y ∷ ys) bs → BanksHold n w got ys (freed n y.slot bs)
unfolding bank_of
freed_holds {n} {w} {got} {y} {ys} {bs} h =
    record {
      many = length-set bs (place_of (suc y.slot) bs) (free_bank n) ∙ h.many;
      each = All-set (AsMarked n got) bs (place_of (suc y.slot) bs) (free_bank n) refl h.each;
      marks = freed_marks n y ys bs h.marks;
    }

-- the banks of these duties' slots freed, and those of others left
pub all_freed_holds : {n w : ℕ} {got : List Share} (ys : List Duty) {zs : List Duty} {bs : List Bank} → BanksHold n w got (ys ++ zs) bs → BanksHold n w got zs (all_freed n ys bs)
unfolding all_freed
all_freed_holds [] h = h
all_freed_holds (y ∷ ys) h = all_freed_holds ys (freed_holds h)

-- with no mark of a slot, all banks are free
no_marks : (bs : List Bank) → ((k : ℕ) → banks_for (suc k) bs ≡ 0) → banks_for 0 bs ≡ length bs
unfolding banks_for
no_marks [] none = refl
no_marks (b ∷ bs) none =
    let rest = no_marks bs (λ k. omega (arith, none k, banks_more (suc k) b bs)) in
    by_mark b.mark refl rest
  where
    by_mark : (m : ℕ) → b.mark ≡ m → banks_for 0 bs ≡ length bs → banks_for 0 (b ∷ bs) ≡ suc (length bs)
    by_mark zero e rest = omega (arith, banks_more 0 b bs, ap (λ m. hit m 0) e, hit_same 0)
    by_mark (suc k) e rest = absurd (omega (arith, none k, banks_more (suc k) b bs, ap (λ m. hit m (suc k)) e, hit_same (suc k)))

-- as many banks have the mark of a slot as there are duties, and the others are free
free_and_used : (ys : List Duty) (bs : List Bank) → ((k : ℕ) → banks_for (suc k) bs ≡ duties_for k ys) → banks_for 0 bs + length ys ≡ length bs
unfolding duties_for
free_and_used [] bs marks = omega (arith, no_marks bs marks)
free_and_used (y ∷ ys) bs marks =
    let n : ℕ = 0 in
    let rest = free_and_used ys (freed n y.slot bs) (freed_marks n y ys bs marks) in
    omega (arith, freed_count n y.slot 0 bs (has_bank y ys bs marks), hit_same 0, hit_last y.slot, length-set bs (place_of (suc y.slot) bs) (free_bank n))

-- the bank at the place of a mark is as the mark asks
pub kept_at : (n m : ℕ) (got : List Share) (bs : List Bank) → AllByRecursion (AsMarked n got) bs → 1 ≤ banks_for m bs → bank_at bs (place_of m bs) ≡ bank_of n got m
kept_at n m got bs kept some =
    let found = place_found m bs some in
    All-get_or (AsMarked n got) bs (place_of m bs) (free_bank 0) found.0 kept ∙ ap (bank_of n got) found.1

-- a free bank taken for a duty, of whose slot nothing came
pub taken_holds : {n w : ℕ} {got : List Share} {y : Duty} {ys : List Duty} {bs : List Bank} → length ys < 2 * w → cells_of n got y.slot ≡ replicate n empty →
    BanksHold n w got ys bs → BanksHold n w got (y ∷ ys) (taken y.slot bs)
unfolding bank_of
taken_holds {n} {w} {got} {y} {ys} {bs} room none h =
    let some : 1 ≤ banks_for 0 bs = omega (arith, free_and_used ys bs h.marks, h.many) in
    let found = place_found 0 bs some in
    let i : ℕ = place_of 0 bs in
    let b : Bank = record { mark = suc y.slot; cells = (bank_at bs i).cells } in
    let is : AsMarked n got b =
    ap (λ cs. record { mark = suc y.slot; cells = cs }) (ap (λ (c : Bank). c.cells) (kept_at n 0 got bs h.each some) ∙ sym none) in
    record {
      many = length-set bs i b ∙ h.many;
      each = All-set (AsMarked n got) bs i b is h.each;
      marks = λ k.
          omega (arith, h.marks k, duties_more k y ys, banks_set (suc k) bs i b found.0, ap (λ m. hit m (suc k)) found.1, hit_none k, hit_next y.slot k);
    }
