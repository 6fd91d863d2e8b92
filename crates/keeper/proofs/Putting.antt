-- A share that is taken goes into its client's cell of the bank of its slot, and all other banks stay as they are. Assumes nothing.
use Rattle.std.proofs.Common.{◌≡◌, ℕ, zero, suc, ◌+◌, ◌<◌, ◌≤◌, Bool, true, false, not, ◌||◌, eqb, ltb, List, [], ◌∷◌, ◌++◌, length, get_or, set, sym, refl, ap, ◌∙◌, arith, length-set}
use Rattle.std.specs.List.{AllByRecursion}
use Rattle.std.proofs.lemmas.Bool.{eqb-true, eqb-false, ltb-true, lt-ltb}
use Rattle.std.proofs.lemmas.Bool.Decides.{nat_tests}
use Rattle.protocol.specs.Data.{pick}
use Rattle.protocol.specs.Client.{Share, State, listens, heard, from_him}
use Rattle.safety.proofs.Picks.{pick_both, pick_two}
use Rattle.stored.specs.Stored.{Cell, empty, holds, Bank, place_of, bank_at, with_cells, is_empty}
use Rattle.stored.specs.Stands.{cells_of, bank_of, AsMarked, banks_for, duties_for, BanksHold}
use Rattle.keeper.proofs.Marks.{hit, hit_same, banks_more, banks_set, duties_both, place_found, found_test}
use Rattle.keeper.proofs.Duties.{some_counted}
use Rattle.keeper.proofs.Banks.{kept_at}
use Rattle.keeper.proofs.Cells.{cells_at, cells_same, cells_put, cell_other, cell_heard, cell_empty}

-- a slot is listened for where some duty counts for it
some_listens : (a b : ℕ) → (ltb 0 a || ltb 0 b) ≡ ltb 0 (a + b)
some_listens a b = grind (arith, nat_tests)

listens_counted : (s : State) (k : ℕ) → listens s k ≡ ltb 0 (duties_for k (s.active ++ s.queue))
listens_counted s k =
    rw (some_counted k s.active, some_counted k s.queue, duties_both k s.active s.queue) (some_listens (duties_for k s.active) (duties_for k s.queue))

-- a bank is as its mark asks with other shares, where they leave the cells of its slot
bank_as : (n m : ℕ) (got more : List Share) → ((j : ℕ) → m ≡ suc j → cells_of n got j ≡ cells_of n more j) → bank_of n got m ≡ bank_of n more m
unfolding bank_of
bank_as n zero got more same_cells = refl
bank_as n (suc j) got more same_cells = ap (λ cs. record { mark = suc j; cells = cs }) (same_cells j refl)

-- and so for all banks, where other shares leave the cells of every slot that has a bank
kept_as : (n : ℕ) (got more : List Share) (bs : List Bank) → ((j : ℕ) → 1 ≤ banks_for (suc j) bs → cells_of n got j ≡ cells_of n more j) → AllByRecursion (AsMarked n got) bs → AllByRecursion (AsMarked n more) bs
kept_as n got more [] same_cells kept = tt
kept_as n got more (b ∷ bs) same_cells kept = (
  kept.0 ∙ bank_as n b.mark got more (λ j e. same_cells j (omega (arith, banks_more (suc j) b bs, ap (λ m. hit m (suc j)) e, hit_same (suc j)))),
  kept_as n got more bs (λ j some. same_cells j (omega (arith, banks_more (suc j) b bs))) kept.1,
)

-- a bank put in the place of the only one with the mark of its slot
kept_put : (n k : ℕ) (got more : List Share) (b : Bank) (bs : List Bank) → banks_for (suc k) bs ≤ 1 → AsMarked n more b →
    ((j : ℕ) → (j ≡ k → ⊥) → cells_of n got j ≡ cells_of n more j) → AllByRecursion (AsMarked n got) bs → AllByRecursion (AsMarked n more) (set bs (place_of (suc k) bs) b)
unfolding place_of
kept_put n k got more b [] one is others kept = tt
kept_put n k got more b (c ∷ bs) one is others kept =
    pick_both (eqb c.mark (suc k)) 0 (suc (place_of (suc k) bs)) (λ i. AllByRecursion (AsMarked n more) (set (c ∷ bs) i b))
    (λ e. (is, kept_as n got more bs (λ j some. others j (λ same. gone (eqb-true c.mark (suc k) e) j some same)) kept.1))
    (λ f. (
      kept.0 ∙ bank_as n c.mark got more (λ j e. others j (λ same. eqb-false c.mark (suc k) f (e ∙ ap suc same))),
      kept_put n k got more b bs (omega (arith, banks_more (suc k) c bs)) is others kept.1,
    ))
  where
    gone : c.mark ≡ suc k → (j : ℕ) → 1 ≤ banks_for (suc j) bs → j ≡ k → ⊥
    gone e j some same =
        omega (arith, banks_more (suc k) c bs, ap (λ m. hit m (suc k)) e, hit_same (suc k), ap (λ (i : ℕ). banks_for (suc i) bs) same)

-- a slot that is listened for has a bank
bank_there : {n w : ℕ} {got : List Share} {bs : List Bank} (s : State) (k : ℕ) → BanksHold n w got (s.active ++ s.queue) bs → listens s k ≡ true → 1 ≤ banks_for (suc k) bs
bank_there s k h on = omega (arith, h.marks k, ltb-true 0 (duties_for k (s.active ++ s.queue)) (sym (listens_counted s k) ∙ on))

-- and one that has a bank is listened for
bank_heard : {n w : ℕ} {got : List Share} {bs : List Bank} (s : State) (k : ℕ) → BanksHold n w got (s.active ++ s.queue) bs → 1 ≤ banks_for (suc k) bs → listens s k ≡ true
bank_heard s k h some = listens_counted s k ∙ lt-ltb 0 (duties_for k (s.active ++ s.queue)) (omega (arith, h.marks k))

-- the bank of a slot, with a share of it put in
abbrev put_in : Share → Bank → Bank
put_in x b = record { mark = b.mark; cells = set b.cells x.who (holds x.seat x.what) }

pub put_holds : (n w : ℕ) (s : State) (x : Share) (bs : List Bank) → x.who < n → listens s x.what.slot ≡ true → duties_for x.what.slot (s.active ++ s.queue) ≤ 1 →
    BanksHold n w s.got (s.active ++ s.queue) bs →
    BanksHold n w (x ∷ heard s s.got) (s.active ++ s.queue)
    (with_cells bs (place_of (suc x.what.slot) bs) (set (bank_at bs (place_of (suc x.what.slot) bs)).cells x.who (holds x.seat x.what)))
unfolding bank_of
put_holds n w s x bs low on one h =
    let k : ℕ = x.what.slot in
    let some = bank_there s k h on in
    let found = place_found (suc k) bs some in
    let i : ℕ = place_of (suc k) bs in
    let old : List Share = heard s s.got in
    let b : Bank = put_in x (bank_at bs i) in
    let kept : AllByRecursion (AsMarked n old) bs =
    kept_as n s.got old bs (λ j there. cells_same n s.got old j (λ c. cell_heard s j c s.got (bank_heard s j h there))) h.each in
    let is : AsMarked n (x ∷ old) b =
    ap (put_in x) (kept_at n (suc k) old bs kept some) ∙ ap (λ cs. record { mark = suc k; cells = cs }) (sym (cells_put n x old low))
    ∙ ap (bank_of n (x ∷ old)) (sym found.1) in
    record {
      many = length-set bs i b ∙ h.many;
      each = kept_put n k old (x ∷ old) b bs (omega (arith, h.marks k)) is
          (λ j other. cells_same n old (x ∷ old) j (λ c. cell_other j c x old (λ e. other (sym e)))) kept;
      marks = λ j. omega (arith, h.marks j, banks_set (suc j) bs i b found.0);
    }

-- the cells of a slot that is listened for are what came for it
pub slot_cells_are : (n w : ℕ) (got : List Share) (s : State) (k : ℕ) (bs : List Bank) → BanksHold n w got (s.active ++ s.queue) bs → listens s k ≡ true →
    (bank_at bs (place_of (suc k) bs)).cells ≡ cells_of n got k
unfolding bank_of
slot_cells_are n w got s k bs h on = ap (λ (b : Bank). b.cells) (kept_at n (suc k) got bs h.each (bank_there s k h on))

-- one number or the other, by a test or its opposite
pick_not : (b : Bool) (i j : ℕ) → pick (not b) i j ≡ pick b j i
unfolding pick
pick_not true i j = refl
pick_not false i j = refl

-- a share is turned away for the same reason
pub share_refused : (n w : ℕ) (s : State) (x : Share) (bs : List Bank) → x.who < n → BanksHold n w s.got (s.active ++ s.queue) bs →
    let i : ℕ = place_of (suc x.what.slot) bs in
    pick {A = ℕ} (ltb i (length bs)) (pick (is_empty (get_or (bank_at bs i).cells x.who empty)) 0 6) 5
    ≡ pick (listens s x.what.slot) (pick (from_him x.who x.what.slot s.got) 6 0) 5
share_refused n w s x bs low h =
    let k : ℕ = x.what.slot in
    let i : ℕ = place_of (suc k) bs in
    let c : Cell = get_or (bank_at bs i).cells x.who empty in
    let test : ltb i (length bs) ≡ listens s k = found_test (suc k) bs ∙ ap (ltb 0) (h.marks k) ∙ sym (listens_counted s k) in
    ap (λ b. pick b (pick (is_empty c) 0 6) 5) test
    ∙ pick_two (listens s k) (pick (is_empty c) 0 6) 5 (pick (from_him x.who k s.got) 6 0) 5 (λ p q. p ≡ q)
    (λ on. ap (λ b. pick b 0 6) (ap (λ cs. is_empty (get_or cs x.who empty)) (slot_cells_are n w s.got s k bs h on)
    ∙ ap is_empty (cells_at n s.got k x.who empty low) ∙ cell_empty k x.who s.got)
    ∙ pick_not (from_him x.who k s.got) 0 6) (λ _. refl)
