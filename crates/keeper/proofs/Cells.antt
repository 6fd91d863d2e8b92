-- The cells of a slot by the shares that came: one share more fills a cell, and what is dropped for other slots leaves them. As many cells say a thing as
-- clients signed it. Assumes nothing.
use Rattle.std.proofs.Common.{◌≡◌, ℕ, ◌<◌, Bool, true, false, not, ◌&&◌, ◌||◌, eqb, List, [], ◌∷◌, length, get_or, set, replicate, sym, refl, ap, ◌∙◌, subst, inl, inr, ⊎_elim, arith, length-set}
use lib.ListN.{length-replicate}
use Rattle.std.proofs.lemmas.List.FromFn.{length-map-range_with_len, get_or-map-range_with_len}
use Rattle.std.proofs.lemmas.List.{ext_get_or, get_or-replicate, get_or-set_same, get_or-set_other}
use Rattle.std.proofs.lemmas.Bool.{eq-eqb, ne_eqb, and_left, and_right, and_from, both_ways, cases_eq}
use Rattle.protocol.specs.Data.{pick, Data}
use Rattle.protocol.specs.Client.{Share, State, listens, heard, has_slot, shares_not_for, from_him}
use Rattle.protocol.specs.Refusals.{Member}
use Rattle.safety.proofs.Picks.{pick_both, pick_true}
use Rattle.stored.specs.Stored.{Cell, empty, holds, is_empty}
use Rattle.stored.specs.Stands.{cell_of, cells_of}
use Rattle.keeper.proofs.Marks.{pick_false}

-- a cell for each client, and each is what that client has
pub cells_length : (n : ℕ) (got : List Share) (k : ℕ) → length (cells_of n got k) ≡ n
unfolding cells_of
cells_length n got k = length-map-range_with_len (cell_of k got) 0 n

pub cells_at : (n : ℕ) (got : List Share) (k i : ℕ) (d : Cell) → i < n → get_or (cells_of n got k) i d ≡ cell_of k got i
unfolding cells_of
cells_at n got k i d h = get_or-map-range_with_len (cell_of k got) 0 n i i d h (omega arith)

-- cells are told by what each client has
cells_are : (n : ℕ) (got : List Share) (k : ℕ) (cs : List Cell) → length cs ≡ n → ((i : ℕ) → i < n → get_or cs i empty ≡ cell_of k got i) → cells_of n got k ≡ cs
cells_are n got k cs long each =
    ext_get_or empty (cells_of n got k) cs (cells_length n got k ∙ sym long)
    (λ i h. let less : i < n = omega (arith, cells_length n got k) in cells_at n got k i empty less ∙ sym (each i less))

-- the same cells, and none but empty ones
pub cells_same : (n : ℕ) (got more : List Share) (k : ℕ) → ((i : ℕ) → cell_of k more i ≡ cell_of k got i) → cells_of n got k ≡ cells_of n more k
cells_same n got more k same_cells = cells_are n got k (cells_of n more k) (cells_length n more k) (λ i h. cells_at n more k i empty h ∙ same_cells i)

pub cells_none : (n : ℕ) (got : List Share) (k : ℕ) → ((i : ℕ) → cell_of k got i ≡ empty) → cells_of n got k ≡ replicate n empty
cells_none n got k none =
    cells_are n got k (replicate n empty) (length-replicate n empty) (λ i h. get_or-replicate n i empty empty h ∙ sym (none i))

-- a share for another slot leaves a slot's cells
pub cell_other : (k i : ℕ) (x : Share) (xs : List Share) → (x.what.slot ≡ k → ⊥) → cell_of k (x ∷ xs) i ≡ cell_of k xs i
unfolding cell_of
cell_other k i x xs other = pick_false (eqb x.who i && eqb x.what.slot k) _ _ (and_right (eqb x.who i) _ (ne_eqb x.what.slot k other))

-- one before the same shares
cell_more : (k i : ℕ) (x : Share) (xs ys : List Share) → cell_of k xs i ≡ cell_of k ys i → cell_of k (x ∷ xs) i ≡ cell_of k (x ∷ ys) i
unfolding cell_of
cell_more k i x xs ys e = ap (λ c. pick (eqb x.who i && eqb x.what.slot k) (holds x.seat x.what) c) e

-- where no share is for the slot, its cells are empty
pub cell_none : (k i : ℕ) (xs : List Share) → ((x : Share) → Member x xs → x.what.slot ≡ k → ⊥) → cell_of k xs i ≡ empty
unfolding cell_of
cell_none k i [] none = refl
cell_none k i (x ∷ xs) none = cell_other k i x xs (none x (inl refl)) ∙ cell_none k i xs (λ z m. none z (inr m))

-- what is dropped is for slots that are not listened for, or that were told
pub cell_heard : (s : State) (k i : ℕ) (xs : List Share) → listens s k ≡ true → cell_of k (heard s xs) i ≡ cell_of k xs i
unfolding heard
cell_heard s k i [] on = refl
cell_heard s k i (x ∷ xs) on =
    let rest = cell_heard s k i xs on in
    pick_both (listens s x.what.slot) (x ∷ heard s xs) (heard s xs) (λ ys. cell_of k ys i ≡ cell_of k (x ∷ xs) i)
    (λ _. cell_more k i x (heard s xs) xs rest)
    (λ f. rest ∙ sym (cell_other k i x xs (λ e. both_ways (listens s k) (subst (λ (j : ℕ). listens s j ≡ false) e f) on)))

pub cell_left : (ds : List Data) (k i : ℕ) (xs : List Share) → has_slot k ds ≡ false → cell_of k (shares_not_for ds xs) i ≡ cell_of k xs i
unfolding shares_not_for
cell_left ds k i [] off = refl
cell_left ds k i (x ∷ xs) off =
    let rest = cell_left ds k i xs off in
    pick_both (has_slot x.what.slot ds) (shares_not_for ds xs) (x ∷ shares_not_for ds xs) (λ ys. cell_of k ys i ≡ cell_of k (x ∷ xs) i)
    (λ t. rest ∙ sym (cell_other k i x xs (λ e. both_ways (has_slot k ds) off (subst (λ (j : ℕ). has_slot j ds ≡ true) e t))))
    (λ _. cell_more k i x (shares_not_for ds xs) xs rest)

pub cell_gone : (ds : List Data) (k i : ℕ) (xs : List Share) → has_slot k ds ≡ true → cell_of k (shares_not_for ds xs) i ≡ empty
unfolding shares_not_for cell_of
cell_gone ds k i [] on = refl
cell_gone ds k i (x ∷ xs) on =
    let rest = cell_gone ds k i xs on in
    pick_both (has_slot x.what.slot ds) (shares_not_for ds xs) (x ∷ shares_not_for ds xs) (λ ys. cell_of k ys i ≡ empty) (λ _. rest)
    (λ f. cell_other k i x (shares_not_for ds xs) (λ e. both_ways (has_slot k ds) (subst (λ (j : ℕ). has_slot j ds ≡ false) e f) on) ∙ rest)

-- a cell is empty where no share of the client came for the slot
pub cell_empty : (k i : ℕ) (xs : List Share) → is_empty (cell_of k xs i) ≡ not (from_him i k xs)
unfolding cell_of from_him is_empty pick
cell_empty k i [] = refl
cell_empty k i (x ∷ xs) = by_test (eqb x.who i && eqb x.what.slot k) (cell_empty k i xs)
  where
    by_test : (b : Bool) → is_empty (cell_of k xs i) ≡ not (from_him i k xs) → is_empty (pick b (holds x.seat x.what) (cell_of k xs i)) ≡ not (b || from_him i k xs)
    by_test true rest = refl
    by_test false rest = rest

-- a share more is put into its client's cell
pub cells_put : (n : ℕ) (x : Share) (xs : List Share) → x.who < n → cells_of n (x ∷ xs) x.what.slot ≡ set (cells_of n xs x.what.slot) x.who (holds x.seat x.what)
unfolding cell_of
cells_put n x xs low =
    let k : ℕ = x.what.slot in
    let c : Cell = holds x.seat x.what in
    let cs : List Cell = cells_of n xs k in
    let long = cells_length n xs k in
    cells_are n (x ∷ xs) k (set cs x.who c) (length-set cs x.who c ∙ long)
    (λ i h. ⊎_elim
    (λ is. rw is (get_or-set_same cs x.who c empty (omega arith)
    ∙ sym (pick_true (eqb x.who x.who && eqb k k) c (cell_of k xs x.who) (and_from _ _ (eq-eqb x.who x.who refl) (eq-eqb k k refl)))))
    (λ other. get_or-set_other cs x.who i c empty other ∙ cells_at n xs k i empty h
    ∙ sym (pick_false (eqb x.who i && eqb k k) c (cell_of k xs i) (and_left _ _ (ne_eqb x.who i (λ e. other (sym e))))))
    (cases_eq i x.who))
