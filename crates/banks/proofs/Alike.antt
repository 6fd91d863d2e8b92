-- What the numbers of a cell tell: whether it is empty, and whether it says the same as a share; and how many cells do.
use Rattle.std.proofs.Common.{◌≡◌, ℕ, suc, ◌+◌, ◌*◌, ◌/◌, Bool, true, false, cond, eqb, List, [], ◌∷◌, map, length, get_or, take, drop, Decides, append-nil, sym, refl, ap, ◌∙◌, subst, arith, get_or-drop, get_or-take}
use lib.Pointwise.{pointwise}
use Rattle.std.specs.List.{filter}
use Rattle.std.specs.Simd.{first_chunks}
use Rattle.std.proofs.lemmas.List.{length-map}
use Rattle.std.proofs.lemmas.Bool.{eqb-true, eq-eqb, ne_eqb, and_parts, and_from, false≢true}
use Rattle.std.proofs.lemmas.Bool.Decides.{same_from_decides, Decides-eqb}
use Rattle.std.proofs.lemmas.Slice.Eq.{slice_eq-Decides}
use Rattle.protocol.specs.Data.{pick, Data, same}
use Rattle.safety.proofs.Same.{same_refl, same_to}
use Rattle.rows.specs.Rows.{rows}
use Rattle.rows.proofs.Laws.{chunks_are, rows_flat}
use Rattle.stored.specs.Stored.{Cell, empty, holds, is_empty, says, alike}
use Rattle.stored.specs.Numbers.{cell_numbers, cell_in}
use Rattle.stored.proofs.Entries.{cell_back, cell_length}
use Rattle.stored.proofs.Listed.{wide_map}
use Rattle.stored.proofs.Parts.{wide_length}
use Rattle.banks.specs.Banks.{numbers_of}

-- the first number says whether a cell is empty
first_tells : (x : ℕ) (c : Cell) → x ≡ get_or (cell_numbers c) 0 0 → eqb x 0 ≡ is_empty c
unfolding cell_numbers is_empty
first_tells x empty e = eq-eqb x 0 e
first_tells x (holds seat d) e = ne_eqb x 0 (λ none. omega arith)

pub empty_tells : (s : ℕ) (xs : List ℕ) (c : Cell) → take 18 (drop s xs) ≡ cell_numbers c → eqb (get_or xs s 0) 0 ≡ is_empty c
empty_tells s xs c e =
    let start : s ≡ s + 0 = omega arith in
    first_tells (get_or xs s 0) c
    (ap (λ k. get_or xs k 0) start ∙ sym (get_or-drop s xs 0 0) ∙ sym (get_or-take 18 (drop s xs) 0 0 (omega arith)) ∙ ap (λ (t : List ℕ). get_or t 0 0) e)

-- cells with the same numbers are the same
same_cell : (c c' : Cell) → cell_numbers c ≡ cell_numbers c' → c ≡ c'
same_cell c c' e = sym (cell_back c) ∙ ap cell_in e ∙ cell_back c'

-- a cell says data for a seat where it holds just that
says_itself : (seat : ℕ) (d : Data) → says seat d (holds seat d) ≡ true
unfolding says
says_itself seat d = and_from (same d d) (eqb seat seat) (same_refl d) (eq-eqb seat seat refl)

says_tells : (seat : ℕ) (d : Data) (c : Cell) → says seat d c ≡ true → c ≡ holds seat d
unfolding says
says_tells seat d empty h = absurd (false≢true h)
says_tells seat d (holds seat' d') h =
    let parts = and_parts (same d' d) (eqb seat' seat) h in
    let data_is = same_to d' d parts.0 in
    let seat_is = eqb-true seat' seat parts.1 in
    cc

-- so it says that just where it has its numbers
says_decides : (seat : ℕ) (d : Data) (c : Cell) → Decides (says seat d c) (cell_numbers c ≡ cell_numbers (holds seat d))
says_decides seat d c =
    (λ h. ap cell_numbers (says_tells seat d c h), λ e. subst (λ (x : Cell). says seat d x ≡ true) (sym (same_cell c (holds seat d) e)) (says_itself seat d))

-- one cell more that is just the one that is wanted, or another
counted_more : (r r' : Bool) (c : List ℕ) (rs : List (List ℕ)) (n : ℕ) → r ≡ r' → length rs ≡ n → length (cond r (c ∷ rs) rs) ≡ pick r' (suc n) n
unfolding pick
counted_more true true c rs n e h = ap suc h
counted_more false false c rs n e h = h
counted_more true false c rs n e h = absurd (false≢true (sym e))
counted_more false true c rs n e h = absurd (false≢true e)

pub same_count : (seat : ℕ) (d : Data) (cs : List Cell) → length (filter (λ c. pointwise eqb c (cell_numbers (holds seat d))) (map cell_numbers cs)) ≡ alike seat d cs
unfolding alike
same_count seat d [] = refl
same_count seat d (c ∷ cs) =
    counted_more _ _ _ _ _
    (same_from_decides (pointwise eqb (cell_numbers c) (cell_numbers (holds seat d))) _ (slice_eq-Decides Decides-eqb _ _ _ refl) (says_decides seat d c))
    (same_count seat d cs)

-- how many numbers the cells of a bank have, and the cells as they are cut out of them
pub how_many : (cs : List Cell) → length (numbers_of cs) ≡ 18 * length cs
how_many cs =
    wide_length 18 (map cell_numbers cs) (wide_map 18 cell_numbers cell_length cs) ∙ ap (λ k. 18 * k) (length-map cs cell_numbers)

pub cut_out : (cs : List Cell) → first_chunks 18 (length (numbers_of cs) / 18) (numbers_of cs) ≡ map cell_numbers cs
cut_out cs =
    let many : length (numbers_of cs) / 18 ≡ length (map cell_numbers cs) = omega (arith, how_many cs, length-map cs cell_numbers) in
    ap (λ n. first_chunks 18 n (numbers_of cs)) many
    ∙ chunks_are 18 _ (numbers_of cs)
    ∙ ap (rows 18 (length (map cell_numbers cs))) (sym (append-nil (numbers_of cs)))
    ∙ rows_flat 18 (map cell_numbers cs) [] (wide_map 18 cell_numbers cell_length cs)
