-- The memory of a new client is its header and zeros.
use Rattle.std.proofs.Common.{◌≡◌, ℕ, zero, suc, ◌+◌, ◌-◌, ◌*◌, ◌≤◌, List, [], ◌∷◌, ◌++◌, map, length, take, drop, replicate, sym, refl, ap, ◌∙◌, subst, ap₂, append-nil, mul-zero, mul-suc, arith, length-take}
use lib.ListN.{replicate-append-replicate}
use Rattle.rows.specs.Rows.{flat, laid}
use Rattle.past.specs.Past.{row_of}
use Rattle.stored.specs.Stored.{empty, Sizes, free_bank, fresh}
use Rattle.stored.specs.Numbers.{duty_numbers, data_numbers, share_numbers, cell_numbers, listed, marks, bank_numbers, bank_cells, header, needed, regions, encode}
use Rattle.stored.specs.Kept.{GoodSizes}
use Rattle.protocol.specs.declared.sizes.Limits.{Limits}
use Rattle.layout.specs.Layout.{limit_sizes, Opened}

-- zeros one after another
laid_none : (w n : ℕ) → laid w n [] ≡ replicate (w * n) 0
unfolding laid
laid_none w zero = ap (λ k. replicate k 0) (sym (mul-zero w))
laid_none w (suc n) =
    ap (λ t. replicate w 0 ++ t) (laid_none w n)
    ∙ replicate-append-replicate w (w * n) 0
    ∙ ap (λ k. replicate k 0) (omega (arith, mul-suc w n))

listed_none : {A : Type 0} (w n : ℕ) (numbers : A → List ℕ) → listed w n numbers [] ≡ replicate (1 + w * n) 0
unfolding listed
listed_none w n numbers =
    let one : suc (w * n) ≡ 1 + w * n = omega arith in
    ap (λ t. 0 ∷ t) (laid_none w n) ∙ ap (λ k. replicate k 0) one

marks_free : (n k : ℕ) → marks (replicate k (free_bank n)) ≡ replicate k 0
unfolding marks
marks_free n zero = refl
marks_free n (suc k) = ap (λ t. 0 ∷ t) (marks_free n k)

-- a free bank's numbers, and those of several
pub free_numbers : (n : ℕ) → flat (map cell_numbers (replicate n empty)) ≡ replicate (18 * n) 0
unfolding flat cell_numbers
free_numbers zero = refl
free_numbers (suc n) =
    ap (λ t. replicate 18 0 ++ t) (free_numbers n)
    ∙ replicate-append-replicate 18 (18 * n) 0
    ∙ ap (λ k. replicate k 0) (omega arith)

cells_free : (n k : ℕ) → bank_cells (replicate k (free_bank n)) ≡ replicate (18 * (n * k)) 0
unfolding bank_cells bank_numbers flat
cells_free n zero = ap (λ k. replicate (18 * k) 0) (sym (mul-zero n))
cells_free n (suc k) =
    ap₂ ◌++◌ (free_numbers n) (cells_free n k)
    ∙ replicate-append-replicate (18 * n) (18 * (n * k)) 0
    ∙ ap (λ j. replicate j 0) (omega (arith, mul-suc n k))

-- the zeros of all regions behind the header
rest_zeros : (z : Sizes) → listed 2 z.kept row_of [] ++ (listed 3 z.waiting duty_numbers [] ++ (listed 3 z.waiting duty_numbers [] ++ (listed 16 z.waiting data_numbers [] ++ (listed 18 z.waiting share_numbers [] ++ (marks (replicate (2 * z.waiting) (free_bank z.clients)) ++ (bank_cells (replicate (2 * z.waiting) (free_bank z.clients)) ++ [])))))) ≡ replicate (needed z - 8) 0
rest_zeros z =
    let w : ℕ = z.waiting in
    let cells = append-nil _ ∙ cells_free z.clients (2 * w) in
    let marked = ap₂ ◌++◌ (marks_free z.clients (2 * w)) cells ∙ replicate-append-replicate (2 * w) (18 * (z.clients * (2 * w))) 0 in
    let own = ap₂ ◌++◌ (listed_none 18 w share_numbers) marked ∙ replicate-append-replicate _ _ 0 in
    let ahead = ap₂ ◌++◌ (listed_none 16 w data_numbers) own ∙ replicate-append-replicate _ _ 0 in
    let active = ap₂ ◌++◌ (listed_none 3 w duty_numbers) ahead ∙ replicate-append-replicate _ _ 0 in
    let queue = ap₂ ◌++◌ (listed_none 3 w duty_numbers) active ∙ replicate-append-replicate _ _ 0 in
    let past = ap₂ ◌++◌ (listed_none 2 z.kept row_of) queue ∙ replicate-append-replicate _ _ 0 in
    let all : 1 + 2 * z.kept + (1 + 3 * w + (1 + 3 * w + (1 + 16 * w + (1 + 18 * w + (2 * w + 18 * (z.clients * (2 * w))))))) ≡ needed z - 8 = omega arith in
    past ∙ ap (λ k. replicate k 0) all

-- five numbers, and zeros
pub fresh_numbers : (z : Sizes) → encode (fresh z) ≡ 1 ∷ (z.clients ∷ (z.me ∷ (z.kept ∷ (z.waiting ∷ replicate (needed z - 5) 0))))
unfolding encode regions header flat
fresh_numbers z =
    let more : 3 + (needed z - 8) ≡ needed z - 5 = omega arith in
    ap (λ t. 1 ∷ (z.clients ∷ (z.me ∷ (z.kept ∷ (z.waiting ∷ (0 ∷ (0 ∷ (0 ∷ t)))))))) (rest_zeros z)
    ∙ ap (λ t. 1 ∷ (z.clients ∷ (z.me ∷ (z.kept ∷ (z.waiting ∷ t))))) (replicate-append-replicate 3 (needed z - 8) 0 ∙ ap (λ k. replicate k 0) more)

-- zeros over the front of a slice, and then the five numbers over theirs
new_memory : (z : Sizes) (k : ℕ) (xs zeros row : List ℕ) → k ≡ needed z → k ≤ length xs → zeros ≡ replicate (length (take k xs)) 0 → row ≡ 1 ∷ (z.clients ∷ (z.me ∷ (z.kept ∷ (z.waiting ∷ [])))) → row ++ drop 5 (zeros ++ drop k xs) ≡ encode (fresh z) ++ drop (needed z) xs
new_memory z k xs zeros row size room cleared five =
    let long : length (take k xs) ≡ 5 + (needed z - 5) = simp length-take (omega arith) in
    let front : zeros ≡ 0 ∷ (0 ∷ (0 ∷ (0 ∷ (0 ∷ replicate (needed z - 5) 0)))) =
    cleared ∙ ap (λ j. replicate j 0) long ∙ sym (replicate-append-replicate 5 (needed z - 5) 0) in
    ap₂ (λ (r p : List ℕ). r ++ drop 5 (p ++ drop k xs)) five front
    ∙ ap₂ (λ (t : List ℕ) j. t ++ drop j xs) (sym (fresh_numbers z)) size

pub opened : (z : Sizes) (l : Limits) (k : ℕ) (xs zeros row : List ℕ) → z ≡ limit_sizes l → GoodSizes z → k ≡ needed z → k ≤ length xs → zeros ≡ replicate (length (take k xs)) 0 → row ≡ 1 ∷ (z.clients ∷ (z.me ∷ (z.kept ∷ (z.waiting ∷ [])))) → Opened l xs (row ++ drop 5 (zeros ++ drop k xs))
opened z l k xs zeros row same good size room cleared five =
    record {
      good = subst GoodSizes same good;
      room = subst (λ (y : Sizes). needed y ≤ length xs) same (omega arith);
      holds = new_memory z k xs zeros row size room cleared five ∙ ap (λ y. encode (fresh y) ++ drop (needed y) xs) same;
    }
