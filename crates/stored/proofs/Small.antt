-- The numbers of a client whose fields fit into 64 bits are below 2^64.
use Rattle.std.proofs.Common.{◌≡◌, ℕ, zero, suc, ◌<◌, ◌≤◌, true, ltb, List, [], ◌∷◌, ◌++◌, map, length, replicate, refl, arith}
use Rattle.std.specs.List.{AllByRecursion}
use Rattle.std.proofs.ByRecursion.{All-append, All-map, All-weaker, Decides-by_and}
use Rattle.std.proofs.lemmas.Bool.{and_parts, ltb-true}
use Rattle.std.proofs.lemmas.Bool.Decides.{Decides-ltb}
use Rattle.protocol.specs.Data.{Data, Duty}
use Rattle.protocol.specs.Client.{Share, duty, share}
use Rattle.protocol.specs.Promise.{eight, root, carried, readable, all_below}
use Rattle.rows.specs.Rows.{flat, laid}
use Rattle.past.specs.Past.{row_of}
use Rattle.stored.specs.Stored.{Cell, empty, holds, Bank, Stored}
use Rattle.stored.specs.Numbers.{root_numbers, duty_numbers, data_numbers, share_numbers, cell_numbers, listed, marks, bank_numbers, bank_cells, header, regions, encode}
use Rattle.stored.specs.Kept.{Well, CellFits, Fits, NumbersFit}

-- a number that fits into 64 bits, and numbers that all do
abbrev Below : ℕ → Type 0
Below x = x < 18446744073709551616

abbrev pub Small : List ℕ → Type 0
Small xs = AllByRecursion Below xs

pub small_below : (xs : List ℕ) → Small xs → all_below 18446744073709551616 xs ≡ true
unfolding all_below
small_below xs h =
    (Decides-by_and (λ x. ltb x 18446744073709551616) Below (all_below 18446744073709551616) (λ x. Decides-ltb x 18446744073709551616) refl (λ x ys. refl) xs).1 h

small_zeros : (n : ℕ) → Small (replicate n 0)
small_zeros zero = tt
small_zeros (suc n) = (omega arith, small_zeros n)

-- parts one after another, and a region that holds a list
small_flat : (ps : List (List ℕ)) → AllByRecursion Small ps → Small (flat ps)
unfolding flat
small_flat [] h = tt
small_flat (p ∷ ps) h = All-append Below p (flat ps) h.0 (small_flat ps h.1)

small_laid : (w n : ℕ) (rs : List (List ℕ)) → AllByRecursion Small rs → Small (laid w n rs)
unfolding laid
small_laid w zero rs h = tt
small_laid w (suc n) [] h =
    All-append Below (replicate w 0) (laid w n []) (small_zeros w) (small_laid w n [] tt)
small_laid w (suc n) (r ∷ rs) h =
    All-append Below r (laid w n rs) h.0 (small_laid w n rs h.1)

small_listed : {A : Type 0} (w n : ℕ) (numbers : A → List ℕ) (xs : List A) → length xs ≤ n → n ≤ 4096 → AllByRecursion (λ x. Small (numbers x)) xs → Small (listed w n numbers xs)
unfolding listed
small_listed w n numbers xs fits few h = (omega arith, small_laid w n (map numbers xs) (All-map Small numbers xs h))

-- a root, a duty, data, a share, a cell
small_root : (r : ℕ) → root r ≡ true → Small (root_numbers r)
unfolding root_numbers
small_root r e =
    let h = ltb-true r 115792089237316195423570985008687907853269984665640564039457584007913129639936 e in
    (omega arith, (omega arith, (omega arith, (omega arith, tt))))

fits_eight : (n : ℕ) → eight n ≡ true → Below n
fits_eight n e = ltb-true n 18446744073709551616 e

small_duty : (y : Duty) → readable (duty y) ≡ true → Small (duty_numbers y)
unfolding duty_numbers readable
small_duty y e =
    let h = and_parts _ _ e in
    let k = and_parts _ _ h.1 in
    (fits_eight y.slot h.0, (fits_eight y.committee k.0, (fits_eight y.seat k.1, tt)))

small_data : (d : Data) → carried d ≡ true → Small (data_numbers d)
unfolding data_numbers carried
small_data d e =
    let h = and_parts _ _ e in
    let first = and_parts _ _ h.0 in
    let named = and_parts _ _ first.0 in
    let voted = and_parts _ _ first.1 in
    let last = and_parts _ _ h.1 in
    let from = and_parts _ _ last.0 in
    let target : List ℕ = d.target ∷ root_numbers d.target_root in
    let source : List ℕ = d.source ∷ (root_numbers d.source_root ++ target) in
    let small_target : Small target = (fits_eight d.target from.1, small_root d.target_root last.1) in
    let small_source : Small source =
    (fits_eight d.source voted.1, All-append Below (root_numbers d.source_root) target (small_root d.source_root from.0) small_target) in (
      fits_eight d.slot named.0,
      (fits_eight d.committee named.1, All-append Below (root_numbers d.block) source (small_root d.block voted.0) small_source),
    )

small_share : (s : Share) → readable (share s) ≡ true → Small (share_numbers s)
unfolding share_numbers readable
small_share s e =
    let h = and_parts _ _ e in
    let k = and_parts _ _ h.1 in
    let few : s.who < 256 = ltb-true s.who 256 h.0 in
    (omega (arith, few), (fits_eight s.seat k.1, small_data s.what k.0))

small_cell : (c : Cell) → CellFits c → Small (cell_numbers c)
unfolding cell_numbers
small_cell empty h = small_zeros 18
small_cell (holds seat d) h = (omega arith, (fits_eight seat h.0, small_data d h.1))

-- banks whose numbers fit: their marks, and their cells
abbrev BanksFit : List Bank → Type 0
BanksFit bs = AllByRecursion (λ (b : Bank). (b.mark < 18446744073709551616) × AllByRecursion CellFits b.cells) bs

small_marks : (bs : List Bank) → BanksFit bs → Small (marks bs)
unfolding marks
small_marks bs h =
    All-map Below (λ b. b.mark) bs (All-weaker _ _ (λ b k. k.0) bs h)

small_bank : (b : Bank) → AllByRecursion CellFits b.cells → Small (bank_numbers b)
unfolding bank_numbers
small_bank b h = small_flat (map cell_numbers b.cells) (All-map Small cell_numbers b.cells (All-weaker _ _ small_cell b.cells h))

small_cells : (bs : List Bank) → BanksFit bs → Small (bank_cells bs)
unfolding bank_cells
small_cells bs h = small_flat (map bank_numbers bs) (All-map Small bank_numbers bs (All-weaker _ _ (λ b k. small_bank b k.1) bs h))

small_header : (t : Stored) → Well t → Fits t → Small (header t)
unfolding header
small_header t w f =
    let z = w.sizes in
    (omega arith, (omega arith, (omega arith, (omega arith, (omega arith, (omega arith, (omega arith, (omega arith, tt))))))))

pub numbers_fit : NumbersFit
unfolding encode regions
numbers_fit t w f =
    let n : ℕ = t.sizes.waiting in
    let z = w.sizes in
    small_below (encode t)
    (small_flat (regions t) (
      small_header t w f,
      (
        small_listed 2 t.sizes.kept row_of t.past w.past (omega arith) (All-weaker _ _ (λ p k. (k.0, (k.1, tt))) t.past f.past),
        (
          small_listed 3 n duty_numbers t.queue w.queue (omega arith) (All-weaker _ _ (λ y k. small_duty y k.1) t.queue f.queue),
          (
            small_listed 3 n duty_numbers t.active w.active (omega arith) (All-weaker _ _ (λ y k. small_duty y k.1) t.active f.active),
            (
              small_listed 16 n data_numbers t.ahead w.ahead (omega arith) (All-weaker _ _ small_data t.ahead f.ahead),
              (
                small_listed 18 n share_numbers t.own w.own (omega arith) (All-weaker _ _ small_share t.own f.own),
                (small_marks t.banks f.banks, (small_cells t.banks f.banks, tt)),
              ),
            ),
          ),
        ),
      ),
    ))
