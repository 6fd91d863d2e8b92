-- What a block's bytes are read as, by the row behind its number: cut short, with bytes too many behind it, and just that row.
use Rattle.std.proofs.Common.{◌≡◌, ℕ, ◌+◌, ◌-◌, ◌*◌, ◌<◌, ◌≤◌, false, List, [], ◌∷◌, ◌++◌, length, drop, sym, refl, ap, ◌∙◌, arith, length-append, length-drop}
use Rattle.std.proofs.lemmas.List.{append-nil, nil_from_length}
use Rattle.std.proofs.lemmas.Bool.{leb-false}
use Rattle.protocol.specs.Client.{block, garbled}
use Rattle.wire.specs.Bytes.{data_from}
use Rattle.events.specs.Layout.{entries, row_there, parse_block}
use Rattle.events.specs.Rows.{InFront}
use Rattle.events.proofs.Exactly.{exactly_short, exactly_long, exactly_right}

tail_cut : (bs : List ℕ) → row_there 128 bs ≡ false → parse_block bs ≡ garbled (1 + length bs)
unfolding row_there parse_block
tail_cut [] h = refl
tail_cut (n ∷ bs) h =
    exactly_short 2 (128 * n) bs (block (entries 128 data_from n bs)) (leb-false (128 * n) (length bs) h) ∙ ap garbled (omega arith)

module _ (bs part : List ℕ) (behind : part ≡ drop 1 bs) (some : 1 ≤ length bs) where
  counted : 1 + length part ≡ length bs
  counted = ap (λ (xs : List ℕ). 1 + length xs) behind ∙ simp length-drop (omega arith)

  pub block_cut : row_there 128 part ≡ false → garbled (length bs) ≡ parse_block (drop 1 bs)
  block_cut h = ap garbled (sym counted) ∙ sym (tail_cut part h) ∙ ap parse_block behind

  module _ (count : ℕ) (row rest : List ℕ) (split : InFront 128 part count row rest) where
    all : length bs ≡ 2 + (128 * count + length rest)
    all = omega (arith, counted, ap length split.whole, length-append row rest, split.long)

    pub rest_inside : length rest ≤ length bs
    rest_inside = omega (arith, all)

    pub block_long : 0 < length rest → garbled (length bs - length rest) ≡ parse_block (drop 1 bs)
    unfolding parse_block
    block_long h =
        ap garbled (omega (arith, all))
        ∙ sym (exactly_long 2 (128 * count) (row ++ rest) (block (entries 128 data_from count (row ++ rest))) (omega (arith, length-append row rest, split.long)))
        ∙ ap parse_block (sym split.whole ∙ behind)

    pub block_whole : length rest ≤ 0 → block (entries 128 data_from count row) ≡ parse_block (drop 1 bs)
    unfolding parse_block
    block_whole h =
        let none : rest ≡ [] = nil_from_length rest (omega arith) in
        let alone : row ++ rest ≡ row = ap (λ xs. row ++ xs) none ∙ append-nil row in
        sym (exactly_right 2 (128 * count) row (block (entries 128 data_from count row)) split.long)
        ∙ ap (λ xs. parse_block (count ∷ xs)) (sym alone) ∙ ap parse_block (sym split.whole ∙ behind)
