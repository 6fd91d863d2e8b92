-- The four rows of an answer, one behind the other: what they are read as where all are there, and that they are no answer where one is cut short or bytes are left.
use Rattle.std.proofs.Common.{◌≡◌, ℕ, ◌+◌, ◌*◌, true, false, eqb, List, [], ◌++◌, length, Some, None, ◌∙◌, arith, length-append, drop_at}
use Rattle.std.proofs.lemmas.Bool.{le-leb}
use Rattle.protocol.specs.Data.{pick}
use Rattle.protocol.specs.Client.{does}
use Rattle.wire.specs.Bytes.{data_from, duty_from, share_from}
use Rattle.wire.specs.Coding.{Coding}
use Rattle.wire.specs.Laws.{eight_coding, data_coding, duty_coding, share_coding}
use Rattle.events.specs.Layout.{entries, row_there, row_entries, behind_row, number_from, parse_done}
use Rattle.events.specs.Rows.{InFront}
use Rattle.events.proofs.Entries.{entries_front}

pub done_is : (bs ds ys ks : List ℕ) → behind_row 137 bs ≡ ds → behind_row 128 ds ≡ ys → behind_row 24 ys ≡ ks → behind_row 8 ks ≡ [] →
    row_there 137 bs ≡ true → row_there 128 ds ≡ true → row_there 24 ys ≡ true → row_there 8 ks ≡ true →
    parse_done bs ≡ Some (does (row_entries 137 share_from bs) (row_entries 128 data_from ds) (row_entries 24 duty_from ys) (row_entries 8 number_from ks))
unfolding parse_done pick
done_is bs ds ys ks e1 e2 e3 e4 t1 t2 t3 t4 = rw (e1, e2, e3, e4, t1, t2, t3, t4)

-- a row in front of other bytes, over any coding of an entry
module _ {size : ℕ} {bs : List ℕ} {n : ℕ} {row rest : List ℕ} (s : InFront size bs n row rest) where
  all : length (row ++ rest) ≡ size * n + length rest
  all = length-append row rest ∙ omega (arith, s.long)

  there : row_there size bs ≡ true
  unfolding row_there
  there = rw s.whole (le-leb (size * n) (length (row ++ rest)) (omega (arith, all)))

  behind : behind_row size bs ≡ rest
  unfolding behind_row
  behind = rw s.whole (drop_at row rest (size * n) s.long)

  held : {A : Type 0} {bytes : A → List ℕ} {from : List ℕ → A} {fits : A → Type 0} → Coding A size bytes from fits → row_entries size from bs ≡ entries size from n row
  unfolding row_entries
  held c = rw s.whole (entries_front c n row rest (omega (arith, s.long)))

-- no answer: a row is cut short, or bytes are left behind the last, and else the answer with just these rows
pub none_at_first : (bs : List ℕ) → row_there 137 bs ≡ false → parse_done bs ≡ None
unfolding parse_done pick
none_at_first bs h = rw h

module _ {bs ds : List ℕ} {n : ℕ} {r : List ℕ} (s : InFront 137 bs n r ds) where
  pub none_at_second : row_there 128 ds ≡ false → parse_done bs ≡ None
  unfolding parse_done pick
  none_at_second h = rw (behind s, there s, h)

  module _ {ys : List ℕ} {m : ℕ} {q : List ℕ} (d : InFront 128 ds m q ys) where
    pub none_at_third : row_there 24 ys ≡ false → parse_done bs ≡ None
    unfolding parse_done pick
    none_at_third h = rw (behind s, behind d, there s, there d, h)

    module _ {ks : List ℕ} {l : ℕ} {p : List ℕ} (y : InFront 24 ys l p ks) where
      pub none_at_fourth : row_there 8 ks ≡ false → parse_done bs ≡ None
      unfolding parse_done pick
      none_at_fourth h = rw (behind s, behind d, behind y, there s, there d, there y, h)

      module _ {rest : List ℕ} {j : ℕ} {o : List ℕ} (k : InFront 8 ks j o rest) where
        pub four_rows : parse_done bs
            ≡ pick (eqb (length rest) 0) (Some (does (entries 137 share_from n r) (entries 128 data_from m q) (entries 24 duty_from l p) (entries 8 number_from j o))) None
        unfolding parse_done
        four_rows =
            rw
            (behind s, behind d, behind y, behind k, there s, there d, there y, there k, held s share_coding, held d data_coding, held y duty_coding, held k eight_coding)
