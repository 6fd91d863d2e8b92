-- The bytes of an answer that something was done, of values as the code holds them: four rows behind the answer's number, and how many bytes they are.
use Rattle.std.proofs.Common.{◌≡◌, ℕ, ◌+◌, ◌*◌, ◌≤◌, List, [], ◌∷◌, ◌++◌, map, length, set, sym, refl, ap, ◌∙◌, append_assoc, arith, length-append}
use lib.ListN.{length-map}
use Rattle.wire.specs.Bytes.{le_bytes, data_bytes, duty_bytes, share_bytes}
use Rattle.wire.specs.Fixed.{Written, placed}
use Rattle.wire.specs.Meaning.{data_of, duty_of, share_of}
use Rattle.wire.specs.declared.values.Data.{Data}
use Rattle.wire.specs.declared.values.Duty.{Duty}
use Rattle.wire.specs.declared.values.Share.{Share}
use Rattle.wire.specs.Laws.{eight_coding, data_coding, duty_coding, share_coding}
use Rattle.events.specs.Layout.{all_bytes, row_bytes, answer_bytes}
use Rattle.events.specs.Writing.{done_bytes, done_length}
use Rattle.events.proofs.Entries.{length_coded}
use Rattle.events.proofs.Laid.{lay_byte, lay_placed, laid_at, laid_written}

all_bytes_map : {A B : Type 0} (f : B → List ℕ) (h : A → B) (xs : List A) → all_bytes f (map h xs) ≡ all_bytes (λ x. f (h x)) xs
unfolding all_bytes
all_bytes_map f h [] = refl
all_bytes_map f h (x ∷ xs) = ap (λ bs. f (h x) ++ bs) (all_bytes_map f h xs)

pub row_map : {A B : Type 0} (f : B → List ℕ) (h : A → B) (xs : List A) → row_bytes f (map h xs) ≡ row_bytes (λ x. f (h x)) xs
row_map f h xs = rw (length-map xs h, all_bytes_map f h xs)

pub row_long : {A : Type 0} (coded : A → List ℕ) (width : ℕ) → ((x : A) → length (coded x) ≡ width) → (xs : List A) → length (row_bytes coded xs) ≡ 1 + width * length xs
row_long coded width wide xs = omega (arith, length_coded coded width wide xs)

-- the bytes of each value
abbrev pub share_coded : Share → List ℕ
share_coded s = share_bytes (share_of s)

abbrev pub data_coded : Data → List ℕ
data_coded d = data_bytes (data_of d)

abbrev pub duty_coded : Duty → List ℕ
duty_coded y = duty_bytes (duty_of y)

pub share_row : (ss : List Share) → length (row_bytes share_coded ss) ≡ 1 + 137 * length ss
share_row ss = row_long share_coded 137 (λ s. share_coding.long (share_of s)) ss

pub data_row : (ds : List Data) → length (row_bytes data_coded ds) ≡ 1 + 128 * length ds
data_row ds = row_long data_coded 128 (λ d. data_coding.long (data_of d)) ds

pub duty_row : (ys : List Duty) → length (row_bytes duty_coded ys) ≡ 1 + 24 * length ys
duty_row ys = row_long duty_coded 24 (λ y. duty_coding.long (duty_of y)) ys

pub slot_row : (ks : List ℕ) → length (row_bytes (le_bytes 8) ks) ≡ 1 + 8 * length ks
slot_row ks = row_long (le_bytes 8) 8 eight_coding.long ks

-- four rows as four lists
same_four : {a a' b b' c c' : List ℕ} (d : List ℕ) → a ≡ a' → b ≡ b' → c ≡ c' → a ++ (b ++ (c ++ d)) ≡ a' ++ (b' ++ (c' ++ d))
same_four d p q r = cc

length_four : (a b c d : List ℕ) → length (a ++ (b ++ (c ++ d))) ≡ length a + length b + length c + length d
length_four a b c d = simp length-append (omega arith)

module _ (ss : List Share) (ds : List Data) (ys : List Duty) (ks : List ℕ) where
  pub four_rows : done_bytes ss ds ys ks ≡ 1 ∷ (row_bytes share_coded ss ++ (row_bytes data_coded ds ++ (row_bytes duty_coded ys ++ row_bytes (le_bytes 8) ks)))
  unfolding answer_bytes
  four_rows =
      ap (λ bs. 1 ∷ bs)
      (same_four (row_bytes (le_bytes 8) ks) (row_map share_bytes share_of ss) (row_map data_bytes data_of ds) (row_map duty_bytes duty_of ys))

  pub done_long : length (done_bytes ss ds ys ks) ≡ done_length ss ds ys ks
  done_long =
      ap length four_rows
      ∙ omega
      (arith, length_four (row_bytes share_coded ss) (row_bytes data_coded ds) (row_bytes duty_coded ys) (row_bytes (le_bytes 8) ks), share_row ss, data_row ds, duty_row ys, slot_row ks)

  -- the answer's number and the rows, each joined behind the ones before it
  pub rows_joined : ((((1 ∷ []) ++ row_bytes share_coded ss) ++ row_bytes data_coded ds) ++ row_bytes duty_coded ys) ++ row_bytes (le_bytes 8) ks ≡ done_bytes ss ds ys ks
  rows_joined = five (row_bytes share_coded ss) (row_bytes data_coded ds) (row_bytes duty_coded ys) (row_bytes (le_bytes 8) ks) ∙ sym four_rows
    where
      five : (a b c d : List ℕ) → ((((1 ∷ []) ++ a) ++ b) ++ c) ++ d ≡ 1 ∷ (a ++ (b ++ (c ++ d)))
      five a b c d = simp append_assoc

  -- all that was put, row by row
  pub rows_put : {x1 x2 x3 x4 : List ℕ} {a1 a2 a3 a4 : ℕ} (xs : List ℕ) → done_length ss ds ys ks ≤ length xs
      → a1 ≡ 1 + (1 + 137 * length ss) → x1 ≡ placed 1 (1 + 137 * length ss) (row_bytes share_coded ss) (set xs 0 1)
      → a2 ≡ a1 + (1 + 128 * length ds) → x2 ≡ placed a1 (1 + 128 * length ds) (row_bytes data_coded ds) x1
      → a3 ≡ a2 + (1 + 24 * length ys) → x3 ≡ placed a2 (1 + 24 * length ys) (row_bytes duty_coded ys) x2
      → a4 ≡ a3 + (1 + 8 * length ks) → x4 ≡ placed a3 (1 + 8 * length ks) (row_bytes (le_bytes 8) ks) x3
      → Written (length (done_bytes ss ds ys ks)) (done_bytes ss ds ys ks) xs x4 a4
  rows_put {a1 = a1} {a2} {a3} {a4} xs room e1 p1 e2 p2 e3 p3 e4 p4 =
      let f1 = laid_at a1 (lay_placed (lay_byte xs 1 (omega arith)) (row_bytes share_coded ss) (1 + 137 * length ss) (share_row ss) (omega arith) p1) (sym e1) in
      let f2 = laid_at a2 (lay_placed f1 (row_bytes data_coded ds) (1 + 128 * length ds) (data_row ds) (omega arith) p2) (sym e2) in
      let f3 = laid_at a3 (lay_placed f2 (row_bytes duty_coded ys) (1 + 24 * length ys) (duty_row ys) (omega arith) p3) (sym e3) in
      let f4 = laid_at a4 (lay_placed f3 (row_bytes (le_bytes 8) ks) (1 + 8 * length ks) (slot_row ks) (omega arith) p4) (sym e4) in
      let whole = rw rows_joined at f4 in
      laid_written (length (done_bytes ss ds ys ks)) a4 whole whole.long refl
