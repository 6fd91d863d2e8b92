-- The laws of entries one after the other, over any coding of an entry: how long they are, that they are read back as written and written back as read.
use Rattle.std.proofs.Common.{◌≡◌, ℕ, zero, suc, ◌+◌, ◌*◌, ◌<◌, ◌≤◌, List, [], ◌∷◌, ◌++◌, length, take, drop, sym, refl, ap, ◌∙◌, append_assoc, mul-zero, arith, length-append, length-drop, take-add, drop_at}
use lib.Seq.{take-append-le}
use Rattle.std.specs.List.{AllByRecursion}
use Rattle.std.proofs.lemmas.List.{append-nil, drop-append-le}
use Rattle.std.proofs.ByRecursion.{All-drop}
use Rattle.wire.specs.Bytes.{AllBytes}
use Rattle.wire.specs.Coding.{Coding}
use Rattle.events.specs.Layout.{all_bytes, entries}

-- a value whose bytes are all there is
pub alone : {A : Type 0} {size : ℕ} {bytes : A → List ℕ} {from : List ℕ → A} {fits : A → Type 0} (c : Coding A size bytes from fits) (a : A) → fits a → from (bytes a) ≡ a
alone {bytes = bytes} {from = from} c a h = ap from (sym (append-nil (bytes a))) ∙ c.back a [] h

pub length_entries : {A : Type 0} (size : ℕ) (from : List ℕ → A) (n : ℕ) (bs : List ℕ) → length (entries size from n bs) ≡ n
unfolding entries
length_entries size from zero bs = refl
length_entries size from (suc n) bs = ap suc (length_entries size from n (drop size bs))

-- of values whose bytes are of one width
pub length_coded : {A : Type 0} (coded : A → List ℕ) (width : ℕ) → ((x : A) → length (coded x) ≡ width) → (xs : List A) → length (all_bytes coded xs) ≡ width * length xs
unfolding all_bytes
length_coded coded width wide [] = omega arith
length_coded coded width wide (x ∷ xs) = length-append (coded x) (all_bytes coded xs) ∙ omega (arith, wide x, length_coded coded width wide xs)

module _ {A : Type 0} {size : ℕ} {bytes : A → List ℕ} {from : List ℕ → A} {fits : A → Type 0} (c : Coding A size bytes from fits) where
  pub length_all : (xs : List A) → length (all_bytes bytes xs) ≡ size * length xs
  length_all xs = length_coded bytes size c.long xs

  pub entries_back : (xs : List A) (rest : List ℕ) → AllByRecursion fits xs → entries size from (length xs) (all_bytes bytes xs ++ rest) ≡ xs
  unfolding all_bytes entries
  entries_back [] rest h = refl
  entries_back (x ∷ xs) rest h =
      rw (append_assoc, c.back x (all_bytes bytes xs ++ rest) h.0, drop_at (bytes x) (all_bytes bytes xs ++ rest) size (c.long x), entries_back xs rest h.1)

  pub entries_again : (n : ℕ) (bs : List ℕ) → AllBytes bs → size * n ≤ length bs → all_bytes bytes (entries size from n bs) ≡ take (size * n) bs
  unfolding all_bytes entries
  entries_again zero bs h l = rw mul-zero
  entries_again (suc n) bs h l =
      let here : size ≤ length bs = omega arith in
      let more : size * n ≤ length (drop size bs) = simp length-drop (omega arith) in
      let whole : size * suc n ≡ size + size * n = omega arith in
      rw (whole, take-add size (size * n) bs, c.again bs h here, entries_again n (drop size bs) (All-drop (λ b. b < 256) size bs h) more)

  pub entries_fit : (n : ℕ) (bs : List ℕ) → AllBytes bs → AllByRecursion fits (entries size from n bs)
  unfolding entries
  entries_fit zero bs h = tt
  entries_fit (suc n) bs h = (c.fitting bs h, entries_fit n (drop size bs) (All-drop (λ b. b < 256) size bs h))

  -- only the bytes of the entries are read
  pub entries_front : (n : ℕ) (xs rest : List ℕ) → size * n ≤ length xs → entries size from n (xs ++ rest) ≡ entries size from n xs
  unfolding entries
  entries_front zero xs rest l = refl
  entries_front (suc n) xs rest l =
      let here : size ≤ length xs = omega arith in
      let more : size * n ≤ length (drop size xs) = simp length-drop (omega arith) in
      let first : from (xs ++ rest) ≡ from xs = c.front (xs ++ rest) ∙ ap from (take-append-le size xs rest here) ∙ sym (c.front xs) in
      rw (first, drop-append-le size xs rest here, entries_front n (drop size xs) rest more)
