-- The loop of `keep`: i entries have been looked at, n of them stay, and stand one after another at the front; behind the i nothing has changed.
use Rattle.std.proofs.Common.{◌≡◌, ℕ, ◌+◌, ◌-◌, ◌*◌, ◌<◌, ◌≤◌, Bool, true, false, cond, List, [], ◌∷◌, ◌++◌, length, take, drop, replicate, sym, refl, ap, ◌∙◌, ap₂, append-nil, mul-le-mul_left, mul-zero, mul-suc, add-one, arith, length-append, length-drop, length-take, drop-drop}
use native.Mathlib.Nat.{mul-sub}
use borrow.Rule.Slice.PartMut.{put_mid}
use lib.Seq.{paste, length-paste, take-paste, drop-paste}
use Rattle.rows.specs.Rows.{rows, flat, kept, kept_cells}
use Rattle.rows.proofs.Laws.{rows_add, rows_flat, flat_append, kept_append, wide_rows, wide_kept}

-- whatever the test is
pub record Going (w i n : ℕ) (xs ys : List ℕ) : Type 0 where
  pub long : length ys ≡ length xs
  pub behind : n ≤ i
  pub rest : drop (w * i) ys ≡ drop (w * i) xs

-- and by the test
pub record Keeping (p : List ℕ → Bool) (w i n : ℕ) (xs ys : List ℕ) : Type 0 where
  pub stay : n ≡ length (kept p (rows w i xs))
  pub front : take (w * n) ys ≡ flat (kept p (rows w i xs))

-- nothing has been looked at
pub nothing_yet : (w : ℕ) (xs : List ℕ) → Going w 0 0 xs xs
nothing_yet w xs = record { long = refl; behind = omega arith; rest = refl }

pub none_looked_at : (p : List ℕ → Bool) (w : ℕ) (xs : List ℕ) → Keeping p w 0 0 xs xs
unfolding kept rows flat
none_looked_at p w xs = record { stay = refl; front = ap (λ k. take k xs) (mul-zero w) }

-- there is room for the next entry
pub next_fits : (w i n k : ℕ) → i < n → w * n ≤ k → w * i + w ≤ k
next_fits w i n k h l = omega (arith, mul-suc w i, mul-le-mul_left w h)

pub starts_before : (w m n : ℕ) → m ≤ n → w * m ≤ w * n
starts_before w m n h = mul-le-mul_left w h

-- one entry more, as the code reads it
one_more : (p : List ℕ → Bool) (w i : ℕ) (xs ys : List ℕ) → drop (w * i) ys ≡ drop (w * i) xs → kept p (rows w (i + 1) xs) ≡ kept p (rows w i xs) ++ cond (p (take w (drop (w * i) ys))) (take w (drop (w * i) ys) ∷ []) []
unfolding rows kept
one_more p w i xs ys rest =
    ap (kept p) (rows_add w i 1 xs)
    ∙ kept_append p (rows w i xs) (take w (drop (w * i) xs) ∷ [])
    ∙ ap (λ r. kept p (rows w i xs) ++ kept p (take w r ∷ [])) (sym rest)

next_is : (w i : ℕ) → w * (i + 1) ≡ w * i + w
next_is w i = ap (λ m. w * m) (add-one i) ∙ mul-suc w i

module _ (w i n : ℕ) (xs ys : List ℕ) (g : Going w i n xs ys) (fits : w * i + w ≤ length xs) where
  from : ℕ
  from = w * i

  to : ℕ
  to = w * n

  row : List ℕ
  row = take w (drop from ys)

  -- the code reads the entry from `from` to `from + w`
  size : w * i + w - w * i ≡ w
  size = omega arith

  below : w * n ≤ w * i
  below = mul-le-mul_left w g.behind

  room : w ≤ length (drop (w * i) ys)
  room = let same_long = g.long in simp length-drop (omega arith)

  before : w * n ≤ length ys
  before = let same_long = g.long in let l = below in omega arith

  rest_more : (zs : List ℕ) → drop (w * i) zs ≡ drop (w * i) xs → drop (w * (i + 1)) zs ≡ drop (w * (i + 1)) xs
  rest_more zs e =
      ap (λ k. drop k zs) (next_is w i)
      ∙ sym (drop-drop w (w * i) zs)
      ∙ ap (drop w) e
      ∙ drop-drop w (w * i) xs
      ∙ ap (λ k. drop k xs) (sym (next_is w i))

  -- the entry goes
  pub goes_on : Going w (i + 1) n xs ys
  goes_on = record { long = g.long; behind = omega (arith, g.behind); rest = rest_more ys g.rest }

  module _ (zs : List ℕ) (copied : zs ≡ paste ys (w * n) (drop (w * i) ys) (w * i + w - w * i)) where
    pasted : zs ≡ paste ys (w * n) (drop (w * i) ys) w
    pasted = rw size at copied

    -- it stays: the rest is as it was
    pub stays_on : Going w (i + 1) (n + 1) xs zs
    stays_on =
        let l = below in
        let up : w * n + w + (w * i - w * n) ≡ w * i + w = omega arith in
        let same : drop (w * i + w) zs ≡ drop (w * i + w) ys =
        ap (drop (w * i + w)) pasted
        ∙ ap (λ m. drop m (paste ys (w * n) (drop (w * i) ys) w)) (sym up)
        ∙ sym (drop-drop (w * i - w * n) (w * n + w) (paste ys (w * n) (drop (w * i) ys) w))
        ∙ ap (drop (w * i - w * n)) (drop-paste ys (w * n) (drop (w * i) ys) w before room)
        ∙ drop-drop (w * i - w * n) (w * n + w) ys
        ∙ ap (λ m. drop m ys) up in
        record {
          long = ap length pasted ∙ length-paste ys (w * n) (drop (w * i) ys) w (omega (arith, below, g.long)) room ∙ g.long;
          behind = omega (arith, g.behind);
          rest =
              ap (λ k. drop k zs) (next_is w i)
              ∙ same
              ∙ ap (λ k. drop k ys) (sym (next_is w i))
              ∙ rest_more ys g.rest;
        }

    -- and it stands behind the others
    pub more_stays : (p : List ℕ → Bool) → Keeping p w i n xs ys → p (take (w * i + w - w * i) (drop (w * i) ys)) ≡ true → Keeping p w (i + 1) (n + 1) xs zs
    unfolding row flat from
    more_stays p k passes =
        let t : p row ≡ true = rw size at passes in
        let one : kept p (rows w (i + 1) xs) ≡ kept p (rows w i xs) ++ row ∷ [] =
        one_more p w i xs ys g.rest ∙ ap (λ b. kept p (rows w i xs) ++ cond b (row ∷ []) []) t in
        record {
          stay = ap (λ m. m + 1) k.stay ∙ sym (ap length one ∙ length-append (kept p (rows w i xs)) (row ∷ []));
          front =
              ap₂ take (next_is w n) pasted
              ∙ take-paste ys (w * n) (drop (w * i) ys) w before room
              ∙ ap₂ ◌++◌ k.front (sym (append-nil row))
              ∙ sym (flat_append (kept p (rows w i xs)) (row ∷ []))
              ∙ ap flat (sym one);
        }

  pub more_goes : (p : List ℕ → Bool) → Keeping p w i n xs ys → p (take (w * i + w - w * i) (drop (w * i) ys)) ≡ false → Keeping p w (i + 1) n xs ys
  unfolding row from
  more_goes p k passes =
      let t : p row ≡ false = rw size at passes in
      let one : kept p (rows w (i + 1) xs) ≡ kept p (rows w i xs) =
      one_more p w i xs ys g.rest
      ∙ ap (λ b. kept p (rows w i xs) ++ cond b (row ∷ []) []) t
      ∙ append-nil (kept p (rows w i xs)) in
      record { stay = k.stay ∙ ap length (sym one); front = k.front ∙ ap flat (sym one) }

-- all have been looked at, and zeros are written behind those that stay
pub all_looked_at : (p : List ℕ → Bool) (w c n : ℕ) (xs ys part : List ℕ) → w * c ≤ length xs → Going w c n xs ys → Keeping p w c n xs ys → part ≡ replicate (length (take (w * c - w * n) (drop (w * n) ys))) 0 → put_mid (w * n) (w * c - w * n) ys part ≡ kept_cells p w c xs
all_looked_at p w c n xs ys part m g k e =
    let l : w * n ≤ w * c = mul-le-mul_left w g.behind in
    let same_long = g.long in
    let freed : length (take (w * c - w * n) (drop (w * n) ys)) ≡ w * c - w * n = simp (length-take, length-drop) (omega arith) in
    let gap : w * c - w * n ≡ w * (c - n) = sym (mul-sub w c n) in
    let zeros : part ≡ replicate (w * (c - length (kept p (rows w c xs)))) 0 =
    e ∙ ap (λ j. replicate j 0) (freed ∙ gap ∙ ap (λ j. w * (c - j)) k.stay) in
    let far : w * n + (w * c - w * n) ≡ w * c = omega arith in
    let behind : drop (w * c - w * n) (drop (w * n) ys) ≡ drop (w * c) xs =
    drop-drop (w * c - w * n) (w * n) ys ∙ ap (λ j. drop j ys) far ∙ g.rest in
    let front = k.front in
    cc

pub rows_kept : (p : List ℕ → Bool) (w c n : ℕ) (xs ys : List ℕ) → w * c ≤ length xs → n ≡ length (kept p (rows w c xs)) → ys ≡ kept_cells p w c xs → rows w n ys ≡ kept p (rows w c xs)
rows_kept p w c n xs ys l stay e =
    ap₂ (rows w) stay e ∙ rows_flat w (kept p (rows w c xs)) _ (wide_kept w p (rows w c xs) (wide_rows w c xs l))
