-- One of entries of one width, as a part of their numbers, and a part of that part: how it is read, and what writing it leaves.
use Rattle.std.proofs.Common.{◌≡◌, ℕ, ◌+◌, ◌-◌, ◌*◌, ◌<◌, ◌≤◌, List, [], ◌++◌, length, get_or, take, drop, set, sym, ap, ◌∙◌, append_assoc, arith, length-drop, take-append-drop, length-take, take-take, drop-drop, take-add}
use borrow.Rule.Slice.PartMut.{put_mid}
use lib.Seq.{drop-append-le}
use Rattle.std.proofs.lemmas.List.{drop-take}
use Rattle.std.proofs.ByRecursion.{All-get_or}
use Rattle.rows.specs.Rows.{Wide, flat}
use Rattle.stored.proofs.Parts.{part_at, put_part, start_wide}

-- one of entries of one width
module _ (w j : ℕ) (ps : List (List ℕ)) (wide : Wide w ps) (inside : j < length ps) where
  long : w ≡ length (get_or ps j [])
  long = sym (All-get_or (λ (r : List ℕ). length r ≡ w) ps j [] inside wide)

  pub entry_at : take w (drop (w * j) (flat ps)) ≡ get_or ps j []
  entry_at = part_at ps j (w * j) w (sym (start_wide w ps j wide (omega arith))) long

  pub entry_put : (part : List ℕ) → put_mid (w * j) w (flat ps) part ≡ flat (set ps j part)
  entry_put part = put_part ps j (w * j) w part inside (sym (start_wide w ps j wide (omega arith))) long

-- k numbers at t within the w numbers at a
module _ (a t k w : ℕ) (xs : List ℕ) (inside : t + k ≤ w) where
  pub part_within : take k (drop (a + t) xs) ≡ take k (drop t (take w (drop a xs)))
  part_within =
      let more : w ≡ t + (w - t) = omega arith in
      let low : k ≤ w - t = omega arith in
      ap (take k) (sym (drop-drop t a xs))
      ∙ sym (take-take k (w - t) (drop t (drop a xs)) low)
      ∙ ap (take k) (sym (drop-take t (w - t) (drop a xs)))
      ∙ ap (λ n. take k (drop t (take n (drop a xs)))) (sym more)

  pub put_within : (part : List ℕ) → a + w ≤ length xs → put_mid (a + t) k xs part ≡ put_mid a w xs (put_mid t k (take w (drop a xs)) part)
  put_within part fits =
      let ys : List ℕ = drop a xs in
      let zs : List ℕ = take w ys in
      let fit : t + k ≤ length zs = simp (length-take, length-drop) (omega arith) in
      let front : take (a + t) xs ≡ take a xs ++ take t zs =
      take-add a t xs ∙ ap (λ (s : List ℕ). take a xs ++ s) (sym (take-take t w ys (omega arith))) in
      let back : drop k (drop (a + t) xs) ≡ drop k (drop t zs) ++ drop w ys =
      ap (drop k) (sym (drop-drop t a xs))
      ∙ drop-drop k t ys
      ∙ ap (drop (t + k)) (sym (take-append-drop w ys))
      ∙ drop-append-le (t + k) zs (drop w ys) fit
      ∙ ap (λ (s : List ℕ). s ++ drop w ys) (sym (drop-drop k t zs)) in
      rw (front, back) (simp append_assoc)
