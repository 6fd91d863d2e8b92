-- Entries that are put one behind the other.
use Rattle.std.proofs.Common.{◌≡◌, ℕ, ◌+◌, ◌*◌, ◌<◌, ◌≤◌, List, [], ◌∷◌, ◌++◌, length, get_or, take, drop, sym, refl, ap, ◌∙◌, append_assoc, mul-le-mul_left, arith, take-append-drop, length-take-le}
use Rattle.std.proofs.lemmas.List.{append-nil, take_all, take_more}
use Rattle.wire.specs.Fixed.{placed}
use Rattle.events.specs.Layout.{all_bytes}
use Rattle.events.proofs.Laid.{Laid, lay_placed, laid_inside, laid_length}

pub all_bytes_append : {A : Type 0} (f : A → List ℕ) (xs ys : List A) → all_bytes f (xs ++ ys) ≡ all_bytes f xs ++ all_bytes f ys
unfolding all_bytes
all_bytes_append f [] ys = refl
all_bytes_append f (x ∷ xs) ys = ap (λ bs. f x ++ bs) (all_bytes_append f xs ys) ∙ sym (append_assoc (f x) (all_bytes f xs) (all_bytes f ys))

-- nothing is put yet
not_yet : (xs : List ℕ) (at : ℕ) → at ≤ length xs → Laid xs (take at xs ++ []) at xs
not_yet xs at l = record { holds = rw append-nil (sym (take-append-drop at xs)); long = rw append-nil (length-take-le at xs l); room = l }

-- of a row of values whose bytes are of one width, so many are put, from a place on where there is room for all
module _ {A : Type 0} (coded : A → List ℕ) (width : ℕ) (wide : (x : A) → length (coded x) ≡ width) (row : List A) (xs : List ℕ) (at : ℕ) where
  pub record Entered (i end : ℕ) (cur : List ℕ) : Type 0 where
    pub laid : Laid xs (take at xs ++ all_bytes coded (take i row)) end cur
    pub place : end ≡ at + width * i
    pub inside : end ≤ length cur

  pub none_entered : at + width * length row ≤ length xs → Entered 0 at xs
  unfolding all_bytes
  none_entered room = record { laid = not_yet xs at (omega arith); place = omega arith; inside = omega arith }

  -- the next one has room
  pub room_for_next : (i end : ℕ) (cur : List ℕ) → at + width * length row ≤ length xs → Entered i end cur → i < length row → end + width ≤ length cur
  room_for_next i end cur room e l =
      let next : width * (i + 1) ≤ width * length row = mul-le-mul_left width (omega arith) in
      omega (arith, e.place, laid_length e.laid)

  pub one_entered : (i end : ℕ) (cur : List ℕ) {after : List ℕ} (x : A) → at + width * length row ≤ length xs → Entered i end cur → i < length row → x ≡ get_or row i x
      → after ≡ placed end width (coded x) cur → Entered (i + 1) (end + width) after
  unfolding all_bytes
  one_entered i end cur x room e l here w =
      let inside : end + width ≤ length xs = omega (arith, room_for_next i end cur room e l, laid_length e.laid) in
      let next = lay_placed e.laid (coded x) width (wide x) inside w in
      let more : all_bytes coded (take (i + 1) row) ≡ all_bytes coded (take i row) ++ coded x =
      ap (all_bytes coded) (take_more row i x l) ∙ all_bytes_append coded (take i row) _ ∙ ap (λ y. all_bytes coded (take i row) ++ (coded y ++ [])) (sym here)
      ∙ ap (λ bs. all_bytes coded (take i row) ++ bs) (append-nil (coded x)) in
      record {
        laid = rw (more, sym (append_assoc (take at xs) (all_bytes coded (take i row)) (coded x))) next;
        place = omega (arith, e.place);
        inside = laid_inside next;
      }

  pub all_entered : (i end : ℕ) (cur : List ℕ) → i ≤ length row → length row ≤ i → Entered i end cur
      → record { ends : end ≡ at + width * length row; holds : cur ≡ placed at (width * length row) (all_bytes coded row) xs }
  all_entered i end cur l m e =
      let whole : take i row ≡ row = take_all i row m in
      let last : end ≡ at + width * length row = e.place ∙ ap (λ n. at + width * n) (omega arith) in
      record {
        ends = last;
        holds = e.laid.holds ∙ rw (whole, last) (append_assoc (take at xs) (all_bytes coded row) (drop (at + width * length row) xs));
      }
