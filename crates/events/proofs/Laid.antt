-- Bytes that are written one behind the other into a slice: what stands in it after each.
use Rattle.std.proofs.Common.{◌≡◌, ℕ, ◌+◌, ◌<◌, ◌≤◌, List, [], ◌∷◌, ◌++◌, length, take, drop, set, sym, refl, ap, ◌∙◌, append_assoc, arith, length-append, length-drop, drop-drop, take_at, drop_at}
use borrow.Rule.Slice.PartMut.{put_mid}
use Rattle.wire.specs.Fixed.{Written, placed}

-- a slice that held xs has the bytes `front` at its front, and from the place on what it held
pub record Laid (xs front : List ℕ) (at : ℕ) (cur : List ℕ) : Type 0 where
  pub holds : cur ≡ front ++ drop at xs
  pub long : length front ≡ at
  pub room : at ≤ length xs

-- a first byte
pub lay_byte : (xs : List ℕ) (b : ℕ) → 0 < length xs → Laid xs (b ∷ []) 1 (set xs 0 b)
lay_byte [] b h = absurd (omega arith)
lay_byte (x ∷ xs) b h = record { holds = refl; long = refl; room = omega arith }

pub lay_two : (xs : List ℕ) (a b : ℕ) → 1 < length xs → Laid xs (a ∷ (b ∷ [])) 2 (set (set xs 0 a) 1 b)
lay_two [] a b h = absurd (omega arith)
lay_two (x ∷ []) a b h = absurd (omega arith)
lay_two (x ∷ (y ∷ xs)) a b h = record { holds = refl; long = refl; room = omega arith }

-- what stands in it: the bytes at its front, and what it held behind them
module _ {xs front cur : List ℕ} {at : ℕ} (f : Laid xs front at cur) where
  pub laid_inside : at ≤ length cur
  laid_inside = omega (arith, f.long, ap length f.holds, length-append front (drop at xs))

  pub laid_length : length cur ≡ length xs
  laid_length = omega (arith, f.long, f.room, ap length f.holds, length-append front (drop at xs), length-drop at xs)

  in_front : take at cur ≡ front
  in_front = ap (take at) f.holds ∙ take_at front (drop at xs) at f.long

  behind : drop at cur ≡ drop at xs
  behind = ap (drop at) f.holds ∙ drop_at front (drop at xs) at f.long

  -- a part in the middle that was written whole
  pub lay_part : (part : List ℕ) (k m : ℕ) → length part ≡ k → m ≡ k → at + k ≤ length xs → Laid xs (front ++ part) (at + k) (put_mid at m cur part)
  lay_part part k m l e room =
      let rest : drop k (drop at cur) ≡ drop (at + k) xs = ap (drop k) behind ∙ drop-drop k at xs in
      record {
        holds = rw (e, in_front, rest) (sym (append_assoc front part (drop (at + k) xs)));
        long = length-append front part ∙ omega (arith, f.long, l);
        room = room;
      }

  -- the same, from the place on
  pub lay_placed : {after : List ℕ} (new : List ℕ) (k : ℕ) → length new ≡ k → at + k ≤ length xs → after ≡ placed at k new cur → Laid xs (front ++ new) (at + k) after
  lay_placed new k l room w =
      let rest : drop (at + k) cur ≡ drop (at + k) xs = sym (drop-drop k at cur) ∙ ap (λ (ys : List ℕ). drop k ys) behind ∙ drop-drop k at xs in
      record {
        holds = rw (w, in_front, rest) (sym (append_assoc front new (drop (at + k) xs)));
        long = length-append front new ∙ omega (arith, f.long, l);
        room = room;
      }

pub laid_at : {xs front cur : List ℕ} {at : ℕ} (b : ℕ) → Laid xs front at cur → at ≡ b → Laid xs front b cur
laid_at b f e = rw e at f

-- all is written
pub laid_written : {xs front cur : List ℕ} {at : ℕ} (k n : ℕ) → Laid xs front at cur → k ≡ at → n ≡ at → Written k front xs cur n
laid_written {xs} {front} k n f e m =
    record { room = omega (arith, f.room); counted = m ∙ sym e; holds = f.holds ∙ ap (λ j. front ++ drop j xs) (sym e) }
