-- The regions of a memory by their places: what is lent of a region is what it holds, and another content written there is another stored client.
use Rattle.std.specs.declared.ops.Range.{Range}
use Rattle.std.proofs.Common.{◌≡◌, ℕ, ◌-◌, ◌<◌, List, [], length, get_or, take, drop, set, sym, refl, ap, ◌∙◌, arith}
use borrow.Rule.Slice.PartMut.{put_mid}
use Rattle.rows.specs.Rows.{flat}
use Rattle.stored.specs.Stored.{Sizes, Stored}
use Rattle.stored.specs.Numbers.{region_sizes, regions, encode}
use Rattle.stored.specs.Kept.{Well, Held}
use Rattle.stored.proofs.Parts.{start, part_at, put_part}
use Rattle.stored.proofs.Regions.{region_start, region_length}
use Rattle.layout.specs.Layout.{start_of, size_of, Spans}
use Rattle.layout.specs.Memory.{content}
use Rattle.layout.specs.declared.region.Region.{Region}
use Rattle.layout.specs.declared.region.Region.TheVariants.{Past, Queue, Active, Ahead, Own, Marks, Cells}

-- which of the regions it is, the header being the first
abbrev pub place : Region → ℕ
place Past = 1
place Queue = 2
place Active = 3
place Ahead = 4
place Own = 5
place Marks = 6
place Cells = 7

pub held_there : (r : Region) (t : Stored) → get_or (regions t) (place r) [] ≡ content r t
unfolding regions
held_there Past t = refl
held_there Queue t = refl
held_there Active t = refl
held_there Ahead t = refl
held_there Own t = refl
held_there Marks t = refl
held_there Cells t = refl

there : (r : Region) (t : Stored) → place r < length (regions t)
unfolding regions
there Past t = omega arith
there Queue t = omega arith
there Active t = omega arith
there Ahead t = omega arith
there Own t = omega arith
there Marks t = omega arith
there Cells t = omega arith

-- each starts where the ones before it end, and has its size
starts_there : (r : Region) (t : Stored) → Well t → start_of t.sizes r ≡ start (regions t) (place r)
unfolding region_sizes
starts_there Past t w = sym (region_start t 1 w)
starts_there Queue t w = omega (arith, region_start t 2 w)
starts_there Active t w = omega (arith, region_start t 3 w)
starts_there Ahead t w = omega (arith, region_start t 4 w)
starts_there Own t w = omega (arith, region_start t 5 w)
starts_there Marks t w = omega (arith, region_start t 6 w)
starts_there Cells t w = omega (arith, region_start t 7 w)

sized_so : (r : Region) (t : Stored) → Well t → size_of t.sizes r ≡ length (get_or (regions t) (place r) [])
unfolding region_sizes
sized_so Past t w = sym (region_length t 1 w)
sized_so Queue t w = sym (region_length t 2 w)
sized_so Active t w = sym (region_length t 3 w)
sized_so Ahead t w = sym (region_length t 4 w)
sized_so Own t w = sym (region_length t 5 w)
sized_so Marks t w = sym (region_length t 6 w)
sized_so Cells t w = sym (region_length t 7 w)

-- how many numbers a region's span has
span_size : (z : Sizes) (r : Region) (s : Range ℕ) → Spans z r s → s.end - s.start ≡ size_of z r
span_size z r s p = let a = p.starts in let b = p.ends in omega arith

module _ (z : Sizes) (r : Region) (s : Range ℕ) (xs : List ℕ) (t : Stored) (p : Spans z r s) (h : Held z xs t) where
  begins : s.start ≡ start (regions t) (place r)
  begins = p.starts ∙ ap (λ y. start_of y r) (sym h.sized) ∙ starts_there r t h.well

  long : s.end - s.start ≡ length (get_or (regions t) (place r) [])
  long = span_size z r s p ∙ ap (λ y. size_of y r) (sym h.sized) ∙ sized_so r t h.well

  -- the region as it is lent
  pub lent : take (s.end - s.start) (drop s.start xs) ≡ get_or (regions t) (place r) []
  unfolding encode
  lent = ap (λ ys. take (s.end - s.start) (drop s.start ys)) h.is ∙ part_at (regions t) (place r) s.start (s.end - s.start) begins long

  pub shown : take (s.end - s.start) (drop s.start xs) ≡ content r t
  shown = lent ∙ held_there r t

  -- written anew, it is that of another client
  pub written : (part : List ℕ) (t' : Stored) → Well t' → t'.sizes ≡ t.sizes → set (regions t) (place r) part ≡ regions t' → Held z (put_mid s.start (s.end - s.start) xs part) t'
  unfolding encode
  written part t' w same e =
      record {
        sized = same ∙ h.sized;
        well = w;
        is =
            ap (λ ys. put_mid s.start (s.end - s.start) ys part) h.is
            ∙ put_part (regions t) (place r) s.start (s.end - s.start) part (there r t) begins long
            ∙ ap flat e;
      }
