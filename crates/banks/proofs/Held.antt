-- The banks in a client's memory: their two regions as they are lent, and what writing one of them makes of the client.
use Rattle.std.proofs.Common.{◌≡◌, ℕ, ◌+◌, ◌-◌, ◌*◌, ◌<◌, ◌≤◌, List, length, take, drop, set, replicate, sym, refl, ap, ◌∙◌, subst, ap₂, arith}
use borrow.Rule.Slice.PartMut.{put_mid}
use Rattle.std.proofs.lemmas.List.{length-set}
use Rattle.std.proofs.ByRecursion.{All-get_or, All-set}
use Rattle.stored.specs.Stored.{Cell, empty, Bank, Sizes, Stored, free_bank, bank_at, with_banks, marked, with_cells}
use Rattle.stored.specs.Numbers.{marks, bank_cells, header, regions, needed}
use Rattle.stored.specs.Kept.{Well, Held}
use Rattle.layout.specs.Layout.{start_of, size_of, Spans}
use Rattle.layout.specs.declared.region.Region.TheVariants.{Marks, Cells}
use Rattle.std.specs.declared.ops.Range.{Range}
use Rattle.layout.proofs.NewMemory.{free_numbers}
use Rattle.layout.proofs.Places.{place, lent, written}
use Rattle.banks.specs.Banks.{Sized, CellsAt, numbers_of}
use Rattle.stored.proofs.Regions.{has_its_size}
use Rattle.banks.proofs.Bounds.{bank_fits}
use Rattle.banks.proofs.Places.{bank_is, bank_put}
use Rattle.banks.proofs.Alike.{how_many}
use Rattle.banks.proofs.Within.{part_within, put_within}
use Rattle.banks.proofs.Changed.{mark_keeps, cells_keep, mark_sized}

-- a client with banks as many as before, each with a cell for each client
well_banks : (bs : List Bank) (t : Stored) → Well t → length bs ≡ length t.banks → Sized t.sizes.clients bs → Well (with_banks bs t)
well_banks bs t w many sized =
    record {
      sizes = w.sizes;
      past = w.past;
      queue = w.queue;
      active = w.active;
      ahead = w.ahead;
      own = w.own;
      banks = many ∙ w.banks;
      cells = sized;
    }

-- its regions, where only the marks differ or only the cells
regions_marks : (bs : List Bank) (t : Stored) → bank_cells bs ≡ bank_cells t.banks → set (regions t) (place Marks) (marks bs) ≡ regions (with_banks bs t)
unfolding regions header
regions_marks bs t e = rw e

regions_cells : (bs : List Bank) (t : Stored) → marks bs ≡ marks t.banks → set (regions t) (place Cells) (bank_cells bs) ≡ regions (with_banks bs t)
unfolding regions header
regions_cells bs t e = rw e

-- two banks for each duty that may wait, and in each a cell for each client
pub many_banks : (z : Sizes) (xs : List ℕ) (t : Stored) → Held z xs t → length t.banks ≡ 2 * z.waiting
many_banks z xs t h = h.well.banks ∙ ap (λ (y : Sizes). 2 * y.waiting) h.sized

pub celled : (z : Sizes) (xs : List ℕ) (t : Stored) → Held z xs t → Sized z.clients t.banks
celled z xs t h = subst (λ (y : Sizes). Sized y.clients t.banks) h.sized h.well.cells

module _ (z : Sizes) (s : Range ℕ) (xs : List ℕ) (t : Stored) (h : Held z xs t) where
  -- the marks as they are lent, and another one written there
  pub marks_lent : Spans z Marks s → take (s.end - s.start) (drop s.start xs) ≡ marks t.banks
  unfolding regions
  marks_lent spans = lent z Marks s xs t spans h

  pub mark_written : (p m : ℕ) (part : List ℕ) → Spans z Marks s → part ≡ marks (marked t.banks p m) → Held z (put_mid s.start (s.end - s.start) xs part) (with_banks (marked t.banks p m) t)
  mark_written p m part spans e =
      let bs : List Bank = marked t.banks p m in
      written z Marks s xs t spans h part (with_banks bs t)
      (well_banks bs t h.well (length-set t.banks p _) (mark_sized t.sizes.clients t.banks p m h.well.cells))
      refl
      (ap (set (regions t) (place Marks)) e ∙ regions_marks bs t (mark_keeps t.banks p m))

-- the bank at a place, as it is lent, and other cells written there
module _ (z : Sizes) (p : ℕ) (s : Range ℕ) (xs : List ℕ) (t : Stored) (h : Held z xs t) (at : CellsAt z p s) (few : p < 2 * z.waiting) where
  all : Range ℕ
  all = record { start = start_of z Cells; end = start_of z Cells + size_of z Cells }

  all_lent : take (all.end - all.start) (drop all.start xs) ≡ bank_cells t.banks
  unfolding regions all
  all_lent = lent z Cells all xs t (record { starts = refl; ends = refl }) h

  wide : size_of z Cells ≡ start_of z Cells + size_of z Cells - start_of z Cells
  wide = omega arith

  inside : p < length t.banks
  inside = omega (arith, many_banks z xs t h)

  fits : 18 * z.clients * p + 18 * z.clients ≤ start_of z Cells + size_of z Cells - start_of z Cells
  fits = omega (arith, bank_fits z.clients p z.waiting few)

  width : s.end - s.start ≡ 18 * z.clients
  width = let e = at.ends in omega arith

  pub bank_lent : take (s.end - s.start) (drop s.start xs) ≡ numbers_of (bank_at t.banks p).cells
  unfolding all
  bank_lent =
      ap₂ (λ k a. take k (drop a xs)) width at.starts
      ∙ part_within (start_of z Cells) (18 * z.clients * p) (18 * z.clients) (start_of z Cells + size_of z Cells - start_of z Cells) xs fits
      ∙ ap (λ (ys : List ℕ). take (18 * z.clients) (drop (18 * z.clients * p) ys)) all_lent
      ∙ bank_is z.clients p t.banks (celled z xs t h) inside

  pub bank_written : (cs : List Cell) (part : List ℕ) → length cs ≡ t.sizes.clients → part ≡ numbers_of cs → Held z (put_mid s.start (s.end - s.start) xs part) (with_banks (with_cells t.banks p cs) t)
  unfolding all
  bank_written cs part many e =
      let bs : List Bank = with_cells t.banks p cs in
      let long : start_of z Cells + (start_of z Cells + size_of z Cells - start_of z Cells) ≤ length xs = omega (arith, ap length h.is, (has_its_size t h.well).0, ap needed h.sized) in
      let there : put_mid s.start (s.end - s.start) xs part ≡ put_mid all.start (all.end - all.start) xs (put_mid (18 * z.clients * p) (18 * z.clients) (take (all.end - all.start) (drop all.start xs)) part) =
      ap₂ (λ a k. put_mid a k xs part) at.starts width ∙ put_within (start_of z Cells) (18 * z.clients * p) (18 * z.clients) (start_of z Cells + size_of z Cells - start_of z Cells) xs fits part long in
      let cells : put_mid (18 * z.clients * p) (18 * z.clients) (take (all.end - all.start) (drop all.start xs)) part ≡ bank_cells bs =
      ap₂ (put_mid (18 * z.clients * p) (18 * z.clients)) all_lent e ∙ bank_put z.clients p t.banks (celled z xs t h) inside cs in
      subst (λ (ys : List ℕ). Held z ys (with_banks bs t)) (sym there)
      (written z Cells all xs t (record { starts = refl; ends = refl }) h _ (with_banks bs t)
      (well_banks bs t h.well (length-set t.banks p _) (All-set (λ (b : Bank). length b.cells ≡ t.sizes.clients) t.banks p _ many h.well.cells))
      refl
      (ap (set (regions t) (place Cells)) cells ∙ regions_cells bs t (cells_keep t.banks p cs)))

  -- each bank has a cell for each client
  pub bank_many : length (bank_at t.banks p).cells ≡ t.sizes.clients
  bank_many = All-get_or (λ (b : Bank). length b.cells ≡ t.sizes.clients) t.banks p (free_bank 0) inside h.well.cells

  pub bank_long : length (take (s.end - s.start) (drop s.start xs)) ≡ 18 * t.sizes.clients
  bank_long = ap length bank_lent ∙ how_many (bank_at t.banks p).cells ∙ ap (λ k. 18 * k) bank_many

  -- zeros there are empty cells
  pub bank_zeros : (part : List ℕ) → part ≡ replicate (length (take (s.end - s.start) (drop s.start xs))) 0 → part ≡ numbers_of (replicate t.sizes.clients empty)
  bank_zeros part zeros =
      zeros ∙ ap (λ k. replicate k 0) bank_long ∙ sym (free_numbers t.sizes.clients)
