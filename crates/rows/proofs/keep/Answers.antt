-- Each entry stays or goes; at the end the rest is zero.
use Rattle.std.proofs.Common.{◌≡◌, ℕ, ◌+◌, ◌-◌, ◌*◌, ◌≤◌, Bool, List, length, sym, arith}
use borrow.Rule.Slice.PartMut.{put_mid}
use Rattle.rows.specs.Rows.{Tests, kept_cells}
use Rattle.rows.proofs.Keeping.{Going, Keeping, nothing_yet, none_looked_at, next_fits, goes_on, stays_on, more_stays, more_goes, all_looked_at, rows_kept}
use Rattle.rows.proofs.keep.Goals as goal
use Rattle.rows.proofs.keep.Goals.{then-which, else-which}

pub loop-place-init : goal.loop-place-init
loop-place-init g c = (nothing_yet c.args.width c.args.region.now, λ p t. none_looked_at p c.args.width c.args.region.now)

pub loop-place-preserved : goal.loop-place-preserved
loop-place-preserved g c =
    let w : ℕ = c.args.width in
    let i : ℕ = c.loop-place.place in
    let before = c.loop-place.invariant.0 in
    let fits : w * i + w ≤ length c.args.region.now = next_fits w i c.args.count (length c.args.region.now) c.loop-place-test.true c.requires.fits in
    elim c.if-which.branch [
      | then-which b ↦ rw (b.region-is, b.stay-is) (
        stays_on w i c.loop-place.stay c.args.region.now c.loop-place.region before fits b.copy_within.new.self b.copy_within.ensures.after,
        λ p t. more_stays w i c.loop-place.stay c.args.region.now c.loop-place.region before fits b.copy_within.new.self b.copy_within.ensures.after p (c.loop-place.invariant.1 p t) (sym (t _ _ (omega arith) b.if-which.ensures)),
      )
      | else-which b ↦ rw (b.region-is, b.stay-is) (
        goes_on w i c.loop-place.stay c.args.region.now c.loop-place.region before fits,
        λ p t. more_goes w i c.loop-place.stay c.args.region.now c.loop-place.region before fits p (c.loop-place.invariant.1 p t) (sym (t _ _ (omega arith) b.if-which.ensures)),
      )
    ]

pub returns : goal.returns
returns g c =
    let w : ℕ = c.args.width in
    let xs : List ℕ = c.args.region.now in
    let n : ℕ = c.loop-place.stay in
    let all : c.loop-place.place ≡ c.args.count = omega arith in
    let going : Going w c.args.count n xs c.loop-place.region = rw all at c.loop-place.invariant.0 in
    let kept_so : (p : List ℕ → Bool) → Tests g.F.Fn c.args.which w p → Keeping p w c.args.count n xs c.loop-place.region =
    rw all at c.loop-place.invariant.1 in
    let after : (p : List ℕ → Bool) → Tests g.F.Fn c.args.which w p → put_mid (w * n) (w * c.args.count - w * n) c.loop-place.region c.fill.new.self ≡ kept_cells p w c.args.count xs =
    λ p t. all_looked_at p w c.args.count n xs c.loop-place.region c.fill.new.self c.requires.fits going (kept_so p t) (c.fill.ensures.after (λ y h. h)) in
    record {
      stay = λ p t. (kept_so p t).stay;
      cells = after;
      entries = λ p t. rows_kept p w c.args.count n xs _ c.requires.fits (kept_so p t).stay (after p t);
    }
