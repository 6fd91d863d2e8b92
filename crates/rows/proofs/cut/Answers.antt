-- The cells after the shift and the zeros, and from them the entries.
use Rattle.std.proofs.Common.{◌≡◌, ◌-◌, ◌≤◌, length, arith}
use borrow.Rule.Slice.PartMut.{put_mid}
use Rattle.rows.specs.Rows.{cut_cells}
use Rattle.rows.proofs.Cells.{cut_is}
use Rattle.rows.proofs.Laws.{rows_cut}
use Rattle.rows.proofs.cut.Goals as goal

pub returns : goal.returns
returns c =
    let after : put_mid (c.args.end - c.args.width) (c.args.end - (c.args.end - c.args.width)) c.copy_within.new.self c.fill.new.self ≡ cut_cells c.args.start c.args.end c.args.width c.args.region.now =
    cut_is c.args.start c.args.end c.args.width (c.args.end - (c.args.end - c.args.width)) c.args.region.now c.copy_within.new.self c.fill.new.self (omega arith) (omega arith) c.copy_within.ensures.after (c.fill.ensures.after (λ y h. h)) (omega arith) in
    let fits : c.args.end ≤ length c.args.region.now = omega arith in
    record { cells = after; entries = λ m n s e h. rows_cut c.args.width m n c.args.start c.args.end c.args.region.now _ fits after s e h }
