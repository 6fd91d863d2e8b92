-- The cells after the shift and the write, and from them the entries.
use Rattle.std.proofs.Common.{◌≡◌, ◌+◌, ◌-◌, ◌≤◌, length, arith}
use borrow.Rule.Slice.PartMut.{put_mid}
use Rattle.rows.specs.Rows.{put_cells}
use Rattle.rows.proofs.Cells.{put_is}
use Rattle.rows.proofs.Laws.{rows_put}
use Rattle.rows.proofs.put.Goals as goal

pub returns : goal.returns
returns c =
    let after : put_mid c.args.start ((c.args.start + length c.args.row.now) - c.args.start) c.copy_within.new.self c.copy_from_slice.new.self ≡ put_cells c.args.start c.args.end c.args.row.now c.args.region.now =
    put_is c.args.start c.args.end ((c.args.start + length c.args.row.now) - c.args.start) c.args.row.now c.args.region.now c.copy_within.new.self c.copy_from_slice.new.self (omega arith) (omega arith) c.copy_within.ensures.after c.copy_from_slice.ensures.after (omega arith) in
    let fits : c.args.end ≤ length c.args.region.now = omega arith in
    record { cells = after; entries = λ w m n s e l h. rows_put w m n c.args.start c.args.end c.args.row.now c.args.region.now _ fits after s e l h }
