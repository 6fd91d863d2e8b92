-- One more than the largest slot is no mark.
use Rattle.std.proofs.Common.{suc, ◌≤◌, arith}
use Rattle.steps.proofs.Sharing.{no_such_mark}
use Rattle.steps.proofs.share.listened.Goals as goal

pub returns-in_err-checked_add-clause-first : goal.returns-in_err-checked_add-clause-first
returns-in_err-checked_add-clause-first c t h r =
    let large : 18446744073709551616 ≤ suc c.args.slot = omega (arith, c.in_err-checked_add.ensures) in
    rw c.from_residual.ensures (no_such_mark (suc c.args.slot) t.banks large r.fits.banks)
