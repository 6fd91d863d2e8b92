use Rattle.std.proofs.Common.{◌++◌, rules}
use Rattle.text.specs.Line.{line_with}
use Rattle.text.proofs.Doings.{entry_told, row_told}
use Rattle.text.proofs.Shorts.{cut_exit, missing}
use Rattle.text.proofs.answers.Line.add.Goals as goal

pub loop-i-preserved : goal.loop-i-preserved
loop-i-preserved g c =
    entry_told g.T.Fixed.width (λ bs. g.T.Deed.verb ++ g.T.Deed.shown bs) c.args.row.now.bytes.now (line_with c.args.self.now) _ _ _ c.loop-i.i c.loop-i.invariant (c.in_ok-tell.ensures _ (search rules))

pub returns : goal.returns
returns g c =
    row_told g.T.Fixed.width (λ bs. g.T.Deed.verb ++ g.T.Deed.shown bs) c.args.row.now.bytes.now (line_with c.args.self.now) (line_with c.loop-i.self) c.loop-i.i _ _ _ c.loop-i.invariant c.loop-i-test.false c.loop-i.auto.i-end c.len-i-end.ensures.counted (g.met.T.Deed.each c.args.row.now)

pub returns-in_err-deed : goal.returns-in_err-deed
returns-in_err-deed g c =
    cut_exit c.from_residual.result _ _ _ _ c.from_residual.ensures.1 (λ h. h)
    (missing g.T.Fixed.width c.args.row.now.count _ c.loop-i.i c.args.row.now.bytes.now c.get.result _ _ _ c.loop-i-test.true c.len-i-end.ensures.counted c.get.ensures c.ok_or.ensures.value c.in_err-deed.was)
