use Rattle.std.proofs.Common.{refl}
use Rattle.layout.specs.Layout.{sizes}
use Rattle.banks.proofs.Held.{marks_lent, mark_written}
use Rattle.banks.proofs.Marking.{marks_set}
use Rattle.banks.proofs.memory.set_mark.Goals as goal

pub returns : goal.returns
returns c =
    let m = c.args.memory.now in
    record {
      layout = refl;
      lent = refl;
      holds =
          λ t h. mark_written (sizes m.layout) c.span-marks.result m.numbers.now t h c.args.place c.args.mark _ c.span-marks.ensures
          (marks_set _ t.banks c.args.place c.args.mark (marks_lent (sizes m.layout) c.span-marks.result m.numbers.now t h c.span-marks.ensures));
    }
