use Rattle.std.proofs.Common.{◌∙◌}
use Rattle.text.proofs.Doings.{done_said}
use Rattle.text.proofs.Shorts.{answer_is, rows_cut}
use Rattle.text.proofs.answers.answer_text.Goals as goal

pub returns-in-Done : goal.returns-in-Done
returns-in-Done c =
    answer_is c.told.result _ _ _ _ (λ t e. e ∙ done_said c.args.answer.now _ c.in-Done.is) (rows_cut c.args.answer.now _ c.in-Done.is) c.told.ensures
