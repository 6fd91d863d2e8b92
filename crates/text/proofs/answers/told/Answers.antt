use Rattle.std.proofs.Common.{inl, inr, refl, ◌∙◌}
use Rattle.text.specs.Line.{line_with}
use Rattle.text.specs.Text.{listed}
use Rattle.text.proofs.Doings.{four_rows, nothing_done, something_done}
use Rattle.text.proofs.Shorts.{cut_exit}
use Rattle.text.proofs.answers.told.Goals as goal

pub returns-in_err-add : goal.returns-in_err-add
returns-in_err-add c =
    cut_exit c.from_residual.result _ _ _ _ c.from_residual.ensures.1 inl c.in_err-add.ensures

pub returns-in_err-add-2 : goal.returns-in_err-add-2
returns-in_err-add-2 c =
    cut_exit c.from_residual-in_err-add-2.result _ _ _ _ c.from_residual-in_err-add-2.ensures.1 (λ h. inr (inl h)) c.in_err-add-2.ensures

pub returns-in_err-add-3 : goal.returns-in_err-add-3
returns-in_err-add-3 c =
    cut_exit c.from_residual-in_err-add-3.result _ _ _ _ c.from_residual-in_err-add-3.ensures.1 (λ h. inr (inr (inl h))) c.in_err-add-3.ensures

pub returns-in_err-add-4 : goal.returns-in_err-add-4
returns-in_err-add-4 c =
    cut_exit c.from_residual-in_err-add-4.result _ _ _ _ c.from_residual-in_err-add-4.ensures.1 (λ h. inr (inr (inr h))) c.in_err-add-4.ensures

pub returns-then-is_empty : goal.returns-then-is_empty
unfolding listed
returns-then-is_empty c =
    c.in_ok-format.ensures.ok
    ∙ nothing_done _ _ _ _ _
    (four_rows (line_with c.add.new.self) (line_with c.add-2.new.self) (line_with c.add-3.new.self) (line_with c.add-4.new.self) _ _ _ _ _ _ c.new.ensures.bytes c.in_ok-add.ensures c.in_ok-add-2.ensures c.in_ok-add-3.ensures c.in_ok-add-4.ensures refl)
    (rw c.add-4.new.self.text.bytes.ok.0 at c.if-is_empty.ensures)

pub returns : goal.returns
unfolding listed
returns c =
    something_done _ _
    (four_rows (line_with c.add.new.self) (line_with c.add-2.new.self) (line_with c.add-3.new.self) (line_with c.add-4.new.self) _ _ _ _ _ _ c.new.ensures.bytes c.in_ok-add.ensures c.in_ok-add-2.ensures c.in_ok-add-3.ensures c.in_ok-add-4.ensures refl)
    (rw c.add-4.new.self.text.bytes.ok.0 at c.if-is_empty.ensures)
