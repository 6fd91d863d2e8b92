use Rattle.std.proofs.Common.{◌≡◌, ℕ, List, ◌++◌}
use Rattle.events.specs.Layout.{entries}
use Rattle.text.specs.Line.{line_with}
use Rattle.text.proofs.answers.Line.add.Given as goal

abbrev pub invariant-loop-i : goal.invariant-loop-i
invariant-loop-i g l =
    (more : List (List ℕ)) → line_with l.self more ≡ line_with l.initial.self (entries g.T.Fixed.width (λ bs. g.T.Deed.verb ++ g.T.Deed.shown bs) l.i l.row.bytes.now ++ more)
