use Rattle.std.proofs.Common.{ℕ, ◌/◌, eqb, List, length, ap, ap₂, ◌∙◌}
use lib.Pointwise.{pointwise}
use Rattle.std.specs.List.{filter}
use Rattle.std.specs.Simd.{first_chunks}
use Rattle.wire.specs.Meaning.{data_of}
use Rattle.stored.specs.Stored.{bank_at}
use Rattle.stored.specs.Numbers.{cell_numbers}
use Rattle.banks.proofs.Alike.{same_count, cut_out}
use Rattle.banks.proofs.memory.Bank.count_alike.Goals as goal

pub returns-clause-counted : goal.returns-clause-counted
unfolding cell_numbers
returns-clause-counted c t h =
    let cs = (bank_at t.banks c.args.self.place).cells in
    c.count_same.ensures.counted
    ∙ ap₂ (λ (wanted : List ℕ) (cells : List (List ℕ)). length (filter (λ cell. pointwise eqb cell wanted) cells)) c.share_numbers-wanted.ensures (c.as_chunks.ensures.front ∙ ap (λ (xs : List ℕ). first_chunks 18 (length xs / 18) xs) (c.cells.ensures.shown t h) ∙ cut_out cs)
    ∙ same_count c.args.seat (data_of c.args.data.now) cs
