-- Another cell in a bank is another bank.
use Rattle.std.proofs.Common.{◌≡◌, ℕ, ◌+◌, ◌-◌, ◌*◌, ◌≤◌, List, length, take, drop, refl, ap, ◌∙◌, ap₂, arith, length-set}
use borrow.Rule.Slice.PartMut.{put_mid}
use Rattle.wire.specs.Meaning.{data_of}
use Rattle.stored.specs.Stored.{Cell, holds, Sizes}
use Rattle.stored.specs.Numbers.{cell_numbers}
use Rattle.layout.specs.Layout.{sizes}
use Rattle.banks.proofs.Held.{bank_lent, bank_long, bank_many, bank_written}
use Rattle.banks.proofs.Places.{cell_put}
use Rattle.banks.proofs.memory.put.Goals as goal

pub returns : goal.returns
unfolding cell_numbers
returns c =
    let m = c.args.memory.now in
    let z : Sizes = sizes m.layout in
    let s = c.cells_at-cells.result in
    let who : ℕ = c.args.who in
    let part : List ℕ = take (s.end - s.start) (drop s.start m.numbers.now) in
    let cell : Cell = holds c.args.seat (data_of c.args.data.now) in
    let width : 18 * who + 18 - 18 * who ≡ 18 = omega arith in
    let row : c.copy_from_slice.new.self ≡ cell_numbers cell = c.copy_from_slice.ensures.after ∙ c.share_numbers.ensures in
    record {
      layout = refl;
      lent = refl;
      holds =
          λ t h. let few : 18 * who + 18 ≤ length part = omega (arith, c.requires.1, bank_long z c.args.place s m.numbers.now t h c.cells_at-cells.ensures c.requires.0, ap (λ (y : Sizes). y.clients) h.sized) in
          bank_written z c.args.place s m.numbers.now t h c.cells_at-cells.ensures c.requires.0 _ _
          (length-set _ who _ ∙ bank_many z c.args.place s m.numbers.now t h c.cells_at-cells.ensures c.requires.0)
          (ap₂ (λ k (r : List ℕ). put_mid (18 * who) k part r) width row
          ∙ cell_put who _ part few (bank_lent z c.args.place s m.numbers.now t h c.cells_at-cells.ensures c.requires.0) cell);
    }
