use Rattle.std.proofs.Common.{◌≡◌, ◌*◌, length, take, sym, ap, ◌∙◌, arith}
use Rattle.text.proofs.Listed.{hex_whole}
use Rattle.text.proofs.requests.put_digits.Goals as goal

pub returns : goal.returns
returns c =
    let end : c.loop-place.place ≡ length c.args.bytes.now = omega arith in
    ap (λ j. take (2 * j) c.loop-place.room) (sym end) ∙ c.loop-place.invariant.1 ∙ hex_whole c.args.bytes.now c.loop-place.place (omega arith)
