use Rattle.std.proofs.Common.{rules, ◌*◌, length, take}
use Rattle.std.specs.Str.{IsUtf8}
use Rattle.text.proofs.Parts.{hex_text, is_ok}
use Rattle.text.proofs.requests.write_part.Goals as goal

pub unwrap-requires : goal.unwrap-requires
unwrap-requires g c =
    let text : IsUtf8 (take (2 * length c.args.part.now) c.put_digits.new.room) = rw c.put_digits.ensures (hex_text c.args.part.now (λ i. search (rules, c.type_inv.part i))) in
    is_ok _ _ _ c.from_utf8.result c.from_utf8.ensures.cases text
