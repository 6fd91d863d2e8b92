use Rattle.std.proofs.Common.{◌≡◌, ℕ, ◌+◌, ◌-◌, ◌*◌, List, ◌∷◌, length, take, sym, refl, ap, ◌∙◌, arith, length-take-le}
use native.Mathlib.Nat.{sub-zero}
use Rattle.std.proofs.lemmas.Bool.{le-leb}
use Rattle.events.proofs.BlockBytes.{lent_is}
use Rattle.events.proofs.ByNumber.{bytes_fit}
use Rattle.events.proofs.Laid.{lay_two, lay_part, laid_written}
use Rattle.events.proofs.event_writing.write_lent.Goals as goal

pub returns-then-out-size : goal.returns-then-out-size
returns-then-out-size c =
    let bs = c.args.bytes.now in
    let inside = rw (c.size.ensures, c.from.ensures) at c.if-bytes-size.false in
    let is = lent_is c.args.count bs (bytes_fit bs c.type_inv.bytes) inside in
    let long : length (take (128 * c.args.count) bs) ≡ 128 * c.args.count = length-take-le (128 * c.args.count) bs inside in
    (le-leb _ _ inside, record { short = rw is (omega (arith, rw (c.size.ensures, c.from.ensures) at c.if-out-size.true)); kept = refl })

pub returns : goal.returns
returns c =
    let bs = c.args.bytes.now in
    let size : ℕ = 128 * c.args.count in
    let part = c.copy_from_slice.new.self in
    let inside = rw (c.size.ensures, c.from.ensures) at c.if-bytes-size.false in
    let same : part ≡ take size bs = c.copy_from_slice.ensures.after ∙ rw (c.size.ensures, c.from.ensures) (ap (λ k. take k bs) (sub-zero size)) in
    let is = lent_is c.args.count bs (bytes_fit bs c.type_inv.bytes) inside in
    let room = rw (c.size.ensures, c.from.ensures) at c.if-out-size.false in
    let first = lay_two c.args.out.now 3 c.args.count (omega arith) in
    let laid = lay_part first part size (2 + size - 2) (ap length same ∙ length-take-le size bs inside) (omega arith) room in
    let whole = rw (ap (λ (ys : List ℕ). 3 ∷ (c.args.count ∷ ys)) same ∙ sym is) at laid in
    rw (c.size.ensures, c.from.ensures, c.from-2.ensures) (le-leb _ _ inside, laid_written _ _ whole whole.long refl)
