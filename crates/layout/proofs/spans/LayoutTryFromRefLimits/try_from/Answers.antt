-- What a client may be opened with.
use Rattle.std.proofs.Common.{true, arith}
use Rattle.layout.proofs.spans.LayoutTryFromRefLimits.try_from.Goals as goal

pub invariant_of-result : goal.invariant_of-result
invariant_of-result c =
    let g = c.in_ok-check.ensures (λ k. true) in
    record {
      some_clients = omega (arith, g.0, c.from.ensures);
      few_clients = omega (arith, g.1, c.from.ensures);
      one_of_them = omega (arith, g.2, c.from.ensures, c.from-2.ensures);
      some_kept = omega (arith, g.3, c.from-3.ensures);
      few_kept = omega (arith, g.4, c.from-3.ensures);
      some_wait = omega (arith, g.5, c.from-4.ensures);
      few_wait = omega (arith, g.6, c.from-4.ensures);
    }
