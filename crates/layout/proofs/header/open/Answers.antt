-- Zeros, and the header over them.
use Rattle.std.proofs.Common.{arith}
use Rattle.stored.specs.Kept.{GoodSizes}
use Rattle.layout.specs.Layout.{sizes}
use Rattle.layout.proofs.NewMemory.{opened}
use Rattle.layout.proofs.header.open.Goals as goal

pub returns : goal.returns
returns c =
    let l = c.in_ok-layout.layout in
    let good : GoodSizes (sizes l) =
    record { some_clients = l.some_clients; few_clients = l.few_clients; one_of_them = l.one_of_them; some_kept = l.some_kept; few_kept = l.few_kept; some_wait = l.some_wait; few_wait = l.few_wait } in
    (c.in_ok-layout.ensures, opened (sizes l) c.args.limits.now c.size-size.result c.args.memory.now c.fill.new.self c.copy_from_slice.new.self c.in_ok-layout.ensures good c.size-size.ensures (omega arith) (c.fill.ensures.after (λ y h. h)) c.copy_from_slice.ensures.after)
