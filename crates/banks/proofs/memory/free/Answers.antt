-- Cleared and its mark gone.
use Rattle.std.proofs.Common.{List, subst, ap, ◌∙◌, arith}
use Rattle.stored.specs.Stored.{Bank, with_banks}
use Rattle.layout.specs.Layout.{sizes}
use Rattle.layout.specs.Memory.{Holds}
use Rattle.layout.specs.declared.memory.View.{View}
use Rattle.banks.proofs.Changed.{freed_so}
use Rattle.banks.proofs.Held.{many_banks}
use Rattle.banks.proofs.memory.free.Goals as goal

pub returns-in-Some : goal.returns-in-Some
returns-in-Some c =
    let v = c.view.result in
    record {
      layout = c.set_mark.ensures.layout ∙ c.clear.ensures.layout;
      lent = c.set_mark.ensures.lent ∙ c.clear.ensures.lent;
      holds =
          λ t h. subst (λ (bs : List Bank). Holds c.set_mark.new.memory (with_banks bs t))
          (freed_so t.sizes.clients c.args.slot c.in-Some.field-0.place t.banks (c.in-Some.ensures.first t (c.view.ensures.shows t h)) (omega (arith, c.in-Some.field-0.inside, ap (λ (w : View). w.layout.waiting) c.in-Some.ensures.of, many_banks (sizes v.layout) v.numbers.now t (c.view.ensures.shows t h))))
          (c.set_mark.ensures.holds _ (c.clear.ensures.holds t h));
    }
