-- No client's memory, no room for the answer, or taken.
use Rattle.std.proofs.Common.{◌≡◌, ℕ, ◌++◌, drop, None, Err, Result, refl, sym, ap, ◌∙◌, subst, arith}
use Rattle.std.specs.Option.{ok_or}
use Rattle.std.proofs.lemmas.Bool.{both_ways}
use Rattle.std.proofs.lemmas.Result.{err_from_is_err_and}
use Rattle.wire.specs.Laws.{typed_bytes}
use Rattle.layout.specs.Layout.{sizes, plausible}
use Rattle.keeper.proofs.Promises.{keeps_its_promises}
use Rattle.client_in_memory.specs.Calls.{stage, Took}
use Rattle.client_in_memory.specs.declared.errors.CallError.{CallError}
use Rattle.client_in_memory.specs.declared.errors.CallError.TheVariants.{NotAClient}
use Rattle.client_in_memory.proofs.Afters.{passes, took_it, no_room}
use Rattle.client_in_memory.proofs.calls.handle.Goals as goal

pub returns-in_err-layout : goal.returns-in_err-layout
returns-in_err-layout c =
    let none = rw c.in_err-layout.ensures.ok_part at c.of.ensures in
    let is : _ ≡ ok_or None NotAClient = rw c.in_err-layout.ensures.ok_part at c.in_err-layout.ensures.value in
    let named : c.in_err-layout.field-0.0 ≡ NotAClient = cc in
    let failed = err_from_is_err_and c.from_residual.result c.from_residual.ensures.1 in
    record {
      handled =
          record {
            took = λ l es a. absurd (both_ways (plausible c.args.memory.now) none (passes l es c.args.memory.now a));
            others = λ _. (failed.1 ∙ ap Err (failed.2 ∙ named), refl, refl);
          };
      right = (keeps_its_promises stage).0;
      safe = (keeps_its_promises stage).3;
    }

pub returns-in_err-n : goal.returns-in_err-n
returns-in_err-n c =
    let front = rw c.in_ok-layout.ensures.ok_part at c.of.ensures in
    let failed = err_from_is_err_and c.from_residual-in_err-n.result c.from_residual-in_err-n.ensures.1 in
    record {
      handled =
          record {
            took =
                λ l es a.
                subst (λ (r : Result ℕ CallError). Took l es c.args.event.now c.args.memory.now (c.serve.new.memory ++ drop c.size-size.result c.args.memory.now) c.args.answer.now c.serve.new.out r) (sym (failed.1 ∙ ap Err failed.2))
                (no_room l es c.args.memory.now a (sizes c.in_ok-layout.layout) c.size-size.result front.sized c.size-size.ensures c.args.event.now c.args.answer.now c.serve.new.out c.serve.new.memory (typed_bytes c.args.event.now c.type_inv.event) (omega arith) _ c.in_err-n.ensures);
            others = λ no. absurd (both_ways (plausible c.args.memory.now) no front.passes);
          };
      right = (keeps_its_promises stage).0;
      safe = (keeps_its_promises stage).3;
    }

pub returns : goal.returns
returns c =
    let front = rw c.in_ok-layout.ensures.ok_part at c.of.ensures in
    record {
      handled =
          record {
            took =
                λ l es a.
                took_it l es c.args.memory.now a (sizes c.in_ok-layout.layout) c.size-size.result front.sized c.size-size.ensures c.args.event.now c.args.answer.now c.serve.new.out c.serve.new.memory (typed_bytes c.args.event.now c.type_inv.event) (omega arith) c.in_ok-n.n c.in_ok-n.ensures;
            others = λ no. absurd (both_ways (plausible c.args.memory.now) no front.passes);
          };
      right = (keeps_its_promises stage).0;
      safe = (keeps_its_promises stage).3;
    }
