-- Those that are ahead go, and then the first is begun.
use Rattle.std.proofs.Common.{List, sym, ◌∙◌, subst}
use Rattle.std.specs.List.{AllByRecursion}
use Rattle.protocol.specs.Data.{Duty}
use Rattle.wire.specs.Meaning.{duty_of}
use Rattle.stored.specs.Stored.{Stored}
use Rattle.layout.specs.Memory.{Holds}
use Rattle.steps.specs.Orderly.{SlotFits}
use Rattle.steps.specs.Queue.{skipped}
use Rattle.steps.proofs.Beginning.{stays, none_waits, begins, fits_there, some_waits}
use Rattle.steps.proofs.Busy.{idle, busy}
use Rattle.steps.proofs.Skipping.{settle_is, skipped_keeps, skipped_all}
use Rattle.steps.proofs.queue.settle.Goals as goal

pub returns-then-is_busy : goal.returns-then-is_busy
returns-then-is_busy c =
    let s = c.skip_shown.ensures in
    record {
      layout = s.layout;
      lent = s.lent;
      holds =
          λ t h r.
          let u : Stored = skipped t.queue t in
          let held = s.holds t h r in
          let hand = busy _ u.at_hand (c.is_busy.ensures u (c.view.ensures.shows u held)) c.if-is_busy.true in
          subst (Holds c.skip_shown.new.memory) (sym (stays u hand) ∙ sym (settle_is t.queue t)) held;
    }

pub returns-in-Some : goal.returns-in-Some
unfolding duty_of
returns-in-Some c =
    let s = c.skip_shown.ensures in
    let b = c.begin.ensures in
    record {
      layout = b.layout ∙ s.layout;
      lent = b.lent ∙ s.lent;
      holds =
          λ t h r.
          let u : Stored = skipped t.queue t in
          let held = s.holds t h r in
          let hand = idle _ u.at_hand (c.is_busy.ensures u (c.view.ensures.shows u held)) c.if-is_busy.false in
          let y : Duty = duty_of c.in-Some.first in
          let first = c.in-Some.ensures u (c.view-2.ensures.shows u held) in
          let deciding : AllByRecursion SlotFits u.active = subst (λ (ys : List Duty). AllByRecursion SlotFits ys) (sym (skipped_keeps t.queue t).0) r.deciding in
          subst (Holds c.begin.new.memory) (begins y u hand first ∙ sym (settle_is t.queue t))
          (b.holds u held (deciding, fits_there 0 y u.queue first (skipped_all SlotFits t.queue t r.waiting), some_waits y u.queue first));
    }

pub returns-in_default : goal.returns-in_default
returns-in_default c =
    let s = c.skip_shown.ensures in
    record {
      layout = s.layout;
      lent = s.lent;
      holds =
          λ t h r.
          let u : Stored = skipped t.queue t in
          let held = s.holds t h r in
          subst (Holds c.skip_shown.new.memory) (sym (none_waits u (c.in_default.ensures u (c.view-2.ensures.shows u held))) ∙ sym (settle_is t.queue t)) held;
    }
