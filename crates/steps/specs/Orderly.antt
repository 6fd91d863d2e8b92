-- What looking at the queue rests on: slots to which one can be added, and in order. Assumes nothing: these are definitions.
use Rattle.std.specs.Prelude.{suc, ◌<◌}
use Rattle.std.specs.List.{AllByRecursion}
use Rattle.protocol.specs.Data.{Duty}
use Rattle.protocol.specs.Client.{slots}
use Rattle.stored.specs.Stored.{Stored}
use Rattle.keeper.specs.Ready.{Ascending, duty_slots}

abbrev pub SlotFits : Duty → Type 0
SlotFits y = suc y.slot < 18446744073709551616

-- what waits and what is ahead is in the order of slots, each once
pub record Orderly (t : Stored) : Type 0 where
  pub waiting : AllByRecursion SlotFits t.queue
  pub deciding : AllByRecursion SlotFits t.active
  pub queue : Ascending (duty_slots t.queue)
  pub ahead : Ascending (slots t.ahead)
