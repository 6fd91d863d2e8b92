-- Where the walk stands, and how many wait.
use Rattle.std.proofs.Common.{◌≡◌}
use Rattle.stored.specs.Stored.{Stored}
use Rattle.layout.specs.Layout.{sizes}
use Rattle.layout.specs.Memory.{Holds}
use Rattle.steps.specs.Orderly.{Orderly}
use Rattle.steps.specs.Queue.{skipped}
use Rattle.steps.proofs.Walking.{OnTheWay}
use Rattle.steps.proofs.queue.skip_shown.Given as goal

abbrev pub invariant-walk : goal.invariant-walk
invariant-walk l =
    record {
      layout : l.memory.layout ≡ l.initial.memory.layout;
      lent : l.memory.numbers.ghost_name ≡ l.initial.memory.numbers.ghost_name;
      way : (t : Stored) → Holds l.initial.memory t → Orderly t → OnTheWay (sizes l.memory.layout) l.memory.numbers.now l.place l.left (skipped t.queue t);
    }

abbrev pub invariant-loop-left : goal.invariant-loop-left
invariant-loop-left l =
    record {
      layout : l.memory.layout ≡ l.initial.memory.layout;
      lent : l.memory.numbers.ghost_name ≡ l.initial.memory.numbers.ghost_name;
      way : (goal : Stored) → OnTheWay (sizes l.initial.memory.layout) l.initial.memory.numbers.now l.place l.initial.left goal → OnTheWay (sizes l.memory.layout) l.memory.numbers.now l.place l.left goal;
    }

abbrev pub decreases-loop-left : goal.decreases-loop-left
decreases-loop-left l = l.left
