-- A client that was just opened stands for a new one: all its banks are free. Assumes nothing.
use Rattle.std.proofs.Common.{◌≡◌, ℕ, zero, suc, ◌*◌, [], replicate, refl, arith}
use lib.ListN.{length-replicate}
use Rattle.std.specs.List.{AllByRecursion}
use Rattle.std.proofs.lemmas.Bool.{ne_eqb}
use Rattle.protocol.specs.Data.{pick, first_of}
use Rattle.stored.specs.Stored.{free_bank}
use Rattle.stored.specs.Stands.{bank_of, AsMarked, banks_for, duties_for, FreshStands}

-- each of them is as its mark asks, and none has the mark of a slot
free_each : (n m : ℕ) → AllByRecursion (AsMarked n []) (replicate m (free_bank n))
unfolding bank_of
free_each n zero = tt
free_each n (suc m) = (refl, free_each n m)

free_marks : (n m k : ℕ) → banks_for (suc k) (replicate m (free_bank n)) ≡ 0
unfolding banks_for pick
free_marks n zero k = refl
free_marks n (suc m) k = rw (ne_eqb 0 (suc k) (λ e. omega arith)) (free_marks n m k)

pub fresh_stands : FreshStands
unfolding duties_for first_of
fresh_stands l =
    record {
      is = refl;
      hand = refl;
      banks = record {
        many = length-replicate (2 * l.waiting) (free_bank l.clients);
        each = free_each l.clients (2 * l.waiting);
        marks = free_marks l.clients (2 * l.waiting);
      };
    }
