-- Whatever came, a client's memory holds the stored client, every number of it fits, and there are no more than allowed.
use Rattle.std.proofs.Common.{◌≡◌, ℕ, ◌+◌, ◌*◌, ◌≤◌, Bool, [], ◌∷◌, length, refl, ap, ◌∙◌, subst, arith}
use lib.ListN.{length-replicate}
use Rattle.std.proofs.lemmas.Bool.{and_parts}
use Rattle.protocol.specs.Client.{Limits}
use Rattle.protocol.specs.World.{memory}
use Rattle.protocol.specs.Promise.{readable, all_readable, GoodLimits, StaysSmall}
use Rattle.stored.specs.Stored.{empty, Bank, Sizes, Stored, free_bank, sizes_of, fresh}
use Rattle.stored.specs.Numbers.{encode, decode}
use Rattle.stored.specs.Kept.{GoodSizes, Well, Fits}
use Rattle.stored.proofs.Regions.{reads_back, has_its_size}
use Rattle.stored.proofs.Small.{numbers_fit}
use Rattle.keeper.specs.Step.{step}
use Rattle.keeper.specs.Keeper.{keeper, stored_after, MemoryHolds}
use Rattle.keeper.proofs.Sizes.{step_sizes, step_well}
use Rattle.keeper.proofs.SizesLists.{all_replicate}
use Rattle.keeper.proofs.Fitting.{step_fits}
use Rattle.keeper.proofs.FittingParts.{BankFits, free_fits}

-- a client that was just opened
good_sizes : (can : ℕ → Bool) (l : Limits) → GoodLimits can l → GoodSizes (sizes_of l)
good_sizes can l g =
    record { some_clients = g.0; few_clients = g.1; one_of_them = g.2; some_kept = g.3; few_kept = g.4; some_wait = g.5; few_wait = g.6 }

pub fresh_well : (z : Sizes) → GoodSizes z → Well (fresh z)
fresh_well z g =
    record {
      sizes = g;
      past = omega arith;
      queue = omega arith;
      active = omega arith;
      ahead = omega arith;
      own = omega arith;
      banks = length-replicate (2 * z.waiting) (free_bank z.clients);
      cells =
          all_replicate (λ (b : Bank). length b.cells ≡ z.clients) (2 * z.waiting) (free_bank z.clients) (length-replicate z.clients empty);
    }

pub fresh_fits : (z : Sizes) → Fits (fresh z)
fresh_fits z =
    record {
      at_hand = omega arith;
      latest = omega arith;
      after = omega arith;
      past = tt;
      queue = tt;
      active = tt;
      ahead = tt;
      own = tt;
      banks = all_replicate BankFits (2 * z.waiting) (free_bank z.clients) (free_fits z.clients);
    }

-- event by event: what memory holds is read back, stepped, and written again
pub memory_holds : MemoryHolds
unfolding memory stored_after all_readable
memory_holds can l [] g r =
    (record { sized = refl; well = fresh_well (sizes_of l) (good_sizes can l g); is = refl }, fresh_fits (sizes_of l))
memory_holds can l (e ∷ es) g r =
    let both = and_parts (readable e) (all_readable es) r in
    let before = memory_holds can l es g both.1 in
    let t : Stored = stored_after can l es in
    let w : Well t = before.0.well in (
      record {
        sized = step_sizes can e t ∙ before.0.sized;
        well = step_well can e t w;
        is = ap (λ u. encode (step can u e)) (ap decode before.0.is ∙ reads_back t w);
      },
      step_fits can e t w both.0 before.1,
    )

-- so memory stays small, whatever comes
pub stays_small : (can : ℕ → Bool) → StaysSmall can (keeper can)
unfolding StaysSmall
stays_small can l es g r =
    let holds = memory_holds can l es g r in
    let t : Stored = stored_after can l es in
    let size = has_its_size t holds.0.well in
    let most : Sizes → ℕ = λ z. 2 * z.kept + 36 * (z.clients * z.waiting) + 64 * z.waiting + 256 in
    let within : length (encode t) ≤ most t.sizes = omega (arith, size.0, size.1) in (
      rw holds.0.is (subst (λ z. length (encode t) ≤ most z) holds.0.sized within),
      rw holds.0.is (numbers_fit t holds.0.well holds.1),
    )
