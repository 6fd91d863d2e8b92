-- A memory that was just made is a new client's.
use Rattle.std.proofs.Common.{◌≡◌, ℕ, List, [], ◌++◌, length, drop, sym, refl, ap, ◌∙◌, drop_at}
use Rattle.protocol.specs.World.{memory}
use Rattle.protocol.specs.Promise.{all_readable, GoodLimits}
use Rattle.protocol.specs.Meaning.{limits_of}
use Rattle.protocol.specs.declared.sizes.Limits as declared
use Rattle.stored.specs.Stored.{fresh}
use Rattle.stored.specs.Numbers.{encode, needed}
use Rattle.stored.proofs.Regions.{has_its_size}
use Rattle.layout.specs.Layout.{limit_sizes, Opened}
use Rattle.keeper.specs.Keeper.{keeper}
use Rattle.keeper.proofs.FittingMemory.{fresh_well}
use Rattle.client_in_memory.specs.Calls.{stage, After}

module _ (limits : declared.Limits) (before after : List ℕ) (o : Opened limits before after) where
  good : GoodLimits stage (limits_of stage limits)
  good =
      let g = o.good in
      (g.some_clients, g.few_clients, g.one_of_them, g.some_kept, g.few_kept, g.some_wait, g.few_wait, λ k. refl)

  made : List ℕ
  made = encode (fresh (limit_sizes limits))

  long : length made ≡ needed (limit_sizes limits)
  unfolding made
  long = (has_its_size (fresh (limit_sizes limits)) (fresh_well (limit_sizes limits) o.good)).0

  pub opened_is : after ≡ (keeper stage).opened (limits_of stage limits) ++ drop (length ((keeper stage).opened (limits_of stage limits))) before
  unfolding made
  opened_is = o.holds ∙ ap (λ n. made ++ drop n before) (sym long)

  pub opened_after : After (limits_of stage limits) [] after
  unfolding made all_readable memory
  opened_after =
      record {
        good = good;
        readable = refl;
        front = o.holds ∙ ap (λ v. made ++ v) (sym (ap (drop (length made)) o.holds ∙ drop_at made (drop (needed (limit_sizes limits)) before) (length made) refl));
      }
