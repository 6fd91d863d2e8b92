-- Each step keeps every number of a client within 64 bits, if what it was told fits.
use Rattle.std.proofs.Common.{◌≡◌, ℕ, ◌<◌, Bool, true, List, sym, subst, arith}
use Rattle.std.proofs.lemmas.Bool.{and_parts}
use Rattle.protocol.specs.Data.{Data}
use Rattle.protocol.specs.Client.{Event, ahead_of}
use Rattle.protocol.specs.Promise.{eight, carried, readable}
use Rattle.safety.proofs.Basics.{member_ahead}
use Rattle.stored.specs.Stored.{Stored, with_queue}
use Rattle.stored.specs.Kept.{Well, DutyFits, Fits}
use Rattle.keeper.specs.Step.{told, block_kept, step}
use Rattle.keeper.proofs.Sizes.{duty_taken, learnt_sizes}
use Rattle.keeper.proofs.SizesLasting.{Lasting, step_lasts}
use Rattle.keeper.proofs.FittingLists.{all_member, all_among}
use Rattle.keeper.proofs.FittingParts.{DataFits, told_fits, remembered_fits, learnt_fits, fewer_fit, started_fits, given_fits, signed_fits, heard_fits, shown_fits}

-- what fits, in a client that is named by a byte
abbrev Fitting : Stored → Type 0
Fitting t = Fits t × (t.sizes.me < 256)

-- the parts of a step put together
fits_last : (can : ℕ → Bool) → Lasting can (λ e. readable e ≡ true) Fitting
unfolding readable
fits_last can =
    record {
      learns =
          λ y ys t p.
          let ds : List Data = ahead_of y.slot t.ahead in
          let some = all_among DataFits t.ahead ds (λ d m. (member_ahead y.slot t.ahead d m).0) p.0.ahead in
          (learnt_fits ds y (with_queue ys t) some (fewer_fit y ys t p.0), subst (λ z. z.me < 256) (sym (learnt_sizes ds y (with_queue ys t))) p.1);
      starts = λ y ys t p. (started_fits y ys t p.0, p.1);
      takes = λ y t e r p. (given_fits y t ((duty_taken can y t r).1, e) p.0, p.1);
      signs =
          λ k d y t e m p.
          (signed_fits y d t p.1 (and_parts (eight k) (carried d) e).1 (all_member DutyFits t.active p.0.active y m) p.0, p.1);
      hears = λ x t e p. (heard_fits x t e p.0, p.1);
      shows = λ ds t e p. (shown_fits (told t ds) t (told_fits ds t e p.0) p.0, p.1);
      goes =
          λ ds d t e m p.
          let all = told_fits ds t e p.0 in
          (remembered_fits d (block_kept (told t ds) t) (all_member DataFits (told t ds) all d m) (shown_fits (told t ds) t all p.0), p.1);
    }

pub step_fits : (can : ℕ → Bool) (e : Event) (t : Stored) → Well t → readable e ≡ true → Fits t → Fits (step can t e)
step_fits can e t w h f =
    let z = w.sizes in
    (step_lasts can (λ x. readable x ≡ true) Fitting (fits_last can) e t h (f, omega arith)).0
