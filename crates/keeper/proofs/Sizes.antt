-- Each step leaves a client's sizes as they are, and keeps it well-formed.
use Rattle.std.proofs.Common.{◌≡◌, ℕ, suc, ◌<◌, Bool, true, false, ◌&&◌, ◌||◌, eqb, ltb, List, [], ◌∷◌, length, drop, set, refl, ◌∙◌, arith, length-set}
use lib.ListN.{length-replicate}
use Rattle.std.proofs.lemmas.List.{length-map, length_push}
use Rattle.std.proofs.ByRecursion.{All-set, All-map, All-weaker}
use Rattle.std.proofs.lemmas.Bool.{ltb-true, and_parts}
use Rattle.protocol.specs.Data.{pick, Data, past_of, Duty, into}
use Rattle.protocol.specs.Client.{Share, Event, duty, event_number, good_fields, own_with, ahead_of}
use Rattle.stored.specs.Stored.{Cell, empty, holds, Bank, Sizes, Stored, free_bank, place_of, bank_at, with_at_hand, with_queue}
use Rattle.stored.specs.Kept.{Well}
use Rattle.keeper.specs.Step.{remembered, learnt, started, bank_after, still_after, refusal, refused_by, put_share, block_kept, told, step, bank_place, slot_cells}
use Rattle.keeper.proofs.SizesLasting.{Lasting, step_lasts, given, signed}
use Rattle.keeper.proofs.SizesLists.{first_length, without_length, not_for_length, shares_not_for_length, all_set_at, all_freed_length, all_freed_all, bank_after_one}

-- a refusal that is 0 was not made, and the tests before it passed
no_refusal : (b : Bool) (n m : ℕ) → pick b n (suc m) ≡ 0 → (b ≡ true) × (n ≡ 0)
unfolding pick
no_refusal true n m e = (refl, e)
no_refusal false n m e = absurd (omega arith)

no_refusal_first : (b : Bool) (n m : ℕ) → pick b (suc m) n ≡ 0 → n ≡ 0
unfolding pick
no_refusal_first true n m e = absurd (omega arith)
no_refusal_first false n m e = e

-- a duty that is taken: there is room for it, and one more than its slot fits
pub duty_taken : (can : ℕ → Bool) (y : Duty) (t : Stored) → refusal can t (duty y) ≡ 0 → (length t.queue < t.sizes.waiting) × (suc y.slot < 18446744073709551616)
unfolding refused_by good_fields event_number
duty_taken can y t e =
    let room : ℕ = pick (ltb (length t.queue) t.sizes.waiting) 0 4 in
    let served : Bool = eqb 0 255 || can 0 in
    let fields : Bool = ltb (suc y.slot) 18446744073709551616 in
    let passed = no_refusal (served && fields) (pick (ltb y.slot t.after) 3 room) 1 e in
    let fits = no_refusal (ltb (length t.queue) t.sizes.waiting) 0 3 (no_refusal_first (ltb y.slot t.after) room 2 passed.1) in (
      ltb-true (length t.queue) t.sizes.waiting fits.0,
      ltb-true (suc y.slot) 18446744073709551616 (and_parts served fields passed.0).1,
    )

-- sizes stay
pub learnt_sizes : (ds : List Data) (y : Duty) (t : Stored) → (learnt ds y t).sizes ≡ t.sizes
unfolding learnt
learnt_sizes [] y t = refl
learnt_sizes (d ∷ ds) y t = refl

sizes_last : (can : ℕ → Bool) (z : Sizes) → Lasting can (λ e. Unit {0}) (λ t. t.sizes ≡ z)
sizes_last can z =
    record {
      learns = λ y ys t p. learnt_sizes (ahead_of y.slot t.ahead) y (with_queue ys t) ∙ p;
      starts = λ y ys t p. p;
      takes = λ y t e r p. p;
      signs = λ k d y t e m p. p;
      hears = λ x t e p. p;
      shows = λ ds t e p. p;
      goes = λ ds d t e m p. p;
    }

pub step_sizes : (can : ℕ → Bool) (e : Event) (t : Stored) → (step can t e).sizes ≡ t.sizes
step_sizes can e t = step_lasts can (λ x. Unit {0}) (λ u. u.sizes ≡ t.sizes) (sizes_last can t.sizes) e t tt refl

-- a bank with a cell for each of n clients; so is one that is free
abbrev Celled : ℕ → Bank → Type 0
Celled n b = length b.cells ≡ n

free_celled : (n : ℕ) → Celled n (free_bank n)
free_celled n = length-replicate n empty

-- the parts of a step
learnt_well : (ds : List Data) (y : Duty) (t : Stored) → Well t → Well (learnt ds y t)
unfolding learnt
learnt_well [] y t w = w
learnt_well (d ∷ ds) y t w =
    let n : ℕ = t.sizes.clients in
    let there : ℕ = place_of (suc y.slot) t.banks in
    record {
      sizes = w.sizes;
      past = first_length t.sizes.kept (into (past_of d) t.past);
      queue = w.queue;
      active = w.active;
      ahead = omega (arith, without_length y.slot t.ahead, w.ahead);
      own = w.own;
      banks = length-set t.banks there (free_bank n) ∙ w.banks;
      cells = All-set (Celled n) t.banks there (free_bank n) (free_celled n) w.cells;
    }

fewer_wait : (y : Duty) (ys : List Duty) (t : Stored) → Well (with_queue (y ∷ ys) t) → Well (with_queue ys t)
fewer_wait y ys t w =
    record { sizes = w.sizes; past = w.past; queue = omega (arith, w.queue); active = w.active; ahead = w.ahead; own = w.own; banks = w.banks; cells = w.cells }

started_well : (y : Duty) (ys : List Duty) (t : Stored) → Well (with_queue ys t) → Well (started y ys t)
started_well y ys t w =
    let n : ℕ = t.sizes.clients in
    let old : List Duty = drop t.sizes.waiting (y ∷ t.active) in
    record {
      sizes = w.sizes;
      past = w.past;
      queue = w.queue;
      active = first_length t.sizes.waiting (y ∷ t.active);
      ahead = w.ahead;
      own = w.own;
      banks = all_freed_length n old t.banks ∙ w.banks;
      cells = all_freed_all (Celled n) n (free_celled n) old t.banks w.cells;
    }

given_well : (y : Duty) (t : Stored) → length t.queue < t.sizes.waiting → Well t → Well (given y t)
given_well y t room w =
    let there : ℕ = place_of 0 t.banks in
    let marked : Bank = record { mark = suc y.slot; cells = (bank_at t.banks there).cells } in
    record {
      sizes = w.sizes;
      past = w.past;
      queue = omega (arith, length_push t.queue y);
      active = w.active;
      ahead = w.ahead;
      own = w.own;
      banks = length-set t.banks there marked ∙ w.banks;
      cells = all_set_at (Celled t.sizes.clients) t.banks there (free_bank 0) marked (λ h. h) w.cells;
    }

remembered_well : (d : Data) (t : Stored) → Well t → Well (with_at_hand 0 (remembered d t))
remembered_well d t w =
    record { sizes = w.sizes; past = first_length t.sizes.kept (into (past_of d) t.past); queue = w.queue; active = w.active; ahead = w.ahead; own = w.own; banks = w.banks; cells = w.cells }

signed_well : (y : Duty) (d : Data) (t : Stored) → Well t → Well (signed y d t)
signed_well y d t w =
    let v = remembered_well d t w in
    let mine : Share = record { who = t.sizes.me; what = d; seat = y.seat } in
    record { sizes = v.sizes; past = v.past; queue = v.queue; active = v.active; ahead = v.ahead; own = first_length t.sizes.waiting (own_with mine t.own); banks = v.banks; cells = v.cells }

heard_well : (x : Share) (t : Stored) → Well t → Well (put_share x t)
heard_well x t w =
    let there : ℕ = bank_place t x.what.slot in
    let cells : List Cell = slot_cells t x.what.slot in
    let said : Cell = holds x.seat x.what in
    let filled : Bank = record { mark = (bank_at t.banks there).mark; cells = set cells x.who said } in
    record {
      sizes = w.sizes;
      past = w.past;
      queue = w.queue;
      active = w.active;
      ahead = w.ahead;
      own = w.own;
      banks = length-set t.banks there filled ∙ w.banks;
      cells =
          all_set_at (Celled t.sizes.clients) t.banks there (free_bank 0) filled (λ h. length-set cells x.who said ∙ h) w.cells;
    }

shown_well : (all : List Data) (t : Stored) → Well t → Well (block_kept all t)
shown_well all t w =
    let n : ℕ = t.sizes.clients in
    let after : Bank → Bank = bank_after n t.active all in
    record {
      sizes = w.sizes;
      past = w.past;
      queue = w.queue;
      active = omega (arith, not_for_length all t.active, w.active);
      ahead = first_length t.sizes.waiting (still_after t.latest all);
      own = omega (arith, shares_not_for_length all t.own, w.own);
      banks = length-map t.banks after ∙ w.banks;
      cells = All-map (Celled n) after t.banks (All-weaker (Celled n) _ (λ b h. bank_after_one (Celled n) n t.active all b (free_celled n) (free_celled n) h) t.banks w.cells);
    }

well_lasts : (can : ℕ → Bool) → Lasting can (λ e. Unit {0}) Well
well_lasts can =
    record {
      learns = λ y ys t w. learnt_well (ahead_of y.slot t.ahead) y (with_queue ys t) (fewer_wait y ys t w);
      starts = λ y ys t w. started_well y ys t (fewer_wait y ys t w);
      takes = λ y t e r w. given_well y t (duty_taken can y t r).0 w;
      signs = λ k d y t e m w. signed_well y d t w;
      hears = λ x t e w. heard_well x t w;
      shows = λ ds t e w. shown_well (told t ds) t w;
      goes = λ ds d t e m w. remembered_well d (block_kept (told t ds) t) (shown_well (told t ds) t w);
    }

pub step_well : (can : ℕ → Bool) (e : Event) (t : Stored) → Well t → Well (step can t e)
step_well can e t w = step_lasts can (λ x. Unit {0}) Well (well_lasts can) e t tt w
