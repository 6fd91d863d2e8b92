-- Each part of a step keeps every number of a client within 64 bits, if what it was told fits.
use Rattle.std.proofs.Common.{◌≡◌, ℕ, suc, ◌<◌, Bool, true, ◌&&◌, List, [], ◌∷◌, drop, set, refl, arith}
use Rattle.std.specs.List.{AllByRecursion}
use Rattle.std.proofs.ByRecursion.{All-set, All-push, All-map, All-weaker, Decides-by_and}
use Rattle.std.proofs.lemmas.Bool.{ltb-true, lt-ltb, and_parts, and_from}
use Rattle.protocol.specs.Data.{Data, Past, past_of, Duty, into, keep, first_of}
use Rattle.protocol.specs.Client.{Share, share, block, without, own_with, not_for, shares_not_for}
use Rattle.protocol.specs.Promise.{eight, root, carried, all_carried, readable}
use Rattle.safety.proofs.Basics.{member_first, member_without, member_not_for, member_shares_not_for}
use Rattle.stored.specs.Stored.{Cell, empty, holds, Bank, Stored, free_bank, place_of, bank_at, with_at_hand, with_queue}
use Rattle.stored.specs.Kept.{CellFits, DutyFits, Fits}
use Rattle.keeper.specs.Step.{remembered, learnt, started, bank_after, still_after, put_share, told, block_kept, bank_place, slot_cells}
use Rattle.keeper.proofs.SizesLasting.{given, signed}
use Rattle.keeper.proofs.SizesLists.{all_set_at, all_replicate, all_freed_all, bank_after_one}
use Rattle.keeper.proofs.FittingLists.{all_among, all_into, all_own_with, all_told, all_still_after}

-- an entry of the past, data, a share and a bank whose numbers fit
abbrev PastFits : Past → Type 0
PastFits p = (p.from < 18446744073709551616) × (p.to < 18446744073709551616)

abbrev pub DataFits : Data → Type 0
DataFits d = carried d ≡ true

abbrev ShareFits : Share → Type 0
ShareFits s = readable (share s) ≡ true

abbrev pub BankFits : Bank → Type 0
BankFits b = (b.mark < 18446744073709551616) × AllByRecursion CellFits b.cells

-- the epochs of data that fits; a client's own share of it; what a share that came says; the data of a block
past_fits : (d : Data) → DataFits d → PastFits (past_of d)
unfolding carried
past_fits d e =
    let front : Bool = eight d.slot && eight d.committee in
    let voted : Bool = root d.block && eight d.source in
    let from : Bool = root d.source_root && eight d.target in
    let h = and_parts (front && voted) (from && root d.target_root) e in
    let source = (and_parts (root d.block) (eight d.source) (and_parts front voted h.0).1).1 in
    let target = (and_parts (root d.source_root) (eight d.target) (and_parts from (root d.target_root) h.1).0).1 in
    (ltb-true d.source 18446744073709551616 source, ltb-true d.target 18446744073709551616 target)

own_fits : (me : ℕ) (d : Data) (y : Duty) → me < 256 → DataFits d → DutyFits y → ShareFits (record { who = me; what = d; seat = y.seat })
unfolding readable
own_fits me d y few e h =
    let rest = (and_parts (eight y.slot) (eight y.committee && eight y.seat) h.1).1 in
    let seat = (and_parts (eight y.committee) (eight y.seat) rest).1 in
    and_from _ _ (lt-ltb me 256 few) (and_from _ _ e seat)

said_fits : (x : Share) → ShareFits x → CellFits (holds x.seat x.what)
unfolding readable
said_fits x e = let h = and_parts _ _ (and_parts _ _ e).1 in (h.1, h.0)

block_fits : (ds : List Data) → readable (block ds) ≡ true → AllByRecursion DataFits ds
unfolding readable all_carried
block_fits ds e =
    (Decides-by_and carried DataFits all_carried (λ d. (λ h. h, λ h. h)) refl (λ d es. refl) ds).0 (and_parts _ _ e).1

-- a bank that is free
pub free_fits : (n : ℕ) → BankFits (free_bank n)
free_fits n = (omega arith, all_replicate CellFits n empty tt)

-- the past with one entry more, and what is ahead when a block has come
kept_fits : (n : ℕ) (d : Data) (ps : List Past) → DataFits d → AllByRecursion PastFits ps → AllByRecursion PastFits (keep n (past_of d) ps)
kept_fits n d ps e h =
    let all : List Past = into (past_of d) ps in
    all_among PastFits all (first_of n all) (member_first n all) (all_into PastFits (past_of d) ps (past_fits d e) h)

pub told_fits : (ds : List Data) (t : Stored) → readable (block ds) ≡ true → Fits t → AllByRecursion DataFits (told t ds)
told_fits ds t e f = all_told DataFits ds t.ahead (block_fits ds e) f.ahead

-- the parts of a step
pub remembered_fits : (d : Data) (t : Stored) → DataFits d → Fits t → Fits (with_at_hand 0 (remembered d t))
remembered_fits d t e f =
    record {
      at_hand = omega arith;
      latest = f.latest;
      after = f.after;
      past = kept_fits t.sizes.kept d t.past e f.past;
      queue = f.queue;
      active = f.active;
      ahead = f.ahead;
      own = f.own;
      banks = f.banks;
    }

pub learnt_fits : (ds : List Data) (y : Duty) (t : Stored) → AllByRecursion DataFits ds → Fits t → Fits (learnt ds y t)
unfolding learnt
learnt_fits [] y t e f = f
learnt_fits (d ∷ ds) y t e f =
    let n : ℕ = t.sizes.clients in
    record {
      at_hand = f.at_hand;
      latest = f.latest;
      after = f.after;
      past = kept_fits t.sizes.kept d t.past e.0 f.past;
      queue = f.queue;
      active = f.active;
      ahead = all_among DataFits t.ahead (without y.slot t.ahead) (member_without y.slot t.ahead) f.ahead;
      own = f.own;
      banks = All-set BankFits t.banks (place_of (suc y.slot) t.banks) (free_bank n) (free_fits n) f.banks;
    }

pub fewer_fit : (y : Duty) (ys : List Duty) (t : Stored) → Fits (with_queue (y ∷ ys) t) → Fits (with_queue ys t)
fewer_fit y ys t f =
    record { at_hand = f.at_hand; latest = f.latest; after = f.after; past = f.past; queue = f.queue.1; active = f.active; ahead = f.ahead; own = f.own; banks = f.banks }

pub started_fits : (y : Duty) (ys : List Duty) (t : Stored) → Fits (with_queue (y ∷ ys) t) → Fits (started y ys t)
started_fits y ys t f =
    let n : ℕ = t.sizes.clients in
    let all : List Duty = y ∷ t.active in
    let w : ℕ = t.sizes.waiting in
    record {
      at_hand = omega arith;
      latest = f.queue.0.0;
      after = f.after;
      past = f.past;
      queue = f.queue.1;
      active = all_among DutyFits all (first_of w all) (member_first w all) (f.queue.0, f.active);
      ahead = f.ahead;
      own = f.own;
      banks = all_freed_all BankFits n (free_fits n) (drop w all) t.banks f.banks;
    }

pub given_fits : (y : Duty) (t : Stored) → DutyFits y → Fits t → Fits (given y t)
given_fits y t h f =
    let there : ℕ = place_of 0 t.banks in
    let marked : Bank = record { mark = suc y.slot; cells = (bank_at t.banks there).cells } in
    record {
      at_hand = f.at_hand;
      latest = f.latest;
      after = h.0;
      past = f.past;
      queue = All-push DutyFits t.queue y f.queue h;
      active = f.active;
      ahead = f.ahead;
      own = f.own;
      banks = all_set_at BankFits t.banks there (free_bank 0) marked (λ b. (h.0, b.1)) f.banks;
    }

pub signed_fits : (y : Duty) (d : Data) (t : Stored) → t.sizes.me < 256 → DataFits d → DutyFits y → Fits t → Fits (signed y d t)
signed_fits y d t few e h f =
    let g = remembered_fits d t e f in
    let mine : Share = record { who = t.sizes.me; what = d; seat = y.seat } in
    let shares : List Share = own_with mine t.own in
    let w : ℕ = t.sizes.waiting in
    record {
      at_hand = g.at_hand;
      latest = g.latest;
      after = g.after;
      past = g.past;
      queue = g.queue;
      active = g.active;
      ahead = g.ahead;
      own =
          all_among ShareFits shares (first_of w shares) (member_first w shares) (all_own_with ShareFits mine t.own (own_fits t.sizes.me d y few e h) f.own);
      banks = g.banks;
    }

pub heard_fits : (x : Share) (t : Stored) → ShareFits x → Fits t → Fits (put_share x t)
heard_fits x t e f =
    let there : ℕ = bank_place t x.what.slot in
    let cells : List Cell = slot_cells t x.what.slot in
    let said : Cell = holds x.seat x.what in
    let filled : Bank = record { mark = (bank_at t.banks there).mark; cells = set cells x.who said } in
    record {
      at_hand = f.at_hand;
      latest = f.latest;
      after = f.after;
      past = f.past;
      queue = f.queue;
      active = f.active;
      ahead = f.ahead;
      own = f.own;
      banks =
          all_set_at BankFits t.banks there (free_bank 0) filled (λ b. (b.0, All-set CellFits cells x.who said (said_fits x e) b.1)) f.banks;
    }

pub shown_fits : (all : List Data) (t : Stored) → AllByRecursion DataFits all → Fits t → Fits (block_kept all t)
shown_fits all t e f =
    let n : ℕ = t.sizes.clients in
    let w : ℕ = t.sizes.waiting in
    let after : Bank → Bank = bank_after n t.active all in
    let still : List Data = still_after t.latest all in
    record {
      at_hand = f.at_hand;
      latest = f.latest;
      after = f.after;
      past = f.past;
      queue = f.queue;
      active = all_among DutyFits t.active (not_for all t.active) (member_not_for all t.active) f.active;
      ahead = all_among DataFits still (first_of w still) (member_first w still) (all_still_after DataFits t.latest all e);
      own = all_among ShareFits t.own (shares_not_for all t.own) (member_shares_not_for all t.own) f.own;
      banks =
          All-map BankFits after t.banks
          (All-weaker BankFits _ (λ b h. bank_after_one BankFits n t.active all b (free_fits n) (h.0, (free_fits n).1) h) t.banks f.banks);
    }
