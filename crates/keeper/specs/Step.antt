-- What a stored client does with each event: the definitions' steps, told of banks in the place of the list of shares that came.
-- Assumes nothing: these are definitions. That they do what the definitions say is `Right` of the keeper made of them (Keeper.antt).
use Rattle.std.specs.Prelude.{ℕ, zero, suc, Bool, false, ◌&&◌, ◌||◌, List, [], ◌∷◌, ◌++◌, map, length, drop, replicate, ◌==◌, nat_le, nat_lt, slice_index_or, slice_set}
use Rattle.protocol.specs.Data.{pick, Data, past_of, Duty, keep, first_of, quorum}
use Rattle.protocol.specs.Client.{Share, Event, duty, decided, share, block, resend, garbled, Answer, refused, does, Limits, event_number, ahead_of, has_slot, without, all_by_slot, above, twice, not_for, shares_not_for, ends, begun, begun_if, own_with, for_some, good_fields, place, sends_decided, some_valid}
use Rattle.stored.specs.Stored.{Cell, empty, holds, Bank, Stored, free_bank, place_of, bank_at, with_cells, taken, freed, is_empty, alike, with_at_hand, with_past, with_queue, with_own, with_banks}

-- the limits of a client that can do the events of `can`
abbrev pub limits_in : (ℕ → Bool) → Stored → Limits
limits_in can t =
    record { events_can = can; clients = t.sizes.clients; me = t.sizes.me; kept = t.sizes.kept; waiting = t.sizes.waiting }

-- the duty at hand, none or one
abbrev pub hand : Stored → List Duty
hand t = first_of t.at_hand t.active

-- one entry of the past more
abbrev pub remembered : Data → Stored → Stored
remembered d t = with_past (keep t.sizes.kept (past_of d) t.past) t

-- the banks of these duties' slots freed
unfoldable pub all_freed : ℕ → List Duty → List Bank → List Bank
all_freed n [] bs = bs
all_freed n (y ∷ ys) bs = all_freed n ys (freed n y.slot bs)

-- a duty that was shown to be decided: its data goes into the past, and it is ahead no more, nor listened for
unfoldable pub learnt : List Data → Duty → Stored → Stored
learnt [] y t = t
learnt (d ∷ ds) y t =
    record {
      sizes = t.sizes;
      at_hand = t.at_hand;
      latest = t.latest;
      after = t.after;
      past = keep t.sizes.kept (past_of d) t.past;
      queue = t.queue;
      active = t.active;
      ahead = without y.slot t.ahead;
      own = t.own;
      banks = freed t.sizes.clients y.slot t.banks;
    }

-- a duty begun, with these behind it in the queue; of what is being decided the last ones are kept
abbrev pub started : Duty → List Duty → Stored → Stored
started y ys t =
    record {
      sizes = t.sizes;
      at_hand = 1;
      latest = suc y.slot;
      after = t.after;
      past = t.past;
      queue = ys;
      active = first_of t.sizes.waiting (y ∷ t.active);
      ahead = t.ahead;
      own = t.own;
      banks = all_freed t.sizes.clients (drop t.sizes.waiting (y ∷ t.active)) t.banks;
    }

unfoldable pub start_or_wait : ℕ → Duty → List Duty → Stored → Stored
start_or_wait zero y ys t = started y ys t
start_or_wait (suc h) y ys t = with_queue (y ∷ ys) t

-- the queue is looked at: those that are ahead go, and then, with none at hand, the first is begun
unfoldable pub settle : List Duty → Stored → Stored
settle [] t = with_queue [] t
settle (y ∷ ys) t =
    pick (has_slot y.slot t.ahead) (settle ys (learnt (ahead_of y.slot t.ahead) y t)) (start_or_wait t.at_hand y ys t)

-- the place of a slot's bank, and its cells
abbrev pub bank_place : Stored → ℕ → ℕ
bank_place t k = place_of (suc k) t.banks

abbrev pub slot_cells : Stored → ℕ → List Cell
slot_cells t k = (bank_at t.banks (bank_place t k)).cells

unfoldable pub refused_by : Stored → Event → ℕ
refused_by t (duty y) = pick (nat_lt y.slot t.after) 3 (pick (nat_lt (length t.queue) t.sizes.waiting) 0 4)
refused_by t (decided k d) = 0
refused_by t (share x) =
    pick (nat_lt (bank_place t x.what.slot) (length t.banks)) (pick (is_empty (slice_index_or (slot_cells t x.what.slot) x.who empty)) 0 6) 5
refused_by t (block ds) = pick (twice ds) 7 0
refused_by t resend = 0
refused_by t (garbled n) = 1

abbrev pub refusal : (ℕ → Bool) → Stored → Event → ℕ
refusal can t e = pick ((event_number e == 255 || can (event_number e)) && good_fields (limits_in can t) e) (refused_by t e) 2

-- deciding has come to d for slot k: if that is the duty at hand it is signed, and the queue is looked at
unfoldable pub settled : List Duty → ℕ → Data → Stored → Stored
settled [] k d t = t
settled (y ∷ ys) k d t =
    pick (y.slot == k)
    (settle t.queue
    (with_own (first_of t.sizes.waiting (own_with (record { who = t.sizes.me; what = d; seat = y.seat }) t.own)) (with_at_hand 0 (remembered d t))))
    t

-- a share put into its cell
abbrev pub put_share : Share → Stored → Stored
put_share x t =
    with_banks (with_cells t.banks (bank_place t x.what.slot) (slice_set (slot_cells t x.what.slot) x.who (holds x.seat x.what))) t

-- what is ahead with a block's data
abbrev pub told : Stored → List Data → List Data
told t ds = all_by_slot ds t.ahead

-- a bank after a block: for a slot that was shown its shares go, and if it was being decided the bank is free
unfoldable pub shown : List Data → ℕ → Bool
shown ds zero = false
shown ds (suc k) = has_slot k ds

unfoldable pub decides : List Duty → ℕ → Bool
decides ys zero = false
decides ys (suc k) = for_some k ys

abbrev pub bank_after : ℕ → List Duty → List Data → Bank → Bank
bank_after n active all b =
    pick (shown all b.mark) (pick (decides active b.mark) (free_bank n) (record { mark = b.mark; cells = replicate n empty })) b

-- what is after the latest duty
unfoldable pub still_after : ℕ → List Data → List Data
still_after zero ds = ds
still_after (suc k) ds = above k ds

abbrev pub block_kept : List Data → Stored → Stored
block_kept all t =
    record {
      sizes = t.sizes;
      at_hand = t.at_hand;
      latest = t.latest;
      after = t.after;
      past = t.past;
      queue = t.queue;
      active = not_for all t.active;
      ahead = first_of t.sizes.waiting (still_after t.latest all);
      own = shares_not_for all t.own;
      banks = map (bank_after t.sizes.clients t.active all) t.banks;
    }

unfoldable pub hand_gone : List Data → Stored → Stored
hand_gone [] t = t
hand_gone (d ∷ ds) t = settle t.queue (with_at_hand 0 (remembered d t))

unfoldable pub hand_shown : List Duty → List Data → Stored → Stored
hand_shown [] all t = t
hand_shown (y ∷ ys) all t = hand_gone (ahead_of y.slot all) t

unfoldable pub moved : Stored → Event → Stored
moved t (duty y) =
    settle (t.queue ++ y ∷ [])
    (record {
      sizes = t.sizes;
      at_hand = t.at_hand;
      latest = t.latest;
      after = suc y.slot;
      past = t.past;
      queue = t.queue;
      active = t.active;
      ahead = t.ahead;
      own = t.own;
      banks = taken y.slot t.banks;
    })
moved t (decided k d) = settled (hand t) k d t
moved t (share x) = put_share x t
moved t (block ds) = hand_shown (hand t) (told t ds) (block_kept (told t ds) t)
moved t resend = t
moved t (garbled n) = t

unfoldable pub done : (ℕ → Bool) → Stored → Event → Answer
done can t (duty y) = does [] [] (begun (hand t) (hand (moved t (duty y)))) []
done can t (decided k d) =
    let sent : List Share = sends_decided (limits_in can t) (hand t) k d in
    does sent [] (begun_if sent (hand (moved t (decided k d)))) []
done can t (share x) =
    does []
    (pick (nat_le (quorum t.sizes.clients) (alike x.seat x.what (slot_cells (put_share x t) x.what.slot))) (x.what ∷ []) [])
    [] []
done can t (block ds) =
    does [] []
    (begun (pick (length (ends (told t ds) (hand t)) == 0) (hand t) []) (hand (moved t (block ds))))
    (ends (told t ds) t.active)
done can t resend = does t.own [] [] []
done can t (garbled n) = does [] [] [] []

-- what an event leaves, and what is answered
abbrev pub step : (ℕ → Bool) → Stored → Event → Stored
step can t e = pick (refusal can t e == 0) (moved t e) t

abbrev pub reply : (ℕ → Bool) → Stored → Event → Answer
reply can t e = pick (refusal can t e == 0) (done can t e) (refused (refusal can t e) (place e (refusal can t e)))

-- what the deciding for a slot is let come to
abbrev pub allows : Stored → ℕ → Data → Bool
allows t k d = some_valid t.past k d t.active
