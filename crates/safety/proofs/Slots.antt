-- One client over one slot: with nothing at hand it begins the duty that it is given, lets its data, and signs that when it is decided; then it has nothing at
-- hand again. Its past, its limits and what else it has may be any. Assumes nothing.
use Rattle.std.proofs.Common.{◌≡◌, ℕ, zero, suc, ◌<◌, ◌≤◌, true, false, List, [], ◌∷◌, refl, arith}
use Rattle.std.proofs.lemmas.Bool.{lt-ltb, le-ltb, eq-eqb}
use Rattle.protocol.specs.Data.{pick, Data, Past, past_of, Duty, unsafe, least_to, least_from, clashes, into, first_of, keep}
use Rattle.protocol.specs.Client.{Share, duty, decided, Limits, State, turned_by, good_fields, event_number, next, begin_or_wait, by_decided, sends_decided, own_with, has_slot, stepped, doing, answer, after, some_valid, lets_now, share_of}
use Rattle.protocol.specs.World.{sends}

-- for slot n: a duty, data with target n, and a client's share of it
abbrev pub duty_for : ℕ → Duty
duty_for n = record { slot = n; committee = 0; seat = 0 }

abbrev pub vote_for : ℕ → Data
vote_for n = record { slot = n; committee = 0; block = 0; source = 0; source_root = 0; target = n; target_root = 0 }

abbrev pub share_for : ℕ → Limits → Share
share_for n l = share_of l (duty_for n) (vote_for n)

-- what a client has after a while: its past, the last duty begun, those being decided, its own shares
pub record Left : Type 0 where
  pub past : List Past
  pub latest : List Duty
  pub active : List Duty
  pub own : List Share

abbrev pub nothing : Left
nothing = record { past = []; latest = []; active = []; own = [] }

-- a client with nothing at hand, that takes duties from slot k on; and one with the duty for slot n at hand
abbrev pub idle : ℕ → Left → State
idle k h = record { current = []; latest = h.latest; queue = []; after = k; past = h.past; active = h.active; ahead = []; own = h.own; got = [] }

abbrev pub busy : ℕ → Limits → Left → State
busy n l h =
    record { current = duty_for n ∷ []; latest = duty_for n ∷ []; queue = []; after = suc n; past = h.past; active = first_of l.waiting (duty_for n ∷ h.active); ahead = []; own = h.own; got = [] }

-- what it has after slot n
abbrev pub then_left : ℕ → Limits → Left → Left
then_left n l h =
    record {
      past = keep l.kept (past_of (vote_for n)) h.past;
      latest = duty_for n ∷ [];
      active = first_of l.waiting (duty_for n ∷ h.active);
      own = first_of l.waiting (own_with (share_for n l) h.own);
    }

module _ (l : Limits) (h : Left) (n : ℕ) where
  -- a duty is begun at once
  pub is_given : (k : ℕ) → l.events_can 0 ≡ true → 1 ≤ l.waiting → k ≤ n → suc n < 18446744073709551616 → after l (idle k h) (duty (duty_for n)) ≡ busy n l h
  unfolding stepped turned_by good_fields event_number next begin_or_wait pick has_slot
  is_given k duties room le small = rw (duties, lt-ltb (suc n) 18446744073709551616 small, le-ltb n k le, lt-ltb 0 l.waiting room)

  -- its data is let
  pub is_let : 1 ≤ l.waiting → 0 < n → unsafe h.past (vote_for n) ≡ false → lets_now (busy n l h) n (vote_for n) ≡ true
  unfolding first_of some_valid
  is_let room some safe = let_first l.waiting room
    where
      let_first : (w : ℕ) → 1 ≤ w → some_valid h.past n (vote_for n) (first_of w (duty_for n ∷ h.active)) ≡ true
      let_first zero le = absurd (omega arith)
      let_first (suc w) le = rw (eq-eqb n n refl, safe, lt-ltb 0 n some)

  -- and signed when it is decided
  pub is_sent : l.events_can 1 ≡ true → sends (answer l (busy n l h) (decided n (vote_for n))) ≡ share_for n l ∷ []
  unfolding sends doing stepped turned_by good_fields event_number sends_decided pick
  is_sent decidings = rw (decidings, eq-eqb n n refl)

  pub is_done : l.events_can 1 ≡ true → after l (busy n l h) (decided n (vote_for n)) ≡ idle (suc n) (then_left n l h)
  unfolding stepped turned_by good_fields event_number next by_decided pick
  is_done decidings = rw (decidings, eq-eqb n n refl)

-- what is kept of slot 1 lets the data of slot 2, however much is kept
pub safe_second : (kept : ℕ) → unsafe (keep kept (past_of (vote_for 1)) []) (vote_for 2) ≡ false
unfolding unsafe least_to least_from clashes into first_of
safe_second zero = refl
safe_second (suc zero) = refl
safe_second (suc (suc kept)) = refl
