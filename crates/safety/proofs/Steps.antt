-- What each event leaves: the slots begun only grow, upward, and the invariant of the state holds again. Duties are begun in the order of their slots, and when a
-- later one is begun, each slot that was begun before has a verdict whose epochs are in the past.
-- Assumes nothing.
use Rattle.std.proofs.Common.{◌≡◌, ℕ, suc, ◌<◌, ◌≤◌, Bool, ◌&&◌, ◌||◌, eqb, ltb, ◌⊎◌, List, [], ◌∷◌, ◌++◌, length, refl, subst, inl, inr, ⊎_elim, arith}
use Rattle.std.proofs.lemmas.Bool.{ltb-true, ltb-false, and_parts}
use Rattle.protocol.specs.Data.{pick, Data, Duty}
use Rattle.protocol.specs.Client.{Share, Event, duty, decided, share, block, resend, garbled, Limits, State, event_number, ahead_of, has_slot, learned, begin_or_wait, next, good_fields, turned_by, turned, signed, with_own, with_after, without_current, told, still_ahead, by_block, gone, duty_gone}
use Rattle.protocol.specs.Refusals.{Member}
use Rattle.safety.proofs.Basics.{member_first, member_without, member_ahead, member_told, member_not_for, member_still}
use Rattle.safety.proofs.Picks.{pick_both}
use Rattle.safety.proofs.Record.{Slot, Verdict, VerdictsApart, Told, Off, Core, CoreOf, core_signed, core_done, core_begun, core_passed, core_given, core_told}

-- what is left of a client that had begun these slots, with this duty at hand
pub record Step (v : ℕ → List Data) (n : ℕ) (begun : List ℕ) (current : List Duty) (t : State) : Type 0 where
  pub since : List ℕ  -- the slots begun by now
  pub grown : (j : ℕ) → Member j begun → Member j since
  pub upward : (j : ℕ) → Member j since → Member j begun ⊎ ((k : ℕ) → Member k begun → k < j)
  pub off : (k : ℕ) → Member k begun → Off current k → Off t.current k  -- what was done does not come to hand again
  pub core : CoreOf v n since t

-- an event is one that can happen: what was decided is the verdict, and what a block has are verdicts
abbrev pub Fits : (ℕ → List Data) → Event → Type 0
Fits v (duty y) = Unit
Fits v (decided k d) = Verdict v k d × (d.slot ≡ k)
Fits v (share x) = Unit
Fits v (block ds) = (d : Data) → Member d ds → Told v d
Fits v resend = Unit
Fits v (garbled n) = Unit

-- a duty that is taken is after the last one given, and not for the last slot of all
taken_duty : (l : Limits) (s : State) (y : Duty) → turned l s (duty y) ≡ 0 → (s.after ≤ y.slot) × Slot (suc y.slot)
unfolding turned_by good_fields
taken_duty l s y =
    let can : Bool = eqb (event_number (duty y)) 255 || l.events_can (event_number (duty y)) in
    let below : Bool = ltb (suc y.slot) 18446744073709551616 in
    let room : ℕ = pick (ltb (length s.queue) l.waiting) 0 4 in
    let Fine : ℕ → Type 0 = λ t. t ≡ 0 → (s.after ≤ y.slot) × Slot (suc y.slot) in
    pick_both (can && below) (pick (ltb y.slot s.after) 3 room) 2 Fine
    (λ e. pick_both (ltb y.slot s.after) 3 room Fine (λ i h. absurd (omega arith))
    (λ i h. (ltb-false y.slot s.after i, ltb-true (suc y.slot) 18446744073709551616 (and_parts can below e).1))) (λ e h. absurd (omega arith))

-- nothing is begun
pub stays : {v : ℕ → List Data} {n : ℕ} {begun : List ℕ} {t : State} → CoreOf v n begun t → Step v n begun t.current t
stays {begun = begun} c = record { since = begun; grown = λ j m. m; upward = λ j m. inl m; off = λ k m o. o; core = c }

-- with nothing at hand before, nothing is asked of what was at hand
unfoldable pub from_none : {v : ℕ → List Data} {n : ℕ} {begun : List ℕ} {current : List Duty} {t : State} → Step v n begun [] t → Step v n begun current t
from_none s = record { since = s.since; grown = s.grown; upward = s.upward; off = λ k m o. s.off k m tt; core = s.core }

-- what is learned leaves the duty at hand
learned_current : (l : Limits) (ds : List Data) (k : ℕ) (s : State) → (learned l ds k s).current ≡ s.current
unfolding learned
learned_current l [] k s = refl
learned_current l (d ∷ ds) k s = refl

module _ (l : Limits) {v : ℕ → List Data} {begun : List ℕ} where
  -- looking at the queue: what is ahead for its first is learned
  learned_core : (ds : List Data) (k : ℕ) (q : List Duty) (s : State) → ((d : Data) → Member d ds → Told v d) →
      Core v l.kept begun q s.current s.past s.active s.ahead s.after →
      let t : State = learned l ds k s in Core v l.kept begun q t.current t.past t.active t.ahead t.after
  unfolding learned
  learned_core [] k q s a c = c
  learned_core (d ∷ ds) k q s a c =
      let r = a d (inl refl) in
      core_told (λ y m. m) (λ e m. c.told e (member_without k s.ahead e m)) (core_signed d.slot d r.0 r.1 c)

  -- and with no duty at hand, the first is begun
  begins : (current : List Duty) (y : Duty) (ys : List Duty) (s : State) → s.current ≡ current →
      Core v l.kept begun (y ∷ ys) s.current s.past s.active s.ahead s.after → Step v l.kept begun s.current (begin_or_wait l current y ys s)
  unfolding begin_or_wait
  begins [] y ys s e c =
      record {
        since = y.slot ∷ begun;
        grown = λ j m. inr m;
        upward = λ j. ⊎_elim (λ i. inr (λ k m. rw i (c.waits.0 k m))) (λ m. inl m);
        off = λ k m o. c.waits.0 k m;
        core = core_begun l.waiting y (rw e at c);
      }
  begins (x ∷ xs) y ys s e c = stays c

  next_step : (q : List Duty) (s : State) → Core v l.kept begun q s.current s.past s.active s.ahead s.after → Step v l.kept begun s.current (next l q s)
  unfolding next
  next_step [] s c = stays c
  next_step (y ∷ ys) s c =
      let ds : List Data = ahead_of y.slot s.ahead in
      let passed : State = learned l ds y.slot s in
      let rest = learned_core ds y.slot ys s (λ d m. c.told d (member_ahead y.slot s.ahead d m).0) (core_passed y c) in
      pick_both (has_slot y.slot s.ahead) (next l ys passed) (begin_or_wait l s.current y ys s) (Step v l.kept begun s.current)
      (λ e. subst (λ cur. Step v l.kept begun cur (next l ys passed)) (learned_current l ds y.slot s) (next_step ys passed rest))
      (λ e. begins s.current y ys s refl c)

  -- a duty is given: it waits, and the queue is looked at
  pub duty_step : (y : Duty) (s : State) → turned l s (duty y) ≡ 0 → CoreOf v l.kept begun s →
      Step v l.kept begun s.current (next l (s.queue ++ (y ∷ [])) (with_after (suc y.slot) s))
  duty_step y s taken c =
      let t = taken_duty l s y taken in
      next_step (s.queue ++ (y ∷ [])) (with_after (suc y.slot) s) (core_given y t.0 t.1 c)

  -- the duty at hand is done: its verdict goes into the past, and the queue is looked at
  pub done_step : (y : Duty) {ys : List Duty} (d : Data) (own : List Share) (s : State) → VerdictsApart v → Verdict v y.slot d →
      Core v l.kept begun s.queue (y ∷ ys) s.past s.active s.ahead s.after →
      Step v l.kept begun [] (next l s.queue (with_own own (without_current (signed l s d))))
  done_step y d own s apart e c = next_step s.queue (with_own own (without_current (signed l s d))) (core_done y d apart e c)

  -- a block: the duty at hand is done if what is ahead then has its slot
  gone_step : (y : Duty) (ys : List Duty) (ds : List Data) (s : State) → s.current ≡ y ∷ ys → VerdictsApart v → ((d : Data) → Member d ds → Verdict v y.slot d) →
      CoreOf v l.kept begun s → Step v l.kept begun s.current (gone l ds s)
  unfolding gone
  gone_step y ys [] s e apart h c = stays c
  gone_step y ys (d ∷ ds) s e apart h c = from_none (done_step y d s.own s apart (h d (inl refl)) (rw e at c))

  duty_gone_step : (current : List Duty) (ds : List Data) (s : State) → s.current ≡ current → VerdictsApart v → ((d : Data) → Member d ds → Told v d) →
      CoreOf v l.kept begun s → Step v l.kept begun s.current (duty_gone l current ds s)
  unfolding duty_gone
  duty_gone_step [] ds s e apart h c = stays c
  duty_gone_step (y ∷ ys) ds s e apart h c =
      gone_step y ys (ahead_of y.slot ds) s e apart
      (λ d m. let r = member_ahead y.slot ds d m in subst (λ k. Verdict v k d) r.1 (h d r.0).1) c

  pub block_step : (ds : List Data) (s : State) → VerdictsApart v → ((d : Data) → Member d ds → Told v d) → CoreOf v l.kept begun s →
      Step v l.kept begun s.current (duty_gone l s.current (told l s ds) (by_block l s ds))
  block_step ds s apart h c =
      let all : List Data = told l s ds in
      let verdicts : (d : Data) → Member d all → Told v d = λ d m. ⊎_elim (h d) (c.told d) (member_told ds s.ahead d m) in
      let stay : List Data = still_ahead s.latest all in
      duty_gone_step s.current all (by_block l s ds) refl apart verdicts
      (core_told (member_not_for all s.active) (λ d m. verdicts d (member_still s.latest all d (member_first l.waiting stay d m))) c)
