-- A right keeper looks at each of two entries of its past: after two duties that are decided and a third that is begun. Assumes nothing.
use Rattle.std.proofs.Common.{◌≡◌, ℕ, zero, suc, ◌<◌, ◌≤◌, Bool, true, false, ◌||◌, ltb, ◌⊎◌, List, [], ◌∷◌, refl, ap, ◌∙◌, inl, inr, ⊎_elim, arith}
use Rattle.std.proofs.lemmas.Bool.{ltb-false, lt-ltb, le-ltb, lt-leb, eq-eqb, ne_eqb, or_parts, cases_lt, cases_order}
use Rattle.std.proofs.lemmas.Bool.Decides.{nat_tests}
use Rattle.protocol.specs.Data.{pick, Data, Past, past_of, clash, clashes, least_to, least_from, unsafe, Duty, valid, into, first_of}
use Rattle.protocol.specs.Client.{Event, duty, decided, Limits, State, share_of, event_number, has_slot, begin_or_wait, next, own_with, good_fields, turned_by, by_decided, stepped, after, state}
use Rattle.protocol.specs.World.{Keeper}
use Rattle.protocol.specs.Promise.{carried, all_readable}
use Rattle.safety.specs.Weaker.{RightClient, lets, Takeable, GoesOn, ItLooksAtEach}
use Rattle.safety.proofs.Firsts.{begun_second, lets_as, can_duty, can_decided, slot_read, second_state, duty_read, decided_read, signed_read}
use Rattle.safety.proofs.Pasts.{clash_not}
use Rattle.safety.proofs.Picks.{pick_both, pick_true}
use Rattle.safety.proofs.Letting.{valid_if, valid_is, refuted, let_last, none_first, other_slot, none_none}

-- whether two data clash, in either order
abbrev clash_at_all : Data → Data → Bool
clash_at_all a d = clash (past_of a) (past_of d) || clash (past_of d) (past_of a)

-- they do not just where one goes on from the other
apart_if : (a d : Data) → GoesOn a d ⊎ GoesOn d a → clash_at_all a d ≡ false
apart_if a d (inl on) = grind (arith, nat_tests)
apart_if a d (inr on) = grind (arith, nat_tests)

apart_is : (a d : Data) → clash_at_all a d ≡ false → GoesOn a d ⊎ GoesOn d a
apart_is a d h =
    let p = or_parts (clash (past_of a) (past_of d)) (clash (past_of d) (past_of a)) h in
    let one = clash_not (past_of a) (past_of d) p.0 in
    let other = clash_not (past_of d) (past_of a) p.1 in
    ⊎_elim (λ e. absurd (one.0 e))
    (⊎_elim (λ less. inl (less, ⊎_elim (λ around. absurd (other.1 around less)) (λ le. le) (cases_lt d.source a.source)))
    (λ more. inr (more, ⊎_elim (λ within. absurd (one.1 within more)) (λ le. le) (cases_lt a.source d.source)))) (cases_order a.target d.target)

-- two entries, of which the second has the later target, and data that goes on from the first: it is safe just where it and the second go on one from the other
module _ (a b d : Data) (rising : a.target < b.target) (on : GoesOn a d) where
  two_safe_if : GoesOn b d ⊎ GoesOn d b → unsafe (past_of b ∷ (past_of a ∷ [])) d ≡ false
  unfolding unsafe least_to least_from clashes
  two_safe_if h =
      let least : ℕ = pick (ltb a.source b.source) a.source b.source in
      let low : least ≤ d.source =
      pick_both (ltb a.source b.source) a.source b.source (λ m. m ≤ d.source) (λ _. on.1) (λ e. omega (arith, ltb-false a.source b.source e, on.1)) in
      rw (pick_true (ltb a.target b.target) a.target b.target (lt-ltb a.target b.target rising), lt-leb d.target a.target on.0, le-ltb d.source least low, apart_if b d h, apart_if a d (inl on))

  two_safe_is : unsafe (past_of b ∷ (past_of a ∷ [])) d ≡ false → GoesOn b d ⊎ GoesOn d b
  unfolding unsafe clashes
  two_safe_is h = apart_is b d (or_parts (clash_at_all b d) (clash_at_all a d || false) (or_parts _ (clash_at_all b d || (clash_at_all a d || false)) h).1).0

-- of a list of two, the first n are both
first_two : {A : Type 0} (n : ℕ) (x y : A) → 2 ≤ n → first_of n (x ∷ (y ∷ [])) ≡ x ∷ (y ∷ [])
unfolding first_of
first_two zero x y le = absurd (omega arith)
first_two (suc zero) x y le = absurd (omega arith)
first_two (suc (suc zero)) x y le = refl
first_two (suc (suc (suc n))) x y le = refl

-- a client's state when its second duty is signed, and when a third one is begun then
abbrev signed_second : Limits → Duty → Data → Duty → Data → State
signed_second l x a y b =
    record { current = []; latest = y ∷ []; queue = []; after = suc y.slot; past = past_of b ∷ (past_of a ∷ []); active = first_of l.waiting (y ∷ (x ∷ [])); ahead = []; own = first_of l.waiting (own_with (share_of l y b) (share_of l x a ∷ [])); got = [] }

abbrev begun_third : Limits → Duty → Data → Duty → Data → Duty → State
begun_third l x a y b z =
    record { current = z ∷ []; latest = z ∷ []; queue = []; after = suc z.slot; past = past_of b ∷ (past_of a ∷ []); active = first_of l.waiting (z ∷ first_of l.waiting (y ∷ (x ∷ []))); ahead = []; own = first_of l.waiting (own_with (share_of l y b) (share_of l x a ∷ [])); got = [] }

module _ (can : ℕ → Bool) (f : Keeper) (l : Limits) (c : RightClient can f l) (two : 2 ≤ l.kept) (x y z : Duty) (a b : Data) (tx : Takeable x) (ty : Takeable y) (tz : Takeable z)
    (ca : carried a ≡ true) (cb : carried b ≡ true) (x_y : x.slot < y.slot) (y_z : y.slot < z.slot) (rising : a.target < b.target) where
  -- the second duty is signed, and both entries are kept
  done : after l (begun_second l x a y) (decided y.slot b) ≡ signed_second l x a y b
  unfolding stepped turned_by good_fields event_number next by_decided into pick
  done =
      rw (
        can_decided can f l c,
        eq-eqb y.slot y.slot refl,
        ne_eqb b.target a.target (λ e. omega arith),
        lt-ltb a.target b.target rising,
        first_two l.kept (past_of b) (past_of a) two,
      )

  -- then the third one is begun
  given : after l (signed_second l x a y b) (duty z) ≡ begun_third l x a y b z
  unfolding stepped turned_by good_fields event_number next begin_or_wait pick has_slot
  given =
      rw (can_duty can f l c, lt-ltb (suc z.slot) 18446744073709551616 tz.1, le-ltb z.slot (suc y.slot) (omega arith), lt-ltb 0 l.waiting c.limits.5)

  abbrev events : List Event
  events = duty z ∷ (decided y.slot b ∷ (duty y ∷ (decided x.slot a ∷ (duty x ∷ []))))

  third_state : state l events ≡ begun_third l x a y b z
  unfolding state
  third_state =
      ap (λ (s : State). after l s (duty z)) (ap (λ (s : State). after l s (decided y.slot b)) (second_state can f l c x tx a ca y ty x_y) ∙ done) ∙ given

  third_read : all_readable events ≡ true
  third_read =
      duty_read z tz (decided y.slot b ∷ (duty y ∷ (decided x.slot a ∷ (duty x ∷ []))))
      (decided_read y ty b cb (duty y ∷ (decided x.slot a ∷ (duty x ∷ []))) (duty_read y ty (decided x.slot a ∷ (duty x ∷ [])) (signed_read x tx a ca)))

  -- and what is valid with both entries is let
  third_lets : (d : Data) → carried d ≡ true → lets f l events z.slot d ≡ valid (past_of b ∷ (past_of a ∷ [])) d z
  third_lets d cd =
      lets_as can f l c events (begun_third l x a y b z) z.slot d third_read (slot_read z tz) cd third_state
      ∙ let_last (past_of b ∷ (past_of a ∷ [])) d z l.waiting (first_of l.waiting (y ∷ (x ∷ []))) c.limits.5
      (none_first z.slot l.waiting (y ∷ (x ∷ [])) (other_slot y z.slot (x ∷ []) (λ e. omega arith) (other_slot x z.slot [] (λ e. omega arith) (none_none z.slot))))

pub it_looks_at_each : ItLooksAtEach
it_looks_at_each can f l c two x y z a b d tx ty tz ca cb cd x_y y_z rising fits on =
    let ps : List Past = past_of b ∷ (past_of a ∷ []) in
    let here = third_lets can f l c two x y z a b tx ty tz ca cb x_y y_z rising d cd in (
      λ h. here ∙ valid_if ps d z fits (two_safe_if a b d rising on h),
      λ off. here ∙ refuted (valid ps d z) (λ h. off (two_safe_is a b d rising on (valid_is ps d z h).1)),
    )
