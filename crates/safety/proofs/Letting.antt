-- What a right keeper lets: it looks at its past when it is asked, and lets what is valid then and nothing else. Assumes nothing.
use Rattle.std.proofs.Common.{◌≡◌, ℕ, zero, suc, ◌<◌, ◌≤◌, Bool, true, false, not, ◌&&◌, ◌||◌, eqb, ltb, leb, ◌≢◌, ◌⊎◌, List, [], ◌∷◌, sym, refl, ◌∙◌, subst, inl, inr, ⊎_elim, arith}
use mathlib.Core.Bool.{or-false}
use Rattle.std.proofs.lemmas.Bool.{not-true, ltb-true, leb-false, ltb-false, eqb-true, eq-eqb, ne_eqb, lt-ltb, and_parts, or_parts, or_from, cases_Bool, cases_eq}
use Rattle.std.proofs.lemmas.Bool.Decides.{nat_tests}
use Rattle.protocol.specs.Data.{Data, Past, past_of, clashes, least_to, least_from, unsafe, Duty, valid, first_of}
use Rattle.protocol.specs.Client.{duty, decided, Limits, new_client, for_some, state, some_valid}
use Rattle.protocol.specs.World.{Keeper}
use Rattle.protocol.specs.Promise.{eight, carried, all_readable}
use Rattle.safety.specs.Weaker.{RightClient, lets, Takeable, Fits, GoesOn, ItLets, ItDoesNotLet, ItLooksWhenAsked}
use Rattle.safety.proofs.Firsts.{begun_first, signed_first, begun_second, lets_as, slot_read, first_state, first_read, signed_state, signed_read, second_state, duty_read}

-- data is valid for a duty if it fits it and is not unsafe, and only then
pub valid_if : (ps : List Past) (d : Data) (y : Duty) → Fits y d → unsafe ps d ≡ false → valid ps d y ≡ true
valid_if ps d y (slot, committee, before) safe =
    rw (eq-eqb d.slot y.slot slot, eq-eqb d.committee y.committee committee, safe, lt-ltb d.source d.target before)

pub valid_is : (ps : List Past) (d : Data) (y : Duty) → valid ps d y ≡ true → Fits y d × (unsafe ps d ≡ false)
valid_is ps d y h =
    let p = and_parts (eqb d.slot y.slot && eqb d.committee y.committee) (not (unsafe ps d) && ltb d.source d.target) h in
    let place = and_parts (eqb d.slot y.slot) (eqb d.committee y.committee) p.0 in
    let rest = and_parts (not (unsafe ps d)) (ltb d.source d.target) p.1 in
    ((eqb-true d.slot y.slot place.0, eqb-true d.committee y.committee place.1, ltb-true d.source d.target rest.1), not-true (unsafe ps d) rest.0)

-- with one entry of the past, what goes on from it is not unsafe, and nothing else
safe_if : (a b : Data) → GoesOn a b → unsafe (past_of a ∷ []) b ≡ false
unfolding unsafe least_to least_from clashes
safe_if a b (target, source) = grind (arith, nat_tests)

safe_is : (a b : Data) → unsafe (past_of a ∷ []) b ≡ false → GoesOn a b
unfolding unsafe least_to least_from
safe_is a b h =
    let p = or_parts (leb b.target a.target || ltb b.source a.source) (clashes (past_of a ∷ []) (past_of b)) h in
    let q = or_parts (leb b.target a.target) (ltb b.source a.source) p.0 in
    (leb-false b.target a.target q.0, ltb-false b.source a.source q.1)

-- a test that can't pass fails
pub refuted : (b : Bool) → ¬ (b ≡ true) → b ≡ false
refuted b n = ⊎_elim (λ h. absurd (n h)) (λ h. h) (cases_Bool b)

-- where no duty is for a slot nothing is let for it, nor where some of the duties are left out
let_none : (ps : List Past) (d : Data) (k : ℕ) (ys : List Duty) → for_some k ys ≡ false → some_valid ps k d ys ≡ false
unfolding for_some some_valid
let_none ps d k [] h = refl
let_none ps d k (y ∷ ys) h = let p = or_parts (eqb y.slot k) (for_some k ys) h in rw p.0 (let_none ps d k ys p.1)

pub none_first : (k n : ℕ) (ys : List Duty) → for_some k ys ≡ false → for_some k (first_of n ys) ≡ false
unfolding for_some first_of
none_first k zero ys h = refl
none_first k (suc n) [] h = refl
none_first k (suc n) (y ∷ ys) h = let p = or_parts (eqb y.slot k) (for_some k ys) h in or_from (eqb y.slot k) (for_some k (first_of n ys)) p.0 (none_first k n ys p.1)

-- a duty whose slot no other one has that is being decided: data is let for that slot where it is valid
pub let_last : (ps : List Past) (d : Data) (y : Duty) (n : ℕ) (ys : List Duty) → 1 ≤ n → for_some y.slot ys ≡ false →
    some_valid ps y.slot d (first_of n (y ∷ ys)) ≡ valid ps d y
unfolding some_valid first_of
let_last ps d y zero ys some none = absurd (omega arith)
let_last ps d y (suc n) ys some none =
    rw (eq-eqb y.slot y.slot refl, let_none ps d y.slot (first_of n ys) (none_first y.slot n ys none), or-false)

-- duties that are not for a slot: one more that is for another, and none at all
pub other_slot : (y : Duty) (k : ℕ) (ys : List Duty) → y.slot ≢ k → for_some k ys ≡ false → for_some k (y ∷ ys) ≡ false
unfolding for_some
other_slot y k ys ne h = or_from (eqb y.slot k) (for_some k ys) (ne_eqb y.slot k ne) h

pub none_none : (k : ℕ) → for_some k [] ≡ false
unfolding for_some
none_none k = refl

module _ (can : ℕ → Bool) (f : Keeper) (l : Limits) (c : RightClient can f l) where
  -- a new client lets nothing
  new_lets : (k : ℕ) (d : Data) → eight k ≡ true → carried d ≡ true → lets f l [] k d ≡ false
  unfolding state all_readable some_valid
  new_lets k d ek cd = lets_as can f l c [] new_client k d refl ek cd refl

  module _ (y : Duty) (t : Takeable y) where
    abbrev at_slot : eight y.slot ≡ true
    at_slot = slot_read y t

    -- with its first duty begun it lets what is valid with no past
    first_lets : (d : Data) → carried d ≡ true → lets f l (duty y ∷ []) y.slot d ≡ valid [] d y
    unfolding first_of
    first_lets d cd = lets_as can f l c (duty y ∷ []) (begun_first y) y.slot d (first_read y t) at_slot cd (first_state can f l c y t) ∙ let_last [] d y 1 [] (omega arith) (none_none y.slot)

    first_lets_other : (k : ℕ) (d : Data) → eight k ≡ true → carried d ≡ true → k ≢ y.slot → lets f l (duty y ∷ []) k d ≡ false
    first_lets_other k d ek cd ne =
        lets_as can f l c (duty y ∷ []) (begun_first y) k d (first_read y t) ek cd (first_state can f l c y t) ∙ let_none [] d k (y ∷ []) (other_slot y k [] (λ e. ne (sym e)) (none_none k))

    module _ (a : Data) (ca : carried a ≡ true) where
      -- when that is decided, what is valid with it in the past
      signed_lets : (d : Data) → carried d ≡ true → lets f l (decided y.slot a ∷ (duty y ∷ [])) y.slot d ≡ valid (past_of a ∷ []) d y
      unfolding first_of
      signed_lets d cd =
          lets_as can f l c (decided y.slot a ∷ (duty y ∷ [])) (signed_first l y a) y.slot d (signed_read y t a ca) at_slot cd (signed_state can f l c y t a ca)
          ∙ let_last (past_of a ∷ []) d y 1 [] (omega arith) (none_none y.slot)

      -- and for a second duty the same
      second_lets : (z : Duty) → Takeable z → y.slot < z.slot → (d : Data) → carried d ≡ true →
          lets f l (duty z ∷ (decided y.slot a ∷ (duty y ∷ []))) z.slot d ≡ valid (past_of a ∷ []) d z
      second_lets z u later d cd =
          lets_as can f l c (duty z ∷ (decided y.slot a ∷ (duty y ∷ []))) (begun_second l y a z) z.slot d (duty_read z u (decided y.slot a ∷ (duty y ∷ [])) (signed_read y t a ca)) (slot_read z u) cd
          (second_state can f l c y t a ca z u later) ∙ let_last (past_of a ∷ []) d z l.waiting (y ∷ []) c.limits.5 (other_slot y z.slot [] (λ e. omega arith) (none_none z.slot))

-- nothing is unsafe with no past
new_safe : (d : Data) → unsafe [] d ≡ false
unfolding unsafe
new_safe d = refl

pub it_lets : ItLets
it_lets can f l c y z a b t u ca cb = (
  λ fits. first_lets can f l c y t a ca ∙ valid_if [] a y fits (new_safe a),
  λ later fits on. second_lets can f l c y t a ca z u later b cb ∙ valid_if (past_of a ∷ []) b z fits (safe_if a b on),
)

pub it_does_not_let : ItDoesNotLet
it_does_not_let can f l c y z a b k t u ca cb ek = (new_lets can f l c k a ek ca, first, second)
  where
    first : k ≢ y.slot ⊎ ¬ Fits y a → lets f l (duty y ∷ []) k a ≡ false
    first (inl other) = first_lets_other can f l c y t k a ek ca other
    first (inr unfit) =
        ⊎_elim
        (λ e. subst (λ (j : ℕ). lets f l (duty y ∷ []) j a ≡ false) (sym e) (first_lets can f l c y t a ca ∙ refuted (valid [] a y) (λ h. unfit (valid_is [] a y h).0)))
        (first_lets_other can f l c y t k a ek ca) (cases_eq k y.slot)

    second : y.slot < z.slot → (¬ Fits z b) ⊎ (¬ GoesOn a b) → lets f l (duty z ∷ (decided y.slot a ∷ (duty y ∷ []))) z.slot b ≡ false
    second later bad =
        second_lets can f l c y t a ca z u later b cb
        ∙ refuted (valid (past_of a ∷ []) b z) (λ h. let r = valid_is (past_of a ∷ []) b z h in ⊎_elim (λ n. n r.0) (λ n. n (safe_is a b r.1)) bad)

pub it_looks_when_asked : ItLooksWhenAsked
it_looks_when_asked can f l c y a b t ca cb fits = (
  first_lets can f l c y t b cb ∙ valid_if [] b y fits (new_safe b),
  λ on. signed_lets can f l c y t a ca b cb ∙ valid_if (past_of a ∷ []) b y fits (safe_if a b on),
  λ off. signed_lets can f l c y t a ca b cb ∙ refuted (valid (past_of a ∷ []) b y) (λ h. off (safe_is a b (valid_is (past_of a ∷ []) b y h).1)),
)
