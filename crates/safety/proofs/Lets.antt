-- What a client lets the deciding for a slot come to: a slot that it began, data for it, source before target, and every slot that it began before has a verdict
-- that does not clash with it. The past that it looks at is only the first part of all that it learned, and forgetting is safe.
-- Assumes nothing.
use Rattle.std.proofs.Common.{◌≡◌, ℕ, ◌<◌, ◌≤◌, true, false, not, ◌&&◌, eqb, ltb, List, [], ◌∷◌, sym, refl, ap, ◌∙◌, subst, inl, inr, ⊎_elim, arith}
use Rattle.std.proofs.lemmas.Bool.{false≢true, not-true, ltb-true, eqb-true, and_parts, or_cases, cases_eq}
use Rattle.protocol.specs.Data.{Data, Past, past_of, clash, unsafe, Duty, valid, first_of}
use Rattle.protocol.specs.Client.{State, some_valid, lets_now}
use Rattle.protocol.specs.Refusals.{Member}
use Rattle.safety.proofs.Pasts.{Apart, forgets}
use Rattle.safety.proofs.Record.{Verdict, VerdictsApart, Known, Learned, Hand, CoreOf, Grows, only}
use Rattle.safety.proofs.Steps.{Step}

-- a slot's verdict does not clash with data, in either order
abbrev pub Unharmed : (ℕ → List Data) → Data → ℕ → Type 0
Unharmed v d j = (a : Data) × Verdict v j a × (clash (past_of a) (past_of d) ≡ false) × (clash (past_of d) (past_of a) ≡ false)

abbrev pub Clear : (ℕ → List Data) → List ℕ → ℕ → Data → Type 0
Clear v begun k d = Member k begun × (d.slot ≡ k) × (d.source < d.target) × ((j : ℕ) → Member j begun → j < k → Unharmed v d j)

-- what is clear stays so: verdicts stay, and slots that are begun later are above it
pub clear_grows : (v w : ℕ → List Data) (begun : List ℕ) (k : ℕ) (d : Data) → Grows v w → Clear v begun k d → Clear w begun k d
clear_grows v w begun k d grows c = (c.0, c.1, c.2, λ j m l. let u = c.3 j m l in (u.0, grows j u.0 u.1, u.2, u.3))

pub clear_since : {v : ℕ → List Data} {n : ℕ} {begun : List ℕ} {current : List Duty} {t : State} (st : Step v n begun current t) (k : ℕ) (d : Data) → Clear v begun k d →
    Clear v st.since k d
clear_since st k d c = (
  st.grown k c.0,
  c.1,
  c.2,
  λ j m l. ⊎_elim (λ h. c.3 j h l) (λ up. absurd (let high : k < j = up k c.0 in omega arith)) (st.upward j m),
)

-- some duty that is decided about is for the slot, and the data is valid for it
some_valid_is : (ps : List Past) (k : ℕ) (d : Data) (ys : List Duty) → some_valid ps k d ys ≡ true → (y : Duty) × Member y ys × (y.slot ≡ k) × (valid ps d y ≡ true)
unfolding some_valid
some_valid_is ps k d [] e = absurd (false≢true e)
some_valid_is ps k d (y ∷ ys) e =
    ⊎_elim (λ h. let r = and_parts (eqb y.slot k) (valid ps d y) h in (y, inl refl, eqb-true y.slot k r.0, r.1))
    (λ h. let r = some_valid_is ps k d ys h in (r.0, inr r.1, r.2, r.3)) (or_cases (eqb y.slot k && valid ps d y) (some_valid ps k d ys) e)

-- entries that are verdicts' do not clash, unless their targets are one
known_apart : (v : ℕ → List Data) (full : List Past) → VerdictsApart v → ((p : Past) → Member p full → Known v p) → Apart full
known_apart v full apart known p q m n other =
    let a = known p m in
    let b = known q n in
    ⊎_elim (λ e. absurd (other (ap (λ (x : Past). x.to) (a.4 ∙ sym (ap past_of (only v a.0 b.0 b.1 a.1 e b.3 a.3)) ∙ sym b.4))))
    (λ e. rw (a.4, b.4) (apart a.0 b.0 a.1 b.1 a.2 b.2 e a.3 b.3)) (cases_eq a.0 b.0)

-- of two slots that were begun, the lower one's verdict was learned
learned_before : (v : ℕ → List Data) (begun : List ℕ) (full : List Past) (current : List Duty) → Hand v begun full current →
    (j k : ℕ) → Member j begun → Member k begun → j < k → Learned v full j
learned_before v begun full [] h j k m n l = h j m
learned_before v begun full (y ∷ ys) h j k m n l =
    ⊎_elim (λ e. absurd (⊎_elim (λ i. omega arith) (λ i. let low : k < y.slot = i.0 in omega arith) (h.1 k n))) (λ r. r.1) (h.1 j m)

pub lets_clear : {v : ℕ → List Data} {n : ℕ} {begun : List ℕ} (s : State) → VerdictsApart v → 1 ≤ n → CoreOf v n begun s →
    (k : ℕ) (d : Data) → lets_now s k d ≡ true → Clear v begun k d
lets_clear {v} {n} {begun} s apart some c k d e =
    let ps : List Past = s.past in
    let found = some_valid_is ps k d s.active e in
    let y : Duty = found.0 in
    let parts = and_parts (eqb d.slot y.slot && eqb d.committee y.committee) (not (unsafe ps d) && ltb d.source d.target) found.3 in
    let place = and_parts (eqb d.slot y.slot) (eqb d.committee y.committee) parts.0 in
    let rest = and_parts (not (unsafe ps d)) (ltb d.source d.target) parts.1 in
    let safe : unsafe (first_of n c.full) d ≡ false = subst (λ xs. unsafe xs d ≡ false) c.past_is (not-true (unsafe ps d) rest.0) in
    let here : Member k begun = subst (λ x. Member x begun) found.2 (c.decided_about y found.1) in
    let clear = forgets n c.full d some c.falls (known_apart v c.full apart c.known) safe in
    let earlier : (j : ℕ) → Member j begun → j < k → Unharmed v d j =
    λ j m l. let u = learned_before v begun c.full s.current c.hand j k m here l in
    (u.0, u.1, (clear (past_of u.0) u.2).0, (clear (past_of u.0) u.2).1) in
    (here, eqb-true d.slot y.slot place.0 ∙ found.2, ltb-true d.source d.target rest.1, earlier)
