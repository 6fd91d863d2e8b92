-- The invariant of one client's state, as one record over its parts, and how each thing that a client does to those parts keeps it.
-- `begun` is every slot that it ever began, `full` its past with nothing forgotten: both are told of, and never computed.
-- Assumes nothing.
use Rattle.std.proofs.Common.{◌≡◌, ℕ, suc, ◌<◌, ◌≤◌, false, ◌⊎◌, List, [], ◌∷◌, ◌++◌, sym, refl, ap, ◌∙◌, inl, inr, ⊎_elim, arith}
use Rattle.std.proofs.lemmas.Bool.{true≢false, cases_eq}
use Rattle.protocol.specs.Data.{Data, Past, past_of, clash, Duty, into, first_of, keep}
use Rattle.protocol.specs.Client.{State}
use Rattle.protocol.specs.Refusals.{Member}
use Rattle.safety.proofs.Basics.{member_first}
use Rattle.safety.proofs.Cutting.{cutting_is_harmless}
use Rattle.safety.proofs.Pasts.{Falling, clash_not, into_member, into_keeps, into_has, into_falls}

-- a slot that bytes can carry
abbrev pub Slot : ℕ → Type 0
Slot k = k < 18446744073709551616

-- the verdict for a slot
abbrev pub Verdict : (ℕ → List Data) → ℕ → Data → Type 0
Verdict v k a = v k ≡ a ∷ []

-- verdicts of different slots do not clash
abbrev pub VerdictsApart : (ℕ → List Data) → Type 0
VerdictsApart v = (j k : ℕ) (a b : Data) → Slot j → Slot k → (j ≡ k → ⊥) → Verdict v j a → Verdict v k b → clash (past_of a) (past_of b) ≡ false

-- a slot has one verdict
pub only : (v : ℕ → List Data) (j k : ℕ) (a b : Data) → j ≡ k → Verdict v k a → Verdict v j b → a ≡ b
only v j k a b e p q = cc

pub no_verdict : (v : ℕ → List Data) (k : ℕ) (a : Data) → v k ≡ [] → Verdict v k a → ⊥
no_verdict v k a none e = true≢false cc

-- an entry of the past is a verdict's; a slot has a verdict, whose epochs are in the past; data is the verdict for its slot
abbrev pub Known : (ℕ → List Data) → Past → Type 0
Known v p = (k : ℕ) × (a : Data) × Slot k × Verdict v k a × (p ≡ past_of a)

abbrev pub Learned : (ℕ → List Data) → List Past → ℕ → Type 0
Learned v full j = (a : Data) × Verdict v j a × Member (past_of a) full

abbrev pub Told : (ℕ → List Data) → Data → Type 0
Told v d = Slot d.slot × Verdict v d.slot d

-- a slot below the one at hand, if one is
abbrev pub Off : List Duty → ℕ → Type 0
Off [] k = Unit
Off (y ∷ ys) k = k < y.slot

-- every slot that was begun, but the one at hand, is below that one, and its verdict was learned
abbrev pub Hand : (ℕ → List Data) → List ℕ → List Past → List Duty → Type 0
Hand v begun full [] = (j : ℕ) → Member j begun → Learned v full j
Hand v begun full (y ∷ ys) = Member y.slot begun × ((j : ℕ) → Member j begun → (j ≡ y.slot) ⊎ ((j < y.slot) × Learned v full j))

-- duties wait in the order of their slots, above all that were begun, and below a bound
abbrev pub Waits : List ℕ → List Duty → ℕ → Type 0
Waits begun [] bound = (j : ℕ) → Member j begun → j < bound
Waits begun (y ∷ ys) bound = ((j : ℕ) → Member j begun → j < y.slot) × Waits (y.slot ∷ begun) ys bound

-- the invariant: of the slots begun, and of the parts of a state that keeps n of its past
pub record Core (v : ℕ → List Data) (n : ℕ) (begun : List ℕ) (queue current : List Duty) (past : List Past) (active : List Duty) (ahead : List Data) (bound : ℕ) : Type 0 where
  pub full : List Past  -- the past with nothing forgotten
  pub past_is : past ≡ first_of n full  -- of which the first are kept
  pub falls : Falling full  -- the largest target first
  pub known : (p : Past) → Member p full → Known v p  -- all of it are verdicts' epochs
  pub hand : Hand v begun full current  -- what was begun before the duty at hand was learned
  pub waits : Waits begun queue bound  -- the queue is above what was begun
  pub small : Slot bound  -- and within the slots that bytes can carry
  pub decided_about : (y : Duty) → Member y active → Member y.slot begun  -- what is being decided was begun
  pub told : (d : Data) → Member d ahead → Told v d  -- what is ahead are verdicts

-- the same, of a whole state
abbrev pub CoreOf : (ℕ → List Data) → ℕ → List ℕ → State → Type 0
CoreOf v n begun s = Core v n begun s.queue s.current s.past s.active s.ahead s.after

-- fewer slots begun leave room for the same queue
waits_fewer : (b c : List ℕ) (q : List Duty) (bound : ℕ) → ((j : ℕ) → Member j c → Member j b) → Waits b q bound → Waits c q bound
waits_fewer b c [] bound s w = λ j m. w j (s j m)
waits_fewer b c (y ∷ ys) bound s w =
    (λ j m. w.0 j (s j m), waits_fewer (y.slot ∷ b) (y.slot ∷ c) ys bound (λ j. ⊎_elim (λ e. inl e) (λ m. inr (s j m))) w.1)

-- all that was begun is below the bound
waits_below : (b : List ℕ) (q : List Duty) (bound : ℕ) → Waits b q bound → (j : ℕ) → Member j b → j < bound
waits_below b [] bound w j m = w j m
waits_below b (y ∷ ys) bound w j m = waits_below (y.slot ∷ b) ys bound w.1 j (inr m)

waits_one_more : (b : List ℕ) (q : List Duty) (y : Duty) (bound : ℕ) → bound ≤ y.slot → Waits b q bound → Waits b (q ++ (y ∷ [])) (suc y.slot)
waits_one_more b [] y bound h w = (
  λ j m. let l : j < bound = w j m in omega arith,
  λ j. ⊎_elim (λ e. omega arith) (λ m. let l : j < bound = w j m in omega arith),
)
waits_one_more b (x ∷ xs) y bound h w = (w.0, waits_one_more (x.slot ∷ b) xs y bound h w.1)

-- a verdict whose target is in the past already is there itself
once : (v : ℕ → List Data) (j : ℕ) (d : Data) (x : Past) → VerdictsApart v → Slot j → Verdict v j d → Known v x → d.target ≡ x.to → past_of d ≡ x
once v j d x apart s e (k, a, small, verdict, is) t =
    ⊎_elim (λ same. sym (is ∙ ap past_of (only v j k a d same verdict e)))
    (λ other. absurd ((clash_not (past_of d) (past_of a) (apart j k d a s small other e verdict)).0 (t ∙ ap (λ (p : Past). p.to) is))) (cases_eq j k)

-- one entry more in the past leaves what was learned
hand_into : (v : ℕ → List Data) (begun : List ℕ) (p : Past) (full : List Past) (current : List Duty) → Hand v begun full current → Hand v begun (into p full) current
hand_into v begun p full [] h = λ j m. let l = h j m in (l.0, l.1, into_keeps p full (past_of l.0) l.2)
hand_into v begun p full (y ∷ ys) h =
    (h.0, λ j m. ⊎_elim (λ e. inl e) (λ l. inr (l.0, (l.1.0, l.1.1, into_keeps p full (past_of l.1.0) l.1.2))) (h.1 j m))

module _ {v : ℕ → List Data} {n : ℕ} {begun : List ℕ} {queue current : List Duty} {past : List Past} {active : List Duty} {ahead : List Data} {bound : ℕ} where
  -- slots that were begun are ones that bytes can carry
  pub begun_small : Core v n begun queue current past active ahead bound → (j : ℕ) → Member j begun → Slot j
  begun_small c j m =
      let l : j < bound = waits_below begun queue bound c.waits j m in
      let s : Slot bound = c.small in
      omega arith

  -- a verdict's epochs go into the past
  pub core_signed : (k : ℕ) (d : Data) → Slot k → Verdict v k d → Core v n begun queue current past active ahead bound →
      Core v n begun queue current (keep n (past_of d) past) active ahead bound
  core_signed k d s e c =
      record {
        full = into (past_of d) c.full;
        past_is = ap (λ ps. keep n (past_of d) ps) c.past_is ∙ cutting_is_harmless n (past_of d) c.full;
        falls = into_falls (past_of d) c.full c.falls;
        known = λ p m. ⊎_elim (λ i. (k, d, s, e, i)) (c.known p) (into_member (past_of d) c.full p m);
        hand = hand_into v begun (past_of d) c.full current c.hand;
        waits = c.waits;
        small = c.small;
        decided_about = c.decided_about;
        told = c.told;
      }

  -- the first that waits is passed over
  pub core_passed : (y : Duty) → Core v n begun (y ∷ queue) current past active ahead bound → Core v n begun queue current past active ahead bound
  core_passed y c =
      record {
        full = c.full;
        past_is = c.past_is;
        falls = c.falls;
        known = c.known;
        hand = c.hand;
        waits = waits_fewer (y.slot ∷ begun) begun queue bound (λ j m. inr m) c.waits.1;
        small = c.small;
        decided_about = c.decided_about;
        told = c.told;
      }

  -- a duty is given, and waits
  pub core_given : (y : Duty) → bound ≤ y.slot → Slot (suc y.slot) → Core v n begun queue current past active ahead bound →
      Core v n begun (queue ++ (y ∷ [])) current past active ahead (suc y.slot)
  core_given y h s c =
      record {
        full = c.full;
        past_is = c.past_is;
        falls = c.falls;
        known = c.known;
        hand = c.hand;
        waits = waits_one_more begun queue y bound h c.waits;
        small = s;
        decided_about = c.decided_about;
        told = c.told;
      }

  -- fewer are decided about, and other verdicts are ahead
  pub core_told : {less : List Duty} {more : List Data} → ((y : Duty) → Member y less → Member y active) → ((d : Data) → Member d more → Told v d) →
      Core v n begun queue current past active ahead bound → Core v n begun queue current past less more bound
  core_told a t c =
      record {
        full = c.full;
        past_is = c.past_is;
        falls = c.falls;
        known = c.known;
        hand = c.hand;
        waits = c.waits;
        small = c.small;
        decided_about = λ y m. c.decided_about y (a y m);
        told = t;
      }

module _ {v : ℕ → List Data} {n : ℕ} {begun : List ℕ} {queue : List Duty} {past : List Past} {active : List Duty} {ahead : List Data} {bound : ℕ} where
  -- the duty at hand is done: its verdict was learned
  pub core_done : (y : Duty) {ys : List Duty} (d : Data) → VerdictsApart v → Verdict v y.slot d → Core v n begun queue (y ∷ ys) past active ahead bound →
      Core v n begun queue [] (keep n (past_of d) past) active ahead bound
  unfolding core_signed
  core_done y d apart e c =
      let s : Slot y.slot = begun_small c y.slot c.hand.0 in
      let r = core_signed y.slot d s e c in
      let there : Member (past_of d) (into (past_of d) c.full) = into_has (past_of d) c.full (λ x m t. once v y.slot d x apart s e (c.known x m) t) in
      record {
        full = r.full;
        past_is = r.past_is;
        falls = r.falls;
        known = r.known;
        hand = λ j m. ⊎_elim (λ i. rw i (d, e, there)) (λ l. l.1) (r.hand.1 j m);
        waits = r.waits;
        small = r.small;
        decided_about = r.decided_about;
        told = r.told;
      }

  -- with no duty at hand, the first that waits is begun
  pub core_begun : (m : ℕ) (y : Duty) → Core v n begun (y ∷ queue) [] past active ahead bound →
      Core v n (y.slot ∷ begun) queue (y ∷ []) past (first_of m (y ∷ active)) ahead bound
  core_begun m y c =
      record {
        full = c.full;
        past_is = c.past_is;
        falls = c.falls;
        known = c.known;
        hand = (inl refl, λ j. ⊎_elim (λ e. inl e) (λ h. inr (c.waits.0 j h, c.hand j h)));
        waits = c.waits.1;
        small = c.small;
        decided_about = λ z h. ⊎_elim (λ e. inl (ap (λ (u : Duty). u.slot) e)) (λ a. inr (c.decided_about z a)) (member_first m (y ∷ active) z h);
        told = c.told;
      }

-- the deciding comes to more: what had a verdict keeps it
abbrev pub Grows : (ℕ → List Data) → (ℕ → List Data) → Type 0
Grows v w = (k : ℕ) (a : Data) → Verdict v k a → Verdict w k a

hand_grows : (v w : ℕ → List Data) → Grows v w → (begun : List ℕ) (full : List Past) (current : List Duty) → Hand v begun full current → Hand w begun full current
hand_grows v w grows begun full [] h = λ j m. let l = h j m in (l.0, grows j l.0 l.1, l.2)
hand_grows v w grows begun full (y ∷ ys) h =
    (h.0, λ j m. ⊎_elim (λ e. inl e) (λ l. inr (l.0, (l.1.0, grows j l.1.0 l.1.1, l.1.2))) (h.1 j m))

pub core_grows : {v w : ℕ → List Data} {n : ℕ} {begun : List ℕ} {queue current : List Duty} {past : List Past} {active : List Duty} {ahead : List Data} {bound : ℕ} →
    Grows v w → Core v n begun queue current past active ahead bound → Core w n begun queue current past active ahead bound
core_grows {v} {w} {begun = begun} {current = current} grows c =
    record {
      full = c.full;
      past_is = c.past_is;
      falls = c.falls;
      known = λ p m. let k = c.known p m in (k.0, k.1, k.2, grows k.0 k.1 k.3, k.4);
      hand = hand_grows v w grows begun c.full current c.hand;
      waits = c.waits;
      small = c.small;
      decided_about = c.decided_about;
      told = λ d m. let t = c.told d m in (t.0, grows d.slot d t.1);
    }
