-- Pasts: what is forgotten can do no harm. Of a past in the order of its targets, in which no two clash, the entries that are no longer kept have lower targets
-- than all that are, and no higher sources; so what is above the least target and not below the least source clashes with none of them.
-- Assumes nothing.
use Rattle.std.proofs.Common.{◌≡◌, ℕ, zero, suc, ◌<◌, ◌≤◌, true, false, not, ◌||◌, eqb, ltb, leb, ◌⊎◌, List, [], ◌∷◌, refl, inl, inr, ⊎_elim, arith}
use Rattle.std.proofs.lemmas.Bool.{not-true, ltb-true, ltb-false, leb-false, eqb-true, eqb-false, and_parts, or_parts, or_from}
use Rattle.protocol.specs.Data.{pick, Data, Past, past_of, clash, clashes, least_to, least_from, unsafe, into, first_of}
use Rattle.protocol.specs.Refusals.{Member}
use Rattle.protocol.specs.Promise.{falling, none_clash, ForgettingIsSafe}
use Rattle.safety.proofs.Basics.{member_first}
use Rattle.safety.proofs.Picks.{pick_both}

-- each target is above those after it
abbrev pub Falling : List Past → Type 0
Falling [] = Unit
Falling (x ∷ xs) = ((p : Past) → Member p xs → p.to < x.to) × Falling xs

-- entries with different targets do not clash
abbrev pub Apart : List Past → Type 0
Apart ps = (p q : Past) → Member p ps → Member q ps → (p.to ≡ q.to → ⊥) → clash p q ≡ false

-- an entry clashes with none of a past, in either order
abbrev pub ClearOf : List Past → Past → Type 0
ClearOf ps q = (p : Past) → Member p ps → (clash p q ≡ false) × (clash q p ≡ false)

pub clashes_clear : (ps : List Past) (q : Past) → clashes ps q ≡ false → ClearOf ps q
unfolding clashes
clashes_clear [] q e p h = absurd h
clashes_clear (x ∷ xs) q e p (inl i) = rw i (or_parts (clash x q) (clash q x) (or_parts (clash x q || clash q x) (clashes xs q) e).0)
clashes_clear (x ∷ xs) q e p (inr h) = clashes_clear xs q (or_parts (clash x q || clash q x) (clashes xs q) e).1 p h

pub clear_clashes : (ps : List Past) (q : Past) → ClearOf ps q → clashes ps q ≡ false
unfolding clashes
clear_clashes [] q c = refl
clear_clashes (x ∷ xs) q c =
    or_from (clash x q || clash q x) (clashes xs q) (or_from (clash x q) (clash q x) (c x (inl refl)).0 (c x (inl refl)).1)
    (clear_clashes xs q (λ p h. c p (inr h)))

-- an entry is kept, or its target is below all that are
kept_or_below : (n : ℕ) (ps : List Past) (p : Past) → Falling ps → Member p ps → Member p (first_of n ps) ⊎ ((q : Past) → Member q (first_of n ps) → p.to < q.to)
unfolding first_of
kept_or_below zero ps p f h = inr (λ q m. absurd m)
kept_or_below (suc n) [] p f h = absurd h
kept_or_below (suc n) (x ∷ xs) p f (inl e) = inl (inl e)
kept_or_below (suc n) (x ∷ xs) p f (inr h) =
    ⊎_elim (λ k. inl (inr k)) (λ b. inr (λ q. ⊎_elim (λ e. rw e (f.0 p h)) (b q))) (kept_or_below n xs p f.1 h)

-- the least target, and the least source, are those of an entry
least_to_is : (x : Past) (xs : List Past) → (q : Past) × Member q (x ∷ xs) × (q.to ≡ least_to x xs)
unfolding least_to
least_to_is x [] = (x, inl refl, refl)
least_to_is x (y ∷ ys) =
    let r = least_to_is x ys in
    pick_both (ltb y.to (least_to x ys)) y.to (least_to x ys) (λ t. (q : Past) × Member q (x ∷ (y ∷ ys)) × (q.to ≡ t))
    (λ e. (y, inr (inl refl), refl)) (λ e. (r.0, ⊎_elim (λ h. inl h) (λ h. inr (inr h)) r.1, r.2))

least_from_is : (x : Past) (xs : List Past) → (q : Past) × Member q (x ∷ xs) × (q.from ≡ least_from x xs)
unfolding least_from
least_from_is x [] = (x, inl refl, refl)
least_from_is x (y ∷ ys) =
    let r = least_from_is x ys in
    pick_both (ltb y.from (least_from x ys)) y.from (least_from x ys) (λ t. (q : Past) × Member q (x ∷ (y ∷ ys)) × (q.from ≡ t))
    (λ e. (y, inr (inl refl), refl)) (λ e. (r.0, ⊎_elim (λ h. inl h) (λ h. inr (inr h)) r.1, r.2))

-- what the tests of a clash say
pub no_clash : (p q : Past) → (p.to ≡ q.to → ⊥) → (p.from < q.from → q.to < p.to → ⊥) → clash p q ≡ false
no_clash p q t s = grind arith

pub clash_not : (p q : Past) → clash p q ≡ false → (p.to ≡ q.to → ⊥) × (p.from < q.from → q.to < p.to → ⊥)
clash_not p q e = (λ i. grind arith, λ a b. grind arith)

-- what lies above the least target, and not below the least source, clashes with no entry that lies below all these
clear_below : (x : Past) (xs : List Past) (d p : Past) → least_to x xs < d.to → least_from x xs ≤ d.from →
    ((q : Past) → Member q (x ∷ xs) → (p.to < q.to) × (clash q p ≡ false)) → (clash p d ≡ false) × (clash d p ≡ false)
clear_below x xs d p t f b =
    let m = least_to_is x xs in
    let n = least_from_is x xs in
    let low : p.to < m.0.to = (b m.0 m.1).0 in
    let up : p.to < n.0.to = (b n.0 n.1).0 in
    let source : n.0.from < p.from → ⊥ = λ a. (clash_not n.0 p (b n.0 n.1).1).1 a up in
    let below : p.to < d.to = omega (arith, m.2) in
    let above : p.from ≤ d.from = omega (arith, n.2) in
    (no_clash p d (λ e. omega arith) (λ a b. omega arith), no_clash d p (λ e. omega arith) (λ a b. omega arith))

-- forgetting is safe, of pasts whose entries with different targets do not clash
pub forgets : (n : ℕ) (ps : List Past) (d : Data) → 1 ≤ n → Falling ps → Apart ps → unsafe (first_of n ps) d ≡ false → ClearOf ps (past_of d)
unfolding first_of unsafe
forgets zero ps d one f a u p h = absurd (omega arith)
forgets (suc n) [] d one f a u p h = absurd h
forgets (suc n) (x ∷ xs) d one f a u p h =
    let k = first_of n xs in
    let parts = or_parts (leb d.target (least_to x k) || ltb d.source (least_from x k)) (clashes (x ∷ k) (past_of d)) u in
    let low = or_parts (leb d.target (least_to x k)) (ltb d.source (least_from x k)) parts.0 in
    ⊎_elim (λ m. clashes_clear (x ∷ k) (past_of d) parts.1 p m)
    (λ b. clear_below x k (past_of d) p (leb-false d.target (least_to x k) low.0) (ltb-false d.source (least_from x k) low.1)
    (λ q m. let l : p.to < q.to = b q m in (l, a q p (member_first (suc n) (x ∷ xs) q m) h (λ e. omega arith))))
    (kept_or_below (suc n) (x ∷ xs) p f h)

-- the words of the statement, and the relations above
below_first : (x : Past) (xs : List Past) → falling (x ∷ xs) ≡ true → Falling xs → (p : Past) → Member p xs → p.to < x.to
unfolding falling
below_first x [] e f p h = absurd h
below_first x (y ∷ ys) e f p (inl i) = rw i (ltb-true y.to x.to (and_parts (ltb y.to x.to) (falling (y ∷ ys)) e).0)
below_first x (y ∷ ys) e f p (inr h) =
    let a : p.to < y.to = f.0 p h in
    let b : y.to < x.to = ltb-true y.to x.to (and_parts (ltb y.to x.to) (falling (y ∷ ys)) e).0 in
    omega arith

falling_rest : (x : Past) (xs : List Past) → falling (x ∷ xs) ≡ true → falling xs ≡ true
unfolding falling
falling_rest x [] e = refl
falling_rest x (y ∷ ys) e = (and_parts (ltb y.to x.to) (falling (y ∷ ys)) e).1

falling_falls : (ps : List Past) → falling ps ≡ true → Falling ps
falling_falls [] e = tt
falling_falls (x ∷ xs) e =
    let r = falling_falls xs (falling_rest x xs e) in
    (below_first x xs e r, r)

none_clash_apart : (ps : List Past) → none_clash ps ≡ true → Apart ps
unfolding none_clash
none_clash_apart [] e p q h k t = absurd h
none_clash_apart (x ∷ xs) e p q (inl i) (inl j) t = absurd (t (rw (i, j)))
none_clash_apart (x ∷ xs) e p q (inl i) (inr k) t =
    rw i (clashes_clear xs x (not-true (clashes xs x) (and_parts (not (clashes xs x)) (none_clash xs) e).0) q k).1
none_clash_apart (x ∷ xs) e p q (inr h) (inl j) t =
    rw j (clashes_clear xs x (not-true (clashes xs x) (and_parts (not (clashes xs x)) (none_clash xs) e).0) p h).0
none_clash_apart (x ∷ xs) e p q (inr h) (inr k) t =
    none_clash_apart xs (and_parts (not (clashes xs x)) (none_clash xs) e).1 p q h k t

pub forgetting_is_safe : ForgettingIsSafe
unfolding ForgettingIsSafe
forgetting_is_safe n ps d one f c u =
    clear_clashes ps (past_of d) (forgets n ps d one (falling_falls ps f) (none_clash_apart ps c) u)

-- one entry more: the others stay, it goes in unless its target is there, and the order stays
pub into_member : (p : Past) (ps : List Past) (q : Past) → Member q (into p ps) → (q ≡ p) ⊎ Member q ps
unfolding into
into_member p [] q = λ h. h
into_member p (x ∷ xs) q =
    pick_both (eqb p.to x.to) (x ∷ xs) (pick (ltb x.to p.to) (p ∷ (x ∷ xs)) (x ∷ into p xs)) (λ t. Member q t → (q ≡ p) ⊎ Member q (x ∷ xs))
    (λ e h. inr h)
    (λ e. pick_both (ltb x.to p.to) (p ∷ (x ∷ xs)) (x ∷ into p xs) (λ t. Member q t → (q ≡ p) ⊎ Member q (x ∷ xs)) (λ l h. h)
    (λ l. ⊎_elim (λ i. inr (inl i)) (λ h. ⊎_elim (λ i. inl i) (λ m. inr (inr m)) (into_member p xs q h))))

pub into_keeps : (p : Past) (ps : List Past) (q : Past) → Member q ps → Member q (into p ps)
unfolding into
into_keeps p [] q h = absurd h
into_keeps p (x ∷ xs) q h =
    pick_both (eqb p.to x.to) (x ∷ xs) (pick (ltb x.to p.to) (p ∷ (x ∷ xs)) (x ∷ into p xs)) (Member q) (λ e. h)
    (λ e. pick_both (ltb x.to p.to) (p ∷ (x ∷ xs)) (x ∷ into p xs) (Member q) (λ l. inr h)
    (λ l. ⊎_elim (λ i. inl i) (λ m. inr (into_keeps p xs q m)) h))

pub into_has : (p : Past) (ps : List Past) → ((x : Past) → Member x ps → p.to ≡ x.to → p ≡ x) → Member p (into p ps)
unfolding into
into_has p [] u = inl refl
into_has p (x ∷ xs) u =
    pick_both (eqb p.to x.to) (x ∷ xs) (pick (ltb x.to p.to) (p ∷ (x ∷ xs)) (x ∷ into p xs)) (Member p)
    (λ e. inl (u x (inl refl) (eqb-true p.to x.to e)))
    (λ e. pick_both (ltb x.to p.to) (p ∷ (x ∷ xs)) (x ∷ into p xs) (Member p) (λ l. inl refl) (λ l. inr (into_has p xs (λ z m. u z (inr m)))))

pub into_falls : (p : Past) (ps : List Past) → Falling ps → Falling (into p ps)
unfolding into
into_falls p [] f = (λ q h. absurd h, tt)
into_falls p (x ∷ xs) f =
    pick_both (eqb p.to x.to) (x ∷ xs) (pick (ltb x.to p.to) (p ∷ (x ∷ xs)) (x ∷ into p xs)) Falling (λ e. f)
    (λ e. pick_both (ltb x.to p.to) (p ∷ (x ∷ xs)) (x ∷ into p xs) Falling
    (λ l. let above : x.to < p.to = ltb-true x.to p.to l in
    (λ q. ⊎_elim (λ i. rw i above) (λ h. let low : q.to < x.to = f.0 q h in omega arith), f))
    (λ l. let other : p.to ≡ x.to → ⊥ = eqb-false p.to x.to e in
    let under : p.to ≤ x.to = ltb-false x.to p.to l in
    let below : p.to < x.to = omega arith in
    (λ q h. ⊎_elim (λ i. rw i below) (λ m. f.0 q m) (into_member p xs q h), into_falls p xs f.1)))
