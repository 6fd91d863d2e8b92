-- The loop of `is_unsafe`: what was folded so far stands for the entries that were looked at, and the rest is still to come.
use Rattle.std.proofs.Common.{◌≡◌, ℕ, ◌+◌, ◌<◌, ◌≤◌, min, Bool, true, false, ◌||◌, ltb, leb, List, [], ◌∷◌, map, length, get_or, drop, sym, refl, ap, ◌∙◌, arith, ltb-false, ltb-true}
use Rattle.protocol.specs.Data.{pick, Data, Past, past_of, clash, clashes, least_to, least_from, unsafe}
use Rattle.std.proofs.lemmas.List.{drop_all, length-map}
use Rattle.past.specs.Past.{entry, entry_of}
use Rattle.past.proofs.Laws.{drop_entries}

pub record Folded (x q : Past) (all rest : List Past) (s t : ℕ) (b : Bool) : Type 0 where
  pub sources : least_from x all ≡ least_from (entry s t) rest
  pub targets : least_to x all ≡ least_to (entry s t) rest
  pub clashing : clashes (x ∷ all) q ≡ (b || clashes rest q)

pub folded_none : (x q : Past) (s t : ℕ) (all : List Past) (b : Bool) → x ≡ entry s t → b ≡ (clash x q || clash q x) → Folded x q all all s t b
unfolding clashes
folded_none x q s t all b e c =
    record {
      sources = ap (λ y. least_from y all) e;
      targets = ap (λ y. least_to y all) e;
      clashing = ap (λ k. k || clashes all q) (sym c);
    }

-- cases on a test, with what it says
pick_both : {A : Type 0} (b : Bool) (x y : A) (P : A → Type 0) → (b ≡ true → P x) → (b ≡ false → P y) → P (pick b x y)
unfolding pick
pick_both true x y P f g = f refl
pick_both false x y P f g = g refl

pick_min : (a m : ℕ) → pick (ltb a m) a m ≡ min m a
pick_min a m = pick_both (ltb a m) a m (λ z. z ≡ min m a) (λ e. omega (arith, ltb-true a m e)) (λ e. omega (arith, ltb-false a m e))

three : (a b c : ℕ) → min (min a b) c ≡ min (min a c) b
three a b c = omega arith

-- a smaller one to begin with
from_smaller : (x : Past) (k t : ℕ) (ys : List Past) → min (least_from x ys) k ≡ least_from (entry (min x.from k) t) ys
unfolding least_from
from_smaller x k t [] = refl
from_smaller x k t (y ∷ ys) =
    ap (λ m. min m k) (pick_min y.from (least_from x ys))
    ∙ three (least_from x ys) y.from k
    ∙ ap (λ m. min m y.from) (from_smaller x k t ys)
    ∙ sym (pick_min y.from (least_from (entry (min x.from k) t) ys))

to_smaller : (x : Past) (k s : ℕ) (ys : List Past) → min (least_to x ys) k ≡ least_to (entry s (min x.to k)) ys
unfolding least_to
to_smaller x k s [] = refl
to_smaller x k s (y ∷ ys) =
    ap (λ m. min m k) (pick_min y.to (least_to x ys))
    ∙ three (least_to x ys) y.to k
    ∙ ap (λ m. min m y.to) (to_smaller x k s ys)
    ∙ sym (pick_min y.to (least_to (entry s (min x.to k)) ys))

or_assoc : (a b c : Bool) → (a || (b || c)) ≡ ((a || b) || c)
or_assoc true b c = refl
or_assoc false b c = refl

or_none : (a : Bool) → (a || false) ≡ a
or_none true = refl
or_none false = refl

pub folded_more : (x q y : Past) (all rest : List Past) (s t : ℕ) (b c : Bool) → Folded x q all (y ∷ rest) s t b → c ≡ (clash y q || clash q y) → Folded x q all rest (min s y.from) (min t y.to) (b || c)
unfolding least_from least_to clashes
folded_more x q y all rest s t b c f e =
    record {
      sources =
          f.sources
          ∙ pick_min y.from (least_from (entry s t) rest)
          ∙ from_smaller (entry s t) y.from (min t y.to) rest;
      targets = f.targets ∙ pick_min y.to (least_to (entry s t) rest) ∙ to_smaller (entry s t) y.to (min s y.from) rest;
      clashing =
          f.clashing ∙ or_assoc b (clash y q || clash q y) (clashes rest q) ∙ ap (λ k. (b || k) || clashes rest q) (sym e);
    }

pub unsafe_is : (d : Data) (x q : Past) (all : List Past) (s t : ℕ) (b : Bool) → Folded x q all [] s t b → past_of d ≡ q → ((leb d.target t || ltb d.source s) || b) ≡ unsafe (x ∷ all) d
unfolding unsafe clashes least_from least_to
unsafe_is d x q all s t b f e =
    let c : clashes (x ∷ all) (past_of d) ≡ b = ap (clashes (x ∷ all)) e ∙ f.clashing ∙ or_none b in
    rw (f.sources, f.targets, c) refl

-- the same over the entries: none, one more of those to come, and all
pub nothing_kept : (d : Data) (rs : List (List ℕ)) → length rs ≡ 0 → false ≡ unsafe (map entry_of rs) d
unfolding unsafe
nothing_kept d [] e = refl
nothing_kept d (r ∷ rs) e = absurd (omega (arith, e))

pub folding_more : (x q y : Past) (all : List Past) (rs : List (List ℕ)) (i : ℕ) (d : List ℕ) (s t s' t' : ℕ) (b c : Bool) → Folded x q all (drop i (map entry_of rs)) s t b → i < length rs → y ≡ entry_of (get_or rs i d) → s' ≡ min s y.from → t' ≡ min t y.to → c ≡ (clash y q || clash q y) → Folded x q all (drop (i + 1) (map entry_of rs)) s' t' (b || c)
folding_more x q y all rs i d s t s' t' b c f h here ss tt' cs =
    let split : drop i (map entry_of rs) ≡ y ∷ drop (i + 1) (map entry_of rs) =
    drop_entries rs i d h ∙ ap (λ p. p ∷ drop (i + 1) (map entry_of rs)) (sym here) in
    let before : Folded x q all (y ∷ drop (i + 1) (map entry_of rs)) s t b = rw split at f in
    rw (ss, tt') (folded_more x q y all (drop (i + 1) (map entry_of rs)) s t b c before cs)

pub folding_all : (d : Data) (x q : Past) (kept others : List (List ℕ)) (first : List ℕ) (i s t : ℕ) (b : Bool) → kept ≡ first ∷ others → x ≡ entry_of first → Folded x q (map entry_of others) (drop i (map entry_of others)) s t b → length others ≤ i → past_of d ≡ q → ((leb d.target t || ltb d.source s) || b) ≡ unsafe (map entry_of kept) d
folding_all d x q kept others first i s t b split here f h e =
    let none : drop i (map entry_of others) ≡ [] = drop_all i (map entry_of others) (omega (arith, length-map others entry_of)) in
    let all : Folded x q (map entry_of others) [] s t b = rw none at f in
    unsafe_is d x q (map entry_of others) s t b all e
    ∙ ap (λ ps. unsafe ps d) (ap (λ y. y ∷ map entry_of others) here ∙ sym (ap (map entry_of) split))
