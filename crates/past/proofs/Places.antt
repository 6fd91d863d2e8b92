-- The loop of `place_for`, and where one entry more goes: the entries before the place have larger targets.
use Rattle.std.proofs.Common.{◌≡◌, ℕ, ◌+◌, ◌-◌, ◌<◌, ◌≤◌, min, List, [], ◌∷◌, ◌++◌, map, length, get_or, slice_index, take, drop, sym, ap, ◌∙◌, append_assoc, arith, take-append-drop}
use Rattle.std.proofs.lemmas.List.{length-map, take_more, drop_more, take_all, drop_all}
use Rattle.std.proofs.lemmas.Bool.{eq-eqb, ne_eqb, lt-ltb, le-ltb}
use Rattle.protocol.specs.Data.{pick, Past, into, first_of, keep}
use Rattle.rows.specs.Rows.{inserted}
use Rattle.rows.proofs.Inserted.{take_inserted, take_inserted_none}
use Rattle.past.specs.Past.{entry_of, entries}
use Rattle.past.proofs.Laws.{entries_length, drop_entries, entries_take, first_of_is}

-- one entry at the head: the same target, a smaller one, a larger one
into_there : (p x : Past) (xs : List Past) → x.to ≡ p.to → into p (x ∷ xs) ≡ x ∷ xs
unfolding into pick
into_there p x xs e = rw (eq-eqb p.to x.to (sym e))

into_here : (p x : Past) (xs : List Past) → x.to < p.to → into p (x ∷ xs) ≡ p ∷ (x ∷ xs)
unfolding into pick
into_here p x xs h = rw (ne_eqb p.to x.to (omega arith), lt-ltb x.to p.to h)

into_behind : (p x : Past) (xs : List Past) → p.to < x.to → into p (x ∷ xs) ≡ x ∷ into p xs
unfolding into pick
into_behind p x xs h = rw (ne_eqb p.to x.to (omega arith), le-ltb x.to p.to (omega arith))

-- the entry is to go somewhere behind the first i
abbrev pub Passed : Past → List Past → ℕ → Type 0
Passed p ps i = into p ps ≡ take i ps ++ into p (drop i ps)

module _ (p : Past) (rs : List (List ℕ)) (i : ℕ) (d : List ℕ) (h : i < length rs) (passed : Passed p (map entry_of rs) i) where
  ps : List Past
  ps = map entry_of rs

  x : Past
  x = entry_of (get_or rs i d)

  here : drop i (map entry_of rs) ≡ entry_of (get_or rs i d) ∷ drop (i + 1) (map entry_of rs)
  here = drop_entries rs i d h

  pub passes_more : p.to < slice_index (get_or rs i d) 1 → Passed p (map entry_of rs) (i + 1)
  unfolding ps x
  passes_more lt =
      let long : i < length ps = omega (arith, length-map rs entry_of) in
      let front : take (i + 1) ps ≡ take i ps ++ x ∷ [] =
      let a = take_more ps i x long in
      let b = drop_more ps i x long in
      let e = here in
      cc in
      passed
      ∙ ap (λ t. take i ps ++ into p t) here
      ∙ ap (λ t. take i ps ++ t) (into_behind p x (drop (i + 1) ps) lt)
      ∙ sym (append_assoc (take i ps) (x ∷ []) (into p (drop (i + 1) ps)))
      ∙ ap (λ t. t ++ into p (drop (i + 1) ps)) (sym front)

  pub stops_there : slice_index (get_or rs i d) 1 ≡ p.to → into p (map entry_of rs) ≡ map entry_of rs
  unfolding ps x
  stops_there e =
      passed
      ∙ ap (λ t. take i ps ++ t) (ap (into p) here ∙ into_there p x (drop (i + 1) ps) e ∙ sym here)
      ∙ take-append-drop i ps

  pub stops_here : slice_index (get_or rs i d) 1 < p.to → into p (map entry_of rs) ≡ inserted (map entry_of rs) i p
  unfolding ps x
  stops_here lt =
      passed ∙ ap (λ t. take i ps ++ t) (ap (into p) here ∙ into_here p x (drop (i + 1) ps) lt ∙ ap (λ t. p ∷ t) (sym here))

pub stops_last : (p : Past) (rs : List (List ℕ)) → Passed p (map entry_of rs) (length rs) → into p (map entry_of rs) ≡ inserted (map entry_of rs) (length rs) p
unfolding into
stops_last p rs passed =
    let i : ℕ = length rs in
    let none : drop i (map entry_of rs) ≡ [] = drop_all i (map entry_of rs) (omega (arith, length-map rs entry_of)) in
    passed ∙ ap (λ t. take i (map entry_of rs) ++ t) (ap (into p) none ∙ ap (λ t. p ∷ t) (sym none))

pub keep_same : (most n : ℕ) (p : Past) (xs : List ℕ) → n ≤ most → into p (entries n xs) ≡ entries n xs → keep most p (entries n xs) ≡ entries n xs
keep_same most n p xs h e =
    ap (first_of most) e ∙ first_of_is most (entries n xs) ∙ take_all most (entries n xs) (omega (arith, entries_length n xs))

pub keep_none : (most n m : ℕ) (p : Past) (xs : List ℕ) → n ≤ most → m ≤ n → most ≤ m → into p (entries n xs) ≡ inserted (entries n xs) m p → keep most p (entries n xs) ≡ entries n xs
keep_none most n m p xs h l full e =
    let long = entries_length n xs in
    ap (first_of most) e
    ∙ first_of_is most (inserted (entries n xs) m p)
    ∙ take_inserted_none most m p (entries n xs) (omega arith) (omega arith) full

pub keep_one : (most n m : ℕ) (p : Past) (xs : List ℕ) → n ≤ most → m ≤ n → m < most → into p (entries n xs) ≡ inserted (entries n xs) m p → keep most p (entries n xs) ≡ inserted (entries (min n (most - 1)) xs) m p
keep_one most n m p xs h l room e =
    let ps : List Past = entries n xs in
    let long = entries_length n xs in
    let before : take (min (length ps) (most - 1)) ps ≡ entries (min n (most - 1)) xs =
    ap (λ i. take (min i (most - 1)) ps) long ∙ entries_take (min n (most - 1)) n xs (omega arith) in
    ap (first_of most) e
    ∙ first_of_is most (inserted ps m p)
    ∙ take_inserted most m p ps (omega arith) room
    ∙ ap (λ t. inserted t m p) before
