-- A client's memory passes the test of what may be one.
use Rattle.std.specs.declared.ops.Range.{Range}
use Rattle.std.proofs.Common.{◌≡◌, ℕ, ◌+◌, ◌-◌, ◌<◌, ◌≤◌, true, leb, List, [], ◌++◌, length, get_or, take, drop, sym, refl, ap, ◌∙◌, add-zero, arith, length-append, get_or-drop, get_or-take}
use Rattle.std.proofs.lemmas.List.{get_or_append_left}
use Rattle.std.proofs.lemmas.Bool.{and_from, le-leb, lt-ltb, eq-eqb}
use Rattle.rows.specs.Rows.{flat}
use Rattle.stored.specs.Stored.{Sizes, Stored}
use Rattle.stored.specs.Numbers.{listed, header, needed, regions, encode, sizes_in}
use Rattle.stored.specs.Kept.{GoodSizes, Well}
use Rattle.stored.proofs.Regions.{has_its_size}
use Rattle.layout.specs.Layout.{start_of, size_of, good_sizes, counts_fit, plausible, MemoryIsPlausible}
use Rattle.layout.specs.declared.region.Region.{Region}
use Rattle.layout.specs.declared.region.Region.TheVariants.{Past, Queue, Active, Ahead, Own, Marks, Cells}
use Rattle.layout.proofs.Places.{place, lent}

good_test : (z : Sizes) → GoodSizes z → good_sizes z ≡ true
good_test z g =
    and_from _ _
    (and_from _ _ (and_from _ _ (le-leb 1 z.clients g.some_clients) (le-leb z.clients 64 g.few_clients)) (and_from _ _ (lt-ltb z.me z.clients g.one_of_them) (le-leb 1 z.kept g.some_kept)))
    (and_from _ _ (and_from _ _ (le-leb z.kept 4096 g.few_kept) (le-leb 1 z.waiting g.some_wait)) (le-leb z.waiting 64 g.few_wait))

within : (r : Region) (z : Sizes) → start_of z r + size_of z r ≤ needed z
within Past z = omega arith
within Queue z = omega arith
within Active z = omega arith
within Ahead z = omega arith
within Own z = omega arith
within Marks z = omega arith
within Cells z = omega arith

-- the number by which a region begins, whatever stands behind memory
first_number : (r : Region) (t : Stored) (rest : List ℕ) → Well t → 1 ≤ size_of t.sizes r → get_or (encode t ++ rest) (start_of t.sizes r) 0 ≡ get_or (get_or (regions t) (place r) []) 0 0
first_number r t rest w some =
    let z : Sizes = t.sizes in
    let at : ℕ = start_of z r in
    let s : Range ℕ = record { start = at; end = at + size_of z r } in
    let part : take (at + size_of z r - at) (drop at (encode t)) ≡ get_or (regions t) (place r) [] =
    lent z r s (encode t) t (record { starts = refl; ends = refl }) (record { sized = refl; well = w; is = refl }) in
    let inside : at < length (encode t) = omega (arith, (has_its_size t w).0, within r z) in
    get_or_append_left (encode t) rest 0 at inside
    ∙ ap (λ i. get_or (encode t) i 0) (sym (add-zero at))
    ∙ sym (get_or-drop at (encode t) 0 0)
    ∙ sym (get_or-take (at + size_of z r - at) (drop at (encode t)) 0 0 (omega arith))
    ∙ ap (λ p. get_or p 0 0) part

-- what it says of each list fits
all_fit : (t : Stored) (rest : List ℕ) → Well t → counts_fit t.sizes (encode t ++ rest) ≡ true
unfolding regions listed
all_fit t rest w =
    let z : Sizes = t.sizes in
    and_from _ _
    (and_from _ _
    (and_from _ _
    (le-leb _ z.kept (omega (arith, first_number Past t rest w (omega arith), w.past)))
    (le-leb _ z.waiting (omega (arith, first_number Queue t rest w (omega arith), w.queue))))
    (and_from _ _
    (le-leb _ z.waiting (omega (arith, first_number Active t rest w (omega arith), w.active)))
    (le-leb _ z.waiting (omega (arith, first_number Ahead t rest w (omega arith), w.ahead)))))
    (le-leb _ z.waiting (omega (arith, first_number Own t rest w (omega arith), w.own)))

passes : (z : Sizes) (xs : List ℕ) → get_or xs 0 0 ≡ 1 → sizes_in xs ≡ z → GoodSizes z → needed z ≤ length xs → counts_fit z xs ≡ true → plausible xs ≡ true
passes z xs one e good long counts =
    and_from _ _
    (and_from _ _ (and_from _ _ (eq-eqb (get_or xs 0 0) 1 one) (ap good_sizes e ∙ good_test z good)) (ap (λ y. leb (needed y) (length xs)) e ∙ le-leb (needed z) (length xs) long))
    (ap (λ y. counts_fit y xs) e ∙ counts)

pub front : (t : Stored) (rest : List ℕ) → (get_or (encode t ++ rest) 0 0 ≡ 1) × (sizes_in (encode t ++ rest) ≡ t.sizes)
unfolding encode regions header flat
front t rest = (refl, refl)

pub memory_is_plausible : MemoryIsPlausible
memory_is_plausible t rest w =
    passes t.sizes (encode t ++ rest) (front t rest).0 (front t rest).1 w.sizes
    (simp length-append (omega (arith, (has_its_size t w).0)))
    (all_fit t rest w)
