-- The past in its region: read as it is lent, and with one entry more.
use Rattle.std.proofs.Common.{◌≡◌, ℕ, ◌-◌, ◌≤◌, List, map, length, take, drop, set, sym, refl, ap, ◌∙◌, arith, length-take}
use borrow.Rule.Slice.PartMut.{put_mid}
use Rattle.std.proofs.lemmas.List.{length-map}
use Rattle.protocol.specs.Data.{Past, into, keep}
use Rattle.rows.specs.Rows.{laid}
use Rattle.past.specs.Past.{entry_of, row_of, entries, encoded, OneMore}
use Rattle.past.proofs.Laws.{first_of_is}
use Rattle.stored.specs.Numbers.{listed, listed_in}
use Rattle.stored.proofs.Entries.{entry_back}
use Rattle.stored.proofs.Listed.{listed_back}
use Rattle.lists.specs.Lists.{counted, Region}
use Rattle.lists.proofs.Regions.{lent, rewritten}

-- the entries are those that were laid down
pub entries_there : (n c : ℕ) (ps : List Past) → c ≡ length ps → length ps ≤ n → entries c (laid 2 n (map row_of ps)) ≡ ps
unfolding entries listed listed_in
entries_there n c ps e few =
    ap (λ i. entries i (laid 2 n (map row_of ps))) e ∙ listed_back 2 n row_of (λ p. refl) ps few entry_of entry_back

-- one entry more
pub one_kept : (most c r : ℕ) (p : Past) (ps : List Past) (xs part : List ℕ) → Region 2 most (map row_of ps) xs → c ≡ length ps → length part ≡ length (take (length xs - 1) (drop 1 xs)) → OneMore most p c r (take (length xs - 1) (drop 1 xs)) part → set (put_mid 1 (length xs - 1) xs part) 0 r ≡ counted 2 most (map row_of (keep most p ps))
unfolding encoded
one_kept most c r p ps xs part holds count same one =
    let few : length ps ≤ most = omega (arith, holds.few, length-map ps row_of) in
    let before = lent 2 most (map row_of ps) xs holds.is in
    let held : entries c (take (length xs - 1) (drop 1 xs)) ≡ ps = ap (entries c) before ∙ entries_there most c ps count few in
    let after : part ≡ laid 2 most (map row_of (keep most p ps)) =
    one.exact (before ∙ ap (λ qs. laid 2 most (map row_of qs)) (sym held)) ∙ ap (λ qs. laid 2 most (map row_of (keep most p qs))) held in
    let many : r ≡ length (map row_of (keep most p ps)) =
    one.long ∙ ap (λ qs. length (keep most p qs)) held ∙ sym (length-map (keep most p ps) row_of) in
    rewritten 2 most r (length xs - 1) (map row_of ps) (map row_of (keep most p ps)) xs part holds.is refl same after many

-- no more are kept than there is room for
pub keep_few : (n : ℕ) (p : Past) (ps : List Past) → length (keep n p ps) ≤ n
keep_few n p ps =
    let most : length (take n (into p ps)) ≤ n = simp length-take (omega arith) in
    omega (arith, most, ap length (first_of_is n (into p ps)))
