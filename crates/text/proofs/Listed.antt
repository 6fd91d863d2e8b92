-- The lines of a block, of raw bytes and of the past.
use Rattle.std.proofs.Common.{◌≡◌, ℕ, ◌+◌, ◌-◌, ◌/◌, ◌%◌, ◌<◌, ◌≤◌, true, false, ◌==◌, List, [], ◌∷◌, ◌++◌, map, length, take, drop, slice_index_or, codes, refl, sym, ap, ◌∙◌, arith, append_assoc, reverse}
use mathlib.Core.List.{map-map, reverse-cons, reverse-append}
use Rattle.std.specs.List.{flat_map}
use Rattle.std.specs.Fmt.{digit_glyph}
use Rattle.std.proofs.lemmas.Bool.{false≢true, eqb-true}
use Rattle.std.proofs.lemmas.List.{map-append, take_more, take_all}
use Rattle.wire.specs.Meaning.{data_of, entry_of}
use Rattle.wire.specs.Text.{data_text, entry_text}
use Rattle.wire.specs.declared.values.Data.{Data}
use Rattle.wire.specs.declared.values.Entry.{Entry}
use denote.Bor.{Bor}
use Rattle.text.specs.Text.{listed, joined, hex, block_text, bytes_text, past_text}

-- each text with what stands between before it
all_behind : {A B : Type 0} (between : List ℕ) (f : B → List ℕ) (g : A → B) (xs : List A) → flat_map (λ x. between ++ f (g x)) xs ≡ listed between between (map f (map g xs))
unfolding listed
all_behind between f g [] = refl
all_behind between f g (x ∷ xs) = rw (all_behind between f g xs) (append_assoc between (f (g x)) (listed between between (map f (map g xs))))

-- a block's line, of the first data and of the others
block_some : (d : Data) (ds : List Data) → codes "block: " ++ (data_text (data_of d) ++ flat_map (λ x. codes ", " ++ data_text (data_of x)) ds) ≡ block_text (map data_of (d ∷ ds))
unfolding block_text listed
block_some d ds = rw (all_behind (codes ", ") data_text data_of ds)

pub block_none : (ds : List Data) → length ds < 1 → codes "block" ≡ block_text (map data_of ds)
unfolding block_text
block_none [] e = refl
block_none (x ∷ xs) e = absurd (omega arith)

others : {A : Type 0} (x : A) (xs : List A) → take (length (x ∷ xs) - 1) xs ≡ xs
others x xs = take_all _ xs (omega arith)

pub block_whole : (ds : List Data) (d : Data) (i : ℕ) → 1 ≤ length ds → length (take (length ds - 1) (drop 1 ds)) ≤ i
    → (codes "block: " ++ data_text (data_of (slice_index_or ds 0 d))) ++ flat_map (λ x. codes ", " ++ data_text (data_of x)) (take i (take (length ds - 1) (drop 1 ds)))
    ≡ block_text (map data_of ds)
block_whole [] d i h e = absurd (omega arith)
block_whole (x ∷ xs) d i h e =
    rw (take_all i _ e, others x xs) (append_assoc (codes "block: ") (data_text (data_of x)) _ ∙ block_some x xs)

-- the two digits of a byte
abbrev pub two : ℕ → List ℕ
two b = digit_glyph false (b / 16) ∷ digit_glyph false (b % 16) ∷ []

pub hex_flat : (bs : List ℕ) → flat_map two bs ≡ hex bs
unfolding hex
hex_flat [] = refl
hex_flat (b ∷ bs) = ap (λ (t : List ℕ). two b ++ t) (hex_flat bs)

pub bytes_none : (bs : List ℕ) → true ≡ (length bs == 0) → codes "bytes" ≡ bytes_text bs
unfolding bytes_text
bytes_none [] e = refl
bytes_none (b ∷ bs) e = absurd (omega (arith, eqb-true (length (b ∷ bs)) 0 (sym e)))

-- all of them
pub hex_whole : (bs : List ℕ) (i : ℕ) → length bs ≤ i → flat_map two (take i bs) ≡ hex bs
hex_whole bs i e = rw (take_all i bs e) (hex_flat bs)

pub bytes_whole : (bs : List ℕ) → false ≡ (length bs == 0) → codes "bytes " ++ hex bs ≡ bytes_text bs
unfolding bytes_text
bytes_whole [] h = absurd (false≢true h)
bytes_whole (b ∷ bs) h = refl

pub past_none : (ps : List Entry) → length ps < 1 → codes "past" ≡ past_text (map entry_of ps)
unfolding past_text
past_none [] e = refl
past_none (p ∷ ps) e = absurd (omega arith)

past_some : (ps : List Entry) → 1 ≤ length ps → past_text (map entry_of ps) ≡ codes "past " ++ joined (codes ", ") (map entry_text (reverse (map entry_of ps)))
unfolding past_text
past_some [] h = absurd (omega arith)
past_some (p ∷ ps) h = refl

reverse_map : {A B : Type 0} (f : A → B) (xs : List A) → reverse (map f xs) ≡ map f (reverse xs)
reverse_map f [] = refl
reverse_map f (x ∷ xs) = rw (reverse-cons (f x) (map f xs), reverse-cons x xs, reverse_map f xs) (sym (map-append f (reverse xs) (x ∷ [])))

-- the entries but the last, and the last
newer_oldest : (ps : List Entry) (d : Entry) → 1 ≤ length ps → ps ≡ take (length ps - 1) ps ++ slice_index_or ps (length ps - 1) d ∷ []
newer_oldest ps d h =
    let s : length ps - 1 + 1 ≡ length ps = omega arith in
    sym (take_all (length ps) ps (omega arith)) ∙ (rw s at (take_more ps (length ps - 1) d (omega arith)))

backwards : (ps : List Entry) (d : Entry) → 1 ≤ length ps
    → reverse (map entry_of ps) ≡ entry_of (slice_index_or ps (length ps - 1) d) ∷ map entry_of (reverse (take (length ps - 1) ps))
backwards ps d h =
    ap (λ xs. reverse (map entry_of xs)) (newer_oldest ps d h) ∙ reverse_map entry_of (take (length ps - 1) ps ++ slice_index_or ps (length ps - 1) d ∷ [])
    ∙ ap (map entry_of) (reverse-append (take (length ps - 1) ps) (slice_index_or ps (length ps - 1) d ∷ []))

-- the line of the past, when all but its last entry were met from the last one on
pub past_whole : (ps : List Entry) (d : Entry) (ys : List (Bor Entry)) (start all : List ℕ) → 1 ≤ length ps
    → start ≡ codes "past " ++ entry_text (entry_of (slice_index_or ps (length ps - 1) d))
    → all ≡ start ++ flat_map (λ e. codes ", " ++ entry_text (entry_of e.now)) ys
    → map (λ y. y.now) ys ≡ reverse (take (length ps - 1) ps)
    → all ≡ past_text (map entry_of ps)
unfolding listed
past_whole ps d ys start all h e k m =
    rw (past_some ps h, backwards ps d h, ← m, k, e, all_behind (codes ", ") entry_text (λ (y : Bor Entry). entry_of y.now) ys, map-map entry_of (λ (y : Bor Entry). y.now) ys)
    (append_assoc (codes "past ") (entry_text (entry_of (slice_index_or ps (length ps - 1) d))) _)
