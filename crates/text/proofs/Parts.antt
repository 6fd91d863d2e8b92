-- Bytes in hexadecimal, 32 at a time.
use Rattle.std.proofs.Common.{◌≡◌, ℕ, zero, suc, ◌+◌, ◌*◌, ◌/◌, ◌%◌, ◌<◌, Bool, true, false, cond, nat_lt, ◌==◌, codes, List, [], ◌∷◌, ◌++◌, length, take, drop, slice_index_or, refl, sym, ap, ◌∙◌, ap₂, arith, append_assoc, drop-drop, Ok, Err, Result, MatchResult}
use Rattle.std.specs.List.{flat_map}
use Rattle.std.specs.Simd.{first_chunks}
use Rattle.std.specs.Prelude.{IsOk}
use Rattle.std.specs.Str.{IsUtf8, IsAscii}
use Rattle.std.proofs.lemmas.Grind.{flat_map-append}
use Rattle.std.proofs.lemmas.Str.{IsUtf8-nil, IsUtf8-append, IsUtf8-from_ascii}
use Rattle.std.proofs.lemmas.List.{take-append-drop, take_more, flat_map_more}
use Rattle.text.specs.Text.{hex, bytes_text}
use Rattle.text.proofs.Listed.{two, hex_flat, bytes_whole}

-- digits are text
glyph_by : (d : ℕ) (t : Bool) → d < 16 → cond t (48 + d) (87 + d) < 128
glyph_by d true small = omega arith
glyph_by d false small = omega arith

two_ascii : (b : ℕ) → b < 256 → IsAscii (two b)
two_ascii b small zero = glyph_by (b / 16) (nat_lt (b / 16) 10) (omega arith)
two_ascii b small (suc zero) = glyph_by (b % 16) (nat_lt (b % 16) 10) (omega arith)
two_ascii b small (suc (suc i)) = omega arith

pub hex_text : (bs : List ℕ) → ((i : ℕ) → slice_index_or bs i 0 < 256) → IsUtf8 (hex bs)
unfolding hex
hex_text [] small = IsUtf8-nil
hex_text (b ∷ bs) small = IsUtf8-append (two b) (hex bs) (IsUtf8-from_ascii (two b) (two_ascii b (small 0))) (hex_text bs (λ i. small (suc i)))

pub is_ok : {T E : Type 0} (bs : List ℕ) (P : T → Type 0) (Q : E → Type 0) (r : Result T E) → MatchResult r P (λ e. ¬ (IsUtf8 bs) × Q e) → IsUtf8 bs → IsOk r
is_ok bs P Q (Ok x) m h = refl
is_ok bs P Q (Err e) m h = absurd (m.0 h)

-- a part more
pub one_part_more : (ps : List (List ℕ)) (d : List ℕ) (i : ℕ) → i < length ps → flat_map hex (take i ps) ++ hex (slice_index_or ps i d) ≡ flat_map hex (take (i + 1) ps)
one_part_more ps d i h = rw (take_more ps i d h) (flat_map_more hex [] (take i ps) (slice_index_or ps i d))

-- the parts of some bytes, and then those that are left
parts_and_rest : (k : ℕ) (bs : List ℕ) → flat_map hex (first_chunks 32 k bs) ++ hex (drop (k * 32) bs) ≡ hex bs
parts_and_rest zero bs = refl
parts_and_rest (suc k) bs =
    let size : 32 + k * 32 ≡ suc k * 32 = omega arith in
    let next : drop (suc k * 32) bs ≡ drop (k * 32) (drop 32 bs) = sym (drop-drop (k * 32) 32 bs ∙ ap (λ j. drop j bs) size) in
    let joined : hex (take 32 bs) ++ hex (drop 32 bs) ≡ hex bs =
    ap₂ ◌++◌ (sym (hex_flat (take 32 bs))) (sym (hex_flat (drop 32 bs)))
    ∙ sym (flat_map-append two (take 32 bs) (drop 32 bs))
    ∙ ap (flat_map two) (take-append-drop 32 bs)
    ∙ hex_flat bs in
    rw next (append_assoc (hex (take 32 bs)) (flat_map hex (first_chunks 32 k (drop 32 bs))) (hex (drop (k * 32) (drop 32 bs)))
    ∙ ap (λ (t : List ℕ). hex (take 32 bs) ++ t) (parts_and_rest k (drop 32 bs))
    ∙ joined)

pub line_whole : (bs : List ℕ) (ps : List (List ℕ)) (rest : List ℕ) → false ≡ (length bs == 0) → ps ≡ first_chunks 32 (length bs / 32) bs → rest ≡ drop (length bs / 32 * 32) bs
    → (codes "bytes " ++ flat_map hex ps) ++ hex rest ≡ bytes_text bs
line_whole bs ps rest some front back =
    rw (front, back) (append_assoc (codes "bytes ") (flat_map hex (first_chunks 32 (length bs / 32) bs)) (hex (drop (length bs / 32 * 32) bs))
    ∙ ap (λ (t : List ℕ). codes "bytes " ++ t) (parts_and_rest (length bs / 32) bs)
    ∙ bytes_whole bs some)
