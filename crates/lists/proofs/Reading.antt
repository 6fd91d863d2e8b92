-- What is lent of a region: one entry, and all that there are.
use Rattle.std.proofs.Common.{◌≡◌, ℕ, ◌+◌, ◌-◌, ◌*◌, ◌/◌, ◌<◌, ◌≤◌, List, [], ◌∷◌, length, take, drop, Some, None, Option, Bor, sym, refl, ap, ◌∙◌, ap₂, mul_comm, arith, length-drop, length-take, take-take}
use Rattle.std.specs.Array.{IsFirstChunk}
use Rattle.std.specs.Option.{MatchOption}
use Rattle.std.specs.Simd.{first_chunks}
use Rattle.std.proofs.lemmas.Nat.{le-div}
use Rattle.rows.specs.Rows.{rows}
use Rattle.rows.proofs.Laws.{chunks_are, rows_take}
use Rattle.rows.proofs.Laid.{rows_laid}
use Rattle.lists.specs.Lists.{Region, EntryAt, counted, lent}
use Rattle.lists.proofs.Regions.{entry_there}

-- the first numbers of what stands from a place on, where there are so many
first_lent : (w : ℕ) (xs : List ℕ) (r : Option (Bor (List ℕ))) → MatchOption r (length xs < w) (λ y. IsFirstChunk xs y.now w) → w ≤ length xs → lent r ≡ take w xs ∷ []
first_lent w xs None m h = absurd (omega (arith, m))
first_lent w xs (Some y) m h = ap (λ t. t ∷ []) m.same

pub entry_lent : (w n i : ℕ) (xs : List ℕ) (rs : List (List ℕ)) (r : Option (Bor (List ℕ))) → Region w n rs xs → i < length rs → 1 + w * i + w ≤ length xs → MatchOption r (length (take (length xs - (1 + w * i)) (drop (1 + w * i) xs)) < w) (λ y. IsFirstChunk (take (length xs - (1 + w * i)) (drop (1 + w * i) xs)) y.now w) → EntryAt rs i (lent r)
entry_lent w n i xs rs r region h fits m =
    let from : ℕ = 1 + w * i in
    let part : List ℕ = take (length xs - from) (drop from xs) in
    let long : w ≤ length part = simp (length-take, length-drop) (omega arith) in
    let size : 1 + w * i + w - (1 + w * i) ≡ w = omega arith in
    first_lent w part r m long
    ∙ ap (λ t. t ∷ []) (take-take w (length xs - from) (drop from xs) (omega arith) ∙ ap (λ k. take k (drop from xs)) (sym size))
    ∙ sym (ap (take 1) (entry_there w n i from xs rs region refl h))

-- the arrays of what stands behind the count, as far as there are entries
pub all_lent : (w n c k : ℕ) (xs part : List ℕ) (rs : List (List ℕ)) → Region w n rs xs → c ≡ length rs → part ≡ drop 1 xs → k ≡ length part / w → 0 < w → 1 + w * n ≤ length xs → take c (first_chunks w k part) ≡ rs
all_lent w n c k xs part rs r many behind size wide fits =
    let few = r.few in
    let long : length part ≡ length xs - 1 = ap length behind ∙ simp length-drop (omega arith) in
    let room : n ≤ k = rw size (le-div n (length part) w wide (omega (arith, mul_comm n w))) in
    let rest : c + (k - c) ≡ k = omega arith in
    let numbers : part ≡ drop 1 (counted w n rs) = behind ∙ ap (drop 1) r.is in
    ap (take c) (chunks_are w k part)
    ∙ ap (λ i. take c (rows w i part)) (sym rest)
    ∙ rows_take w c (k - c) part
    ∙ ap₂ (rows w) many numbers
    ∙ rows_laid w n rs r.wide few
