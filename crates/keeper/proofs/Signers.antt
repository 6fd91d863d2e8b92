-- As many cells of a slot say the same as there are shares that say it, where no client has two for one slot. Assumes nothing.
use Rattle.std.proofs.Common.{◌≡◌, ℕ, zero, suc, ◌+◌, ◌<◌, Bool, true, false, ◌&&◌, eqb, List, [], ◌∷◌, length, get_or, set, replicate, sym, refl, ap, ◌∙◌, subst, ⊎_elim, arith}
use Rattle.std.proofs.lemmas.Bool.{and_parts, not_from_false, both_ways, cases_eq}
use Rattle.protocol.specs.Data.{pick, Data, same}
use Rattle.protocol.specs.Client.{Share, from_him, signers}
use Rattle.safety.proofs.Held.{Each, Apart}
use Rattle.safety.proofs.Picks.{pick_both}
use Rattle.safety.proofs.Same.{same_to}
use Rattle.stored.specs.Stored.{Cell, empty, holds, says, alike, is_empty}
use Rattle.stored.specs.Stands.{cell_of, cells_of}
use Rattle.keeper.proofs.Marks.{once, counted}
use Rattle.keeper.proofs.Cells.{cells_length, cells_at, cells_same, cells_none, cell_empty, cell_other, cells_put}

-- another cell in the place of one
pub alike_set : (seat : ℕ) (d : Data) (cs : List Cell) (i : ℕ) (c : Cell) → i < length cs →
    alike seat d (set cs i c) + once (says seat d (get_or cs i empty)) ≡ alike seat d cs + once (says seat d c)
unfolding alike
alike_set seat d [] i c h = absurd (omega arith)
alike_set seat d (b ∷ cs) zero c h = omega (arith, counted (says seat d b) (alike seat d cs), counted (says seat d c) (alike seat d cs))
alike_set seat d (b ∷ cs) (suc i) c h =
    omega (arith, alike_set seat d cs i c (omega arith), counted (says seat d b) (alike seat d cs), counted (says seat d b) (alike seat d (set cs i c)))

-- empty cells say nothing
none_alike : (seat : ℕ) (d : Data) (n : ℕ) → alike seat d (replicate n empty) ≡ 0
unfolding alike says pick
none_alike seat d zero = refl
none_alike seat d (suc n) = none_alike seat d n

-- a client that has no share there has an empty cell, which says nothing
pub silent : (seat : ℕ) (d : Data) (c : Cell) → is_empty c ≡ true → once (says seat d c) ≡ 0
unfolding is_empty says once pick
silent seat d empty e = refl
silent seat d (holds seat' d') e = absurd (both_ways false refl e)

-- whether a share says the same for the same seat, and how many cells do
abbrev agrees : Share → Share → Bool
agrees z x = same z.what x.what && eqb z.seat x.seat

abbrev said : ℕ → Share → List Share → ℕ
said n x zs = alike x.seat x.what (cells_of n zs x.what.slot)

-- one share more counts where it says the same, for this slot or for another
module _ (n : ℕ) (x z : Share) (zs : List Share) where
  said_here : z.who < n → from_him z.who z.what.slot zs ≡ false → z.what.slot ≡ x.what.slot → said n x (z ∷ zs) ≡ once (agrees z x) + said n x zs
  unfolding says
  said_here low none e =
      let k : ℕ = x.what.slot in
      let c : Cell = holds z.seat z.what in
      let cs : List Cell = cells_of n zs k in
      let put : cells_of n (z ∷ zs) k ≡ set cs z.who c =
      subst (λ (j : ℕ). cells_of n (z ∷ zs) j ≡ set (cells_of n zs j) z.who c) e (cells_put n z zs low) in
      let there : is_empty (get_or cs z.who empty) ≡ true =
      ap is_empty (cells_at n zs k z.who empty low) ∙ cell_empty k z.who zs
      ∙ not_from_false (from_him z.who k zs) (subst (λ (j : ℕ). from_him z.who j zs ≡ false) e none) in
      omega (arith, ap (alike x.seat x.what) put, alike_set x.seat x.what cs z.who c (omega (arith, cells_length n zs k)), silent x.seat x.what (get_or cs z.who empty) there)

  said_there : (z.what.slot ≡ x.what.slot → ⊥) → said n x (z ∷ zs) ≡ once (agrees z x) + said n x zs
  unfolding once
  said_there other =
      let k : ℕ = x.what.slot in
      let left = ap (alike x.seat x.what) (cells_same n zs (z ∷ zs) k (λ i. cell_other k i z zs other)) in
      pick_both (agrees z x) 1 0 (λ m. said n x (z ∷ zs) ≡ m + said n x zs)
      (λ t. absurd (other (ap (λ (d : Data). d.slot) (same_to z.what x.what (and_parts (same z.what x.what) (eqb z.seat x.seat) t).0))))
      (λ _. omega arith)

-- all of them
pub alike_signers : (n : ℕ) (x : Share) (zs : List Share) → Each (λ z. z.who < n) zs → Apart zs → said n x zs ≡ signers x zs
unfolding signers cell_of
alike_signers n x [] c a = ap (alike x.seat x.what) (cells_none n [] x.what.slot (λ i. refl)) ∙ none_alike x.seat x.what n
alike_signers n x (z ∷ zs) c a =
    ⊎_elim (said_here n x z zs c.0 a.0) (said_there n x z zs) (cases_eq z.what.slot x.what.slot)
    ∙ ap (λ m. once (agrees z x) + m) (alike_signers n x zs c.1 a.1)
    ∙ sym (counted (agrees z x) (signers x zs))
