-- Data is the same where every field is. Assumes nothing.
use Rattle.std.proofs.Common.{◌≡◌, ℕ, true, false, ◌&&◌, eqb, ◌≢◌, refl, subst, ⊎_elim}
use Rattle.std.proofs.lemmas.Bool.{eqb-true, eq-eqb, and_parts, cases_Bool}
use Rattle.protocol.specs.Data.{Data, same}

eqb_refl : (n : ℕ) → eqb n n ≡ true
eqb_refl n = eq-eqb n n refl

pub same_refl : (d : Data) → same d d ≡ true
same_refl d = simp eqb_refl

pub same_eq : (a b : Data) → a ≡ b → same a b ≡ true
same_eq a b e = subst (λ (x : Data). same a x ≡ true) e (same_refl a)

-- two tests of two fields each
both : (x y z w : ℕ) → (eqb x y && eqb z w) ≡ true → (x ≡ y) × (z ≡ w)
both x y z w h = let p = and_parts (eqb x y) (eqb z w) h in (eqb-true x y p.0, eqb-true z w p.1)

pub same_to : (a b : Data) → same a b ≡ true → a ≡ b
same_to a b h =
    let halves = and_parts ((eqb a.slot b.slot && eqb a.committee b.committee) && (eqb a.block b.block && eqb a.source b.source)) _ h in
    let first = and_parts (eqb a.slot b.slot && eqb a.committee b.committee) _ halves.0 in
    let second = and_parts (eqb a.source_root b.source_root && eqb a.target b.target) _ halves.1 in
    let duty_part = both a.slot b.slot a.committee b.committee first.0 in
    let vote = both a.block b.block a.source b.source first.1 in
    let ends = both a.source_root b.source_root a.target b.target second.0 in
    let last = eqb-true a.target_root b.target_root second.1 in
    λ i. record {
      slot = duty_part.0 i;
      committee = duty_part.1 i;
      block = vote.0 i;
      source = vote.1 i;
      source_root = ends.0 i;
      target = ends.1 i;
      target_root = last i;
    }

pub same_apart : (a b : Data) → a ≢ b → same a b ≡ false
same_apart a b n = ⊎_elim (λ e. absurd (n (same_to a b e))) (λ e. e) (cases_Bool (same a b))
