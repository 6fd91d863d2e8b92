-- Roots are the same where their four numbers are, and data where all its fields are.
use Rattle.std.proofs.Common.{◌≡◌, ℕ, ◌+◌, ◌*◌, ◌<◌, Bool, true, false, ◌&&◌, eqb, refl, ◌∙◌, sym, arith}
use mathlib.Core.Bool.{and_assoc}
use Rattle.std.proofs.lemmas.Bool.{eq-eqb, ne_eqb, eqb-true, and_parts, and_from, false≢true}
use Rattle.wire.specs.declared.values.Root.{Root}
use Rattle.wire.specs.declared.values.Data.{Data}
use Rattle.wire.specs.Meaning.{root_of, data_of}
use Rattle.protocol.specs.Data.{same}

-- the low number and what is above it
low_high : (x y a b : ℕ) → x < 18446744073709551616 → y < 18446744073709551616 → x + 18446744073709551616 * a ≡ y + 18446744073709551616 * b → (x ≡ y) × (a ≡ b)
low_high x y a b hx hy e = omega arith

-- numbers below 2 ^ 64, as those of a root in the code are
pub record Small (r : Root) : Type 0 where
  pub first : r.first < 18446744073709551616
  pub second : r.second < 18446744073709551616
  pub third : r.third < 18446744073709551616

abbrev numbers_same : Root → Root → Bool
numbers_same a b = eqb a.first b.first && (eqb a.second b.second && (eqb a.third b.third && eqb a.fourth b.fourth))

roots_by : (r : Bool) (a b : Root) → Small a → Small b → r ≡ numbers_same a b → r ≡ eqb (root_of a) (root_of b)
unfolding root_of
roots_by true a b sa sb h =
    let rest = and_parts (eqb a.first b.first) _ (sym h) in
    let second = and_parts (eqb a.second b.second) _ rest.1 in
    let third = and_parts (eqb a.third b.third) _ second.1 in
    let one : a.first ≡ b.first = eqb-true a.first b.first rest.0 in
    let two : a.second ≡ b.second = eqb-true a.second b.second second.0 in
    let three : a.third ≡ b.third = eqb-true a.third b.third third.0 in
    let four : a.fourth ≡ b.fourth = eqb-true a.fourth b.fourth third.1 in
    sym (eq-eqb (root_of a) (root_of b) (omega arith))
roots_by false a b sa sb h = sym (ne_eqb (root_of a) (root_of b) (λ e. different e))
  where
    different : root_of a ≡ root_of b → ⊥
    different e =
        let one = low_high a.first b.first _ _ sa.first sb.first e in
        let two = low_high a.second b.second _ _ sa.second sb.second one.1 in
        let three = low_high a.third b.third a.fourth b.fourth sa.third sb.third two.1 in
        let all : (eqb a.first b.first && (eqb a.second b.second && (eqb a.third b.third && eqb a.fourth b.fourth))) ≡ true =
        and_from _ _ (eq-eqb a.first b.first one.0) (and_from _ _ (eq-eqb a.second b.second two.0) (and_from _ _ (eq-eqb a.third b.third three.0) (eq-eqb a.fourth b.fourth three.1))) in
        false≢true (h ∙ all)

pub roots_same : (a b : Root) → Small a → Small b → numbers_same a b ≡ eqb (root_of a) (root_of b)
roots_same a b sa sb = roots_by (numbers_same a b) a b sa sb refl

-- the tests of the fields, in the order of the fields, are those of the definition
fields_same : (s c b o p t q : Bool) → s && (c && (b && (o && (p && (t && q))))) ≡ ((s && c) && (b && o)) && ((p && t) && q)
fields_same s c b o p t q = simp and_assoc

pub data_same : (a b : Data) → Small a.block → Small a.source_root → Small a.target_root → Small b.block → Small b.source_root → Small b.target_root
    → eqb a.slot b.slot
    && (eqb a.committee b.committee
    && (numbers_same a.block b.block
    && (eqb a.source b.source && (numbers_same a.source_root b.source_root && (eqb a.target b.target && numbers_same a.target_root b.target_root)))))
    ≡ same (data_of a) (data_of b)
unfolding data_of
data_same a b ha ia ja hb ib jb =
    fields_same (eqb a.slot b.slot) (eqb a.committee b.committee) (numbers_same a.block b.block) (eqb a.source b.source) (numbers_same a.source_root b.source_root)
    (eqb a.target b.target)
    (numbers_same a.target_root b.target_root)
    ∙ rw (roots_same a.block b.block ha hb, roots_same a.source_root b.source_root ia ib, roots_same a.target_root b.target_root ja jb)
