use Rattle.std.proofs.Common.{◌≡◌, ℕ, Bool, true, false, ◌||◌, eqb, List, [], ◌∷◌, ◌++◌, take, slice_index, refl, sym, ap, ◌∙◌}
use Rattle.std.specs.List.{list_any}
use Rattle.std.proofs.lemmas.List.{take_more, take_all}
use Rattle.store.specs.Among.{among}
use Rattle.store.proofs.slotted.is_among.Goals as goal

or_turned : (a b : Bool) → (a || b) ≡ (b || a)
or_turned true true = refl
or_turned true false = refl
or_turned false true = refl
or_turned false false = refl

any_among : (k : ℕ) (js : List ℕ) → list_any (λ j. eqb j k) js ≡ among k js
unfolding among
any_among k [] = refl
any_among k (j ∷ js) = ap (λ b. eqb j k || b) (any_among k js) ∙ or_turned (eqb j k) (among k js)

any_last : (p : ℕ → Bool) (js : List ℕ) (i : ℕ) → list_any p (js ++ i ∷ []) ≡ (list_any p js || p i)
any_last p [] i = or_turned (p i) false
any_last p (j ∷ js) i = ap (λ b. p j || b) (any_last p js i) ∙ or_apart (p j) (list_any p js) (p i)
  where
    or_apart : (a b c : Bool) → (a || (b || c)) ≡ ((a || b) || c)
    or_apart true b c = refl
    or_apart false b c = refl

pub loop-other-preserved : goal.loop-other-preserved
loop-other-preserved c =
    ap (λ b. b || eqb (slice_index c.args.slots.now c.loop-other.other-index) c.args.slot) c.loop-other.invariant
    ∙ sym (any_last (λ j. eqb j c.args.slot) (take c.loop-other.other-index c.args.slots.now) (slice_index c.args.slots.now c.loop-other.other-index))
    ∙ ap (list_any (λ j. eqb j c.args.slot)) (sym (take_more c.args.slots.now c.loop-other.other-index 0 c.loop-other-test.true))

pub returns : goal.returns
returns c =
    c.loop-other.invariant ∙ ap (list_any (λ j. eqb j c.args.slot)) (take_all c.loop-other.other-index c.args.slots.now c.loop-other-test.false) ∙ any_among c.args.slot c.args.slots.now
