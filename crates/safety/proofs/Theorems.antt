-- The theorems, read off the invariant of the world: one word for a slot, a verdict is for its slot, whole is only what was decided, and a group of right clients is
-- never punished: two whole ones of one slot are one verdict, and of different slots they do not clash.
-- Assumes nothing.
use Rattle.std.proofs.Common.{◌≡◌, false, List, [], ◌∷◌, sym, refl, inl, inr, ⊎_elim, arith}
use Rattle.std.proofs.lemmas.Bool.{ltb-true, cases_eq}
use Rattle.protocol.specs.Data.{Data, punished, past_of, clash}
use Rattle.protocol.specs.Client.{Share}
use Rattle.protocol.specs.World.{In}
use Rattle.protocol.specs.Promise.{NeverPunished, OneWord, ForItsSlot, WholeIsDecided}
use Rattle.protocol.specs.Runs.{RightIsSafe}
use Rattle.protocol.specs.Refusals.{Member}
use Rattle.safety.proofs.Pasts.{clash_not}
use Rattle.safety.proofs.Record.{only}
use Rattle.safety.proofs.Worlds.{for_its_slot_here, whole_is_decided_here, holds}

in_member : (s : Share) (ss : List Share) → In s ss → Member s ss
unfolding In
in_member s [] h = h
in_member s (x ∷ xs) (inl e) = inl e
in_member s (x ∷ xs) (inr h) = inr (in_member s xs h)

pub one_word : OneWord
unfolding OneWord
one_word can f g w s t right group lived readable a b good same_who same_slot =
    ((holds can f right g group lived readable).clients s.who good).shares.one s t (in_member s w.sent a) (in_member t w.sent b) refl (sym same_who) same_slot

pub for_its_slot : ForItsSlot
unfolding ForItsSlot
for_its_slot can f g w k d right group lived readable small verdict =
    for_its_slot_here can f right g group w readable (holds can f right g group lived readable) k d (ltb-true k 18446744073709551616 small) verdict

pub whole_is_decided : WholeIsDecided
unfolding WholeIsDecided
whole_is_decided can f g w d right group lived readable whole = (whole_is_decided_here can f right g group w (holds can f right g group lived readable) d whole).1

-- what does not clash is not punished, nor is a thing beside itself
apart_unpunished : (a b : Data) → clash (past_of a) (past_of b) ≡ false → punished a b ≡ false
apart_unpunished a b e = let c = clash_not (past_of a) (past_of b) e in grind arith

self_unpunished : (a b : Data) → a ≡ b → punished a b ≡ false
self_unpunished a b e = rw e (grind arith)

pub right_is_safe : RightIsSafe
unfolding NeverPunished
right_is_safe can f right g w a b group lived readable wa wb =
    let inv = holds can f right g group lived readable in
    let p = whole_is_decided_here can f right g group w inv a wa in
    let q = whole_is_decided_here can f right g group w inv b wb in
    ⊎_elim (λ e. self_unpunished a b (only w.verdict b.slot a.slot a b (sym e) p.1 q.1))
    (λ e. apart_unpunished a b (inv.apart a.slot b.slot a b p.0 q.0 e p.1 q.1)) (cases_eq a.slot b.slot)
