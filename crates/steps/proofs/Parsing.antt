-- Bytes that are a share are its number and the share, and no more.
use Rattle.std.proofs.Common.{◌≡◌, ℕ, ◌+◌, ◌*◌, ◌≤◌, eqb, ltb, List, [], ◌∷◌, length, take, drop, sym, refl, ap, ◌∙◌, arith}
use Rattle.std.proofs.lemmas.Bool.{ltb-false}
use Rattle.protocol.specs.Data.{pick}
use Rattle.protocol.specs.Client.{Share, Event, duty, decided, share, block, resend, garbled}
use Rattle.safety.proofs.Picks.{pick_both}
use Rattle.wire.specs.Bytes.{le_value, data_from, duty_from, share_from}
use Rattle.events.specs.Layout.{exactly, entries, parse, parse_block}

-- whether an event is a share, which no others are
is_share : Event → ℕ
is_share (duty y) = 0
is_share (decided k d) = 0
is_share (share s) = 1
is_share (block ds) = 0
is_share resend = 0
is_share (garbled n) = 0

differs : (e : Event) (s : Share) → is_share e ≡ 0 → e ≡ share s → ⊥
unfolding is_share
differs e s zero_is is = let v : ◌≡◌ {A = ℕ} 0 1 = sym zero_is ∙ ap is_share is in omega arith

-- an exact event that is none of them
other : (b k : ℕ) (bs : List ℕ) (e : Event) (s : Share) (A : Type 0) → is_share e ≡ 0 → exactly b k bs e ≡ share s → A
unfolding is_share
other b k bs e s A is =
    pick_both (ltb (length bs) k) (garbled (b + length bs)) (pick (ltb k (length bs)) (garbled (b + k)) e) (λ x. x ≡ share s → A)
    (λ _ q. absurd (differs (garbled (b + length bs)) s refl q))
    (λ _. pick_both (ltb k (length bs)) (garbled (b + k)) e (λ x. x ≡ share s → A) (λ _ q. absurd (differs (garbled (b + k)) s refl q)) (λ _ q. absurd (differs e s is q)))

-- the share itself
abbrev pub Whole : List ℕ → Share → Type 0
Whole bs s = (share s ≡ share (share_from bs)) × (137 ≤ length bs)

whole : (bs : List ℕ) (s : Share) → exactly 1 137 bs (share (share_from bs)) ≡ share s → Whole bs s
unfolding is_share
whole bs s =
    pick_both (ltb (length bs) 137) (garbled (1 + length bs)) (pick (ltb 137 (length bs)) (garbled 138) (share (share_from bs))) (λ x. x ≡ share s → Whole bs s)
    (λ _ q. absurd (differs (garbled (1 + length bs)) s refl q))
    (λ long. pick_both (ltb 137 (length bs)) (garbled 138) (share (share_from bs)) (λ x. x ≡ share s → Whole bs s) (λ _ q. absurd (differs (garbled 138) s refl q)) (λ _ q. (sym q, ltb-false (length bs) 137 long)))

no_block : (bs : List ℕ) (s : Share) (A : Type 0) → parse_block bs ≡ share s → A
unfolding parse_block is_share
no_block [] s A q = absurd (differs (garbled 1) s refl q)
no_block (n ∷ bs) s A q = other 2 (128 * n) bs (block (entries 128 data_from n bs)) s A refl q

pub share_whole : (n : ℕ) (bs : List ℕ) (s : Share) → share s ≡ parse (n ∷ bs) → Whole bs s
unfolding parse is_share
share_whole n bs s e =
    let rest_3 : Event = pick (eqb n 4) (exactly 1 0 bs resend) (garbled 0) in
    let rest_2 : Event = pick (eqb n 3) (parse_block bs) rest_3 in
    let rest_1 : Event = pick (eqb n 2) (exactly 1 137 bs (share (share_from bs))) rest_2 in
    let rest : Event = pick (eqb n 1) (exactly 1 136 bs (decided (le_value (take 8 bs)) (data_from (drop 8 bs)))) rest_1 in
    pick_both (eqb n 0) (exactly 1 24 bs (duty (duty_from bs))) rest (λ x. x ≡ share s → Whole bs s) (λ _. other 1 24 bs (duty (duty_from bs)) s (Whole bs s) refl)
    (λ _. pick_both (eqb n 1) (exactly 1 136 bs (decided (le_value (take 8 bs)) (data_from (drop 8 bs)))) rest_1 (λ x. x ≡ share s → Whole bs s) (λ _. other 1 136 bs (decided (le_value (take 8 bs)) (data_from (drop 8 bs))) s (Whole bs s) refl)
    (λ _. pick_both (eqb n 2) (exactly 1 137 bs (share (share_from bs))) rest_2 (λ x. x ≡ share s → Whole bs s) (λ _. whole bs s)
    (λ _. pick_both (eqb n 3) (parse_block bs) rest_3 (λ x. x ≡ share s → Whole bs s) (λ _. no_block bs s (Whole bs s))
    (λ _. pick_both (eqb n 4) (exactly 1 0 bs resend) (garbled 0) (λ x. x ≡ share s → Whole bs s) (λ _. other 1 0 bs resend s (Whole bs s) refl) (λ _ q. absurd (differs (garbled 0) s refl q))))))
    (sym e)

pub empty_is_none : (s : Share) → share s ≡ parse [] → ⊥
unfolding parse is_share
empty_is_none s e = differs (garbled 0) s refl (sym e)
