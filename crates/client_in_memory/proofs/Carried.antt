-- Whatever a client answers to an event, the bytes of an answer can carry.
use Rattle.std.proofs.Common.{◌≡◌, ℕ, suc, ◌<◌, ◌≤◌, Bool, true, ◌&&◌, ◌||◌, eqb, ltb, leb, List, [], ◌∷◌, length, get_or, refl, subst, arith}
use Rattle.std.specs.List.{AllByRecursion}
use Rattle.std.proofs.ByRecursion.{All-weaker, Decides-by_and}
use Rattle.std.proofs.lemmas.Bool.{and_parts, and_from, lt-ltb, le-leb}
use Rattle.protocol.specs.Data.{pick, Data, Duty, quorum}
use Rattle.protocol.specs.Client.{Share, Event, duty, decided, share, block, resend, garbled, refused, does, event_number, has_slot, twice, ends, begun, begun_if, share_of, good_fields, place, sends_decided}
use Rattle.protocol.specs.Promise.{eight, carried, readable}
use Rattle.safety.proofs.Basics.{member_first}
use Rattle.safety.proofs.Picks.{pick_both, pick_true}
use Rattle.events.specs.Codec.{all_pass, row_carried, answer_carried}
use Rattle.stored.specs.Stored.{Stored, empty, is_empty, alike}
use Rattle.stored.specs.Kept.{Well, Fits, DutyFits}
use Rattle.keeper.specs.Step.{limits_in, hand, told, bank_place, slot_cells, put_share, refused_by, refusal, moved, done, reply}
use Rattle.keeper.proofs.SizesLists.{first_length}
use Rattle.keeper.proofs.FittingLists.{all_among}
use Rattle.keeper.proofs.Fitting.{step_fits}

-- a row of few entries, each of which can be carried; a row of none, and one of one
row_from : {A : Type 0} (f : A → Bool) (xs : List A) → length xs ≤ 255 → AllByRecursion (λ x. f x ≡ true) xs → row_carried f xs ≡ true
unfolding row_carried all_pass
row_from f xs few each =
    and_from (leb (length xs) 255) (all_pass f xs) (le-leb (length xs) 255 few)
    ((Decides-by_and f (λ x. f x ≡ true) (all_pass f) (λ x. (λ h. h, λ h. h)) refl (λ x ys. refl) xs).1 each)

row_none : {A : Type 0} (f : A → Bool) → row_carried f [] ≡ true
row_none f = row_from f [] (omega arith) tt

row_one : {A : Type 0} (f : A → Bool) (x : A) → f x ≡ true → row_carried f (x ∷ []) ≡ true
row_one f x h = row_from f (x ∷ []) (omega arith) (h, tt)

-- the tests of an answer's shares, duties and slots
abbrev a_share : Share → Bool
a_share s = readable (share s)

abbrev a_duty : Duty → Bool
a_duty y = readable (duty y)

-- an answer all of whose rows can be carried
does_carried : (ss : List Share) (ds : List Data) (ys : List Duty) (ks : List ℕ) →
    row_carried a_share ss ≡ true → row_carried carried ds ≡ true → row_carried a_duty ys ≡ true → row_carried (λ k. eight k) ks ≡ true →
    answer_carried (does ss ds ys ks) ≡ true
unfolding answer_carried
does_carried ss ds ys ks s d y k = and_from _ _ (and_from _ _ s d) (and_from _ _ y k)

-- the duty at hand, and what was begun
hand_fits : (t : Stored) → Fits t → AllByRecursion DutyFits (hand t)
hand_fits t f = all_among DutyFits t.active (hand t) (member_first t.at_hand t.active) f.active

hand_carried : (t : Stored) → Fits t → row_carried a_duty (hand t) ≡ true
hand_carried t f =
    let few : length (hand t) ≤ t.at_hand = first_length t.at_hand t.active in
    let one : t.at_hand ≤ 1 = f.at_hand in
    row_from a_duty (hand t) (omega arith) (All-weaker DutyFits _ (λ y h. h.1) (hand t) (hand_fits t f))

begun_carried : (ys cs : List Duty) → row_carried a_duty cs ≡ true → row_carried a_duty (begun ys cs) ≡ true
unfolding begun
begun_carried [] cs h = h
begun_carried (y ∷ ys) cs h = row_none a_duty

begun_if_carried : (ss : List Share) (cs : List Duty) → row_carried a_duty cs ≡ true → row_carried a_duty (begun_if ss cs) ≡ true
unfolding begun_if
begun_if_carried [] cs h = row_none a_duty
begun_if_carried (s ∷ ss) cs h = h

-- the share that is sent of what was decided
duty_slot : (y : Duty) → DutyFits y → eight y.slot ≡ true
unfolding readable
duty_slot y h = (and_parts (eight y.slot) (eight y.committee && eight y.seat) h.1).0

duty_seat : (y : Duty) → DutyFits y → eight y.seat ≡ true
unfolding readable
duty_seat y h =
    (and_parts (eight y.committee) (eight y.seat) (and_parts (eight y.slot) (eight y.committee && eight y.seat) h.1).1).1

sent_carried : (can : ℕ → Bool) (t : Stored) (ys : List Duty) (k : ℕ) (d : Data) → Well t → readable (decided k d) ≡ true → AllByRecursion DutyFits ys → row_carried a_share (sends_decided (limits_in can t) ys k d) ≡ true
unfolding sends_decided readable
sent_carried can t [] k d w e h = row_none a_share
sent_carried can t (y ∷ ys) k d w e h =
    let mine : Share = share_of (limits_in can t) y d in
    let z = w.sizes in
    let me : t.sizes.me < t.sizes.clients = z.one_of_them in
    let few : t.sizes.clients ≤ 64 = z.few_clients in
    pick_both (eqb y.slot k) (mine ∷ []) [] (λ ss. row_carried a_share ss ≡ true)
    (λ _. row_one a_share mine (and_from _ _ (lt-ltb t.sizes.me 256 (omega arith)) (and_from _ _ (and_parts (eight k) (carried d) e).1 (duty_seat y h.0))))
    (λ _. row_none a_share)

-- the data that a share makes whole
whole_carried : (b : Bool) (x : Share) → readable (share x) ≡ true → row_carried carried (pick b (x.what ∷ []) []) ≡ true
unfolding readable
whole_carried b x e =
    pick_both b (x.what ∷ []) [] (λ ds. row_carried carried ds ≡ true)
    (λ _. row_one carried x.what (and_parts (carried x.what) (eight x.seat) (and_parts (ltb x.who 256) (carried x.what && eight x.seat) e).1).0)
    (λ _. row_none carried)

-- the slots that a block ends deciding for
ends_length : (ds : List Data) (ys : List Duty) → length (ends ds ys) ≤ length ys
unfolding ends
ends_length ds [] = omega arith
ends_length ds (y ∷ ys) =
    let less : length (ends ds ys) ≤ length ys = ends_length ds ys in
    pick_both (has_slot y.slot ds) (y.slot ∷ ends ds ys) (ends ds ys) (λ ks. length ks ≤ suc (length ys)) (λ _. omega arith) (λ _. omega arith)

ends_fit : (ds : List Data) (ys : List Duty) → AllByRecursion DutyFits ys → AllByRecursion (λ k. eight k ≡ true) (ends ds ys)
unfolding ends
ends_fit ds [] h = tt
ends_fit ds (y ∷ ys) h =
    pick_both (has_slot y.slot ds) (y.slot ∷ ends ds ys) (ends ds ys) (AllByRecursion (λ k. eight k ≡ true))
    (λ _. (duty_slot y h.0, ends_fit ds ys h.1)) (λ _. ends_fit ds ys h.1)

ends_carried : (ds : List Data) (t : Stored) → Well t → Fits t → row_carried (λ k. eight k) (ends ds t.active) ≡ true
ends_carried ds t w f =
    let less : length (ends ds t.active) ≤ length t.active = ends_length ds t.active in
    let few : length t.active ≤ t.sizes.waiting = w.active in
    let wait : t.sizes.waiting ≤ 64 = w.sizes.few_wait in
    row_from (λ k. eight k) (ends ds t.active) (omega arith) (ends_fit ds t.active f.active)

-- what is done for an event that is taken, where all that it leaves fits
done_carried : (can : ℕ → Bool) (t : Stored) (e : Event) → Well t → Fits t → Fits (moved t e) → readable e ≡ true → answer_carried (done can t e) ≡ true
unfolding done
done_carried can t (duty y) w f g e =
    does_carried [] [] _ [] (row_none a_share) (row_none carried) (begun_carried (hand t) (hand (moved t (duty y))) (hand_carried (moved t (duty y)) g)) (row_none (λ k. eight k))
done_carried can t (decided k d) w f g e =
    let sent : List Share = sends_decided (limits_in can t) (hand t) k d in
    does_carried sent [] _ [] (sent_carried can t (hand t) k d w e (hand_fits t f)) (row_none carried)
    (begun_if_carried sent (hand (moved t (decided k d))) (hand_carried (moved t (decided k d)) g)) (row_none (λ k. eight k))
done_carried can t (share x) w f g e =
    does_carried [] _ [] [] (row_none a_share)
    (whole_carried (leb (quorum t.sizes.clients) (alike x.seat x.what (slot_cells (put_share x t) x.what.slot))) x e)
    (row_none a_duty) (row_none (λ k. eight k))
done_carried can t (block ds) w f g e =
    let before : List Duty = pick (eqb (length (ends (told t ds) (hand t))) 0) (hand t) [] in
    does_carried [] [] _ (ends (told t ds) t.active) (row_none a_share) (row_none carried)
    (begun_carried before (hand (moved t (block ds))) (hand_carried (moved t (block ds)) g)) (ends_carried (told t ds) t w f)
done_carried can t resend w f g e =
    let few : length t.own ≤ t.sizes.waiting = w.own in
    let wait : t.sizes.waiting ≤ 64 = w.sizes.few_wait in
    does_carried t.own [] [] [] (row_from a_share t.own (omega arith) f.own) (row_none carried) (row_none a_duty) (row_none (λ k. eight k))
done_carried can t (garbled n) w f g e =
    does_carried [] [] [] [] (row_none a_share) (row_none carried) (row_none a_duty) (row_none (λ k. eight k))

-- a refusal's number and place
pick_small : (b : Bool) (n m : ℕ) → n < 8 → m < 8 → pick b n m < 8
pick_small b n m p q = pick_both b n m (λ k. k < 8) (λ _. p) (λ _. q)

refused_by_small : (t : Stored) (e : Event) → refused_by t e < 8
unfolding refused_by
refused_by_small t (duty y) =
    pick_small (ltb y.slot t.after) 3 _ (omega arith) (pick_small (ltb (length t.queue) t.sizes.waiting) 0 4 (omega arith) (omega arith))
refused_by_small t (decided k d) = omega arith
refused_by_small t (share x) =
    pick_small (ltb (bank_place t x.what.slot) (length t.banks)) _ 5
    (pick_small (is_empty (get_or (slot_cells t x.what.slot) x.who empty)) 0 6 (omega arith) (omega arith)) (omega arith)
refused_by_small t (block ds) = pick_small (twice ds) 7 0 (omega arith) (omega arith)
refused_by_small t resend = omega arith
refused_by_small t (garbled n) = omega arith

place_fits : (e : Event) (n : ℕ) → readable e ≡ true → eight (place e n) ≡ true
unfolding place readable
place_fits (garbled k) n e = e
place_fits (duty y) n e = refl
place_fits (decided k d) n e = refl
place_fits (share s) n e = refl
place_fits (block ds) n e = refl
place_fits resend n e = refl

refused_carried : (can : ℕ → Bool) (t : Stored) (e : Event) → readable e ≡ true → answer_carried (refused (refusal can t e) (place e (refusal can t e))) ≡ true
unfolding answer_carried
refused_carried can t e h =
    let n : ℕ = refusal can t e in
    let small : n < 8 =
    pick_small ((eqb (event_number e) 255 || can (event_number e)) && good_fields (limits_in can t) e) (refused_by t e) 2 (refused_by_small t e) (omega arith) in
    and_from (ltb n 256) (eight (place e n)) (lt-ltb n 256 (omega arith)) (place_fits e n h)

-- whatever is answered
pub reply_carried : (can : ℕ → Bool) (t : Stored) (e : Event) → Well t → Fits t → readable e ≡ true → answer_carried (reply can t e) ≡ true
reply_carried can t e w f h =
    let taken : Bool = eqb (refusal can t e) 0 in
    pick_both taken (done can t e) (refused (refusal can t e) (place e (refusal can t e))) (λ a. answer_carried a ≡ true)
    (λ b. done_carried can t e w f (subst Fits (pick_true taken (moved t e) t b) (step_fits can e t w h f)) h)
    (λ _. refused_carried can t e h)
