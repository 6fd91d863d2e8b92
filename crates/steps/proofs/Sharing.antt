-- A share that came: why it is turned away, and what is handed in where it is taken.
use Rattle.std.proofs.Common.{◌≡◌, ℕ, zero, suc, ◌<◌, ◌≤◌, Bool, true, false, eqb, ltb, leb, List, [], ◌∷◌, length, get_or, set, Ok, Err, Result, sym, refl, ap, ◌∙◌, subst, ap₂, arith}
use Rattle.std.specs.List.{AllByRecursion}
use Rattle.std.proofs.lemmas.List.{get_or-set_same}
use Rattle.std.proofs.ByRecursion.{All-get_or}
use Rattle.std.proofs.lemmas.Bool.{eq-eqb, ne_eqb, lt-ltb, le-ltb, and_from, and_right}
use Rattle.protocol.specs.Data.{pick, Data, quorum}
use Rattle.protocol.specs.Client.{Share, share, Answer, does, event_number, good_fields}
use Rattle.safety.proofs.Picks.{pick_true}
use Rattle.safety.proofs.Same.{same_refl}
use Rattle.wire.specs.Fixed.{Written, Unwritten}
use Rattle.wire.specs.declared.fixed.Short.{Short}
use Rattle.events.specs.Layout.{answer_bytes}
use Rattle.stored.specs.Stored.{Cell, empty, holds, Bank, Sizes, Stored, free_bank, with_banks, place_of, bank_at, with_cells, is_empty, says, alike}
use Rattle.stored.specs.Kept.{CellFits, Well, Held}
use Rattle.keeper.specs.Step.{refused_by, refusal, moved, done, bank_place, slot_cells, put_share}
use Rattle.keeper.proofs.Marks.{once, pick_false}
use Rattle.keeper.proofs.Signers.{alike_set, silent}
use Rattle.steps.specs.Served.{Serves}
use Rattle.steps.proofs.Serving.{serves_done, serves_unwritten}

-- no bank has a mark that is too large to be one
pub no_such_mark : (m : ℕ) (bs : List Bank) → 18446744073709551616 ≤ m → AllByRecursion (λ (b : Bank). (b.mark < 18446744073709551616) × AllByRecursion CellFits b.cells) bs → place_of m bs ≡ length bs
unfolding place_of
no_such_mark m [] large fit = refl
no_such_mark m (b ∷ bs) large fit =
    pick_false (eqb b.mark m) 0 (suc (place_of m bs)) (ne_eqb b.mark m (λ e. omega (arith, fit.0.0)))
    ∙ ap suc (no_such_mark m bs large fit.1)

-- a bank with other cells stays where it is: no mark changes
place_stays : (m : ℕ) (bs : List Bank) (i : ℕ) (cs : List Cell) → place_of m (with_cells bs i cs) ≡ place_of m bs
unfolding place_of
place_stays m [] i cs = refl
place_stays m (b ∷ bs) zero cs = refl
place_stays m (b ∷ bs) (suc i) cs = ap (λ n. pick (eqb b.mark m) 0 (suc n)) (place_stays m bs i cs)

-- what a cell says, it says
itself : (seat : ℕ) (d : Data) → once (says seat d (holds seat d)) ≡ 1
unfolding once says
itself seat d = pick_true (says seat d (holds seat d)) 1 0 (and_from _ _ (same_refl d) (eq-eqb seat seat refl))

-- one more says it, where an empty cell is filled with it
one_more : (seat : ℕ) (d : Data) (cs : List Cell) (i : ℕ) → i < length cs → is_empty (get_or cs i empty) ≡ true → alike seat d (set cs i (holds seat d)) ≡ suc (alike seat d cs)
one_more seat d cs i inside free =
    omega (arith, alike_set seat d cs i (holds seat d) inside, silent seat d (get_or cs i empty) free, itself seat d)

module _ (can : ℕ → Bool) (t : Stored) (x : Share) where
  -- a share of a client that isn't there is turned away
  pub no_client : t.sizes.clients ≤ x.who → refusal can t (share x) ≡ 2
  unfolding good_fields
  no_client out = pick_false _ (refused_by t (share x)) 2 (and_right _ _ (le-ltb x.who t.sizes.clients out))

  module _ (can_do : can 2 ≡ true) (who : ℕ) (signed : who ≡ x.who) (member : who < t.sizes.clients) where
    served : refusal can t (share x) ≡ refused_by t (share x)
    unfolding good_fields event_number
    served = pick_true _ (refused_by t (share x)) 2 (and_from _ _ can_do (lt-ltb x.who t.sizes.clients (omega arith)))

    -- one for a slot that isn't listened for is turned away
    pub not_heard : bank_place t x.what.slot ≡ length t.banks → refusal can t (share x) ≡ 5
    unfolding refused_by
    not_heard none = served ∙ pick_false (ltb (bank_place t x.what.slot) (length t.banks)) _ 5 (le-ltb _ (length t.banks) (omega arith))

    module _ (p : ℕ) (first : p ≡ bank_place t x.what.slot) (heard : p < length t.banks) where
      by_cell : refusal can t (share x) ≡ pick (is_empty (get_or (bank_at t.banks p).cells who empty)) 0 6
      unfolding refused_by
      by_cell =
          served
          ∙ pick_true (ltb (bank_place t x.what.slot) (length t.banks)) _ 5 (lt-ltb _ (length t.banks) (omega arith))
          ∙ sym (ap₂ (λ i w. pick (is_empty (get_or (bank_at t.banks i).cells w empty)) 0 6) first signed)

      -- one of a client that has one there is turned away
      pub second : is_empty (get_or (bank_at t.banks p).cells who empty) ≡ false → refusal can t (share x) ≡ 6
      second full = by_cell ∙ pick_false _ 0 6 full

      -- one that is taken is put into the cell that was found
      pub put_there : (cell : ℕ) → cell ≡ who → with_banks (with_cells t.banks p (set (bank_at t.banks p).cells cell (holds x.seat x.what))) t ≡ moved t (share x)
      unfolding moved
      put_there cell own =
          ap₂ (λ i w. with_banks (with_cells t.banks i (set (bank_at t.banks i).cells w (holds x.seat x.what))) t) first (own ∙ signed)

      cells_with : List Cell
      cells_with = set (bank_at t.banks p).cells who (holds x.seat x.what)

      -- the cells of its slot are then those that were there, with its own
      cells_after : slot_cells (put_share x t) x.what.slot ≡ cells_with
      unfolding cells_with moved
      cells_after =
          sym (ap (λ (u : Stored). slot_cells u x.what.slot) (put_there who refl))
          ∙ ap (λ i. (bank_at (with_cells t.banks p cells_with) i).cells) (place_stays (suc x.what.slot) t.banks p cells_with ∙ sym first)
          ∙ ap (λ (b : Bank). b.cells) (get_or-set_same t.banks p (record { mark = (bank_at t.banks p).mark; cells = cells_with }) (free_bank 0) heard)

      -- and its data is handed in where it makes a quorum
      pub taken_so : Well t → is_empty (get_or (bank_at t.banks p).cells who empty) ≡ true → (ds : List Data) →
          ds ≡ pick (leb (quorum t.sizes.clients) (suc (alike x.seat x.what (bank_at t.banks p).cells))) (x.what ∷ []) [] →
          (refusal can t (share x) ≡ 0) × (done can t (share x) ≡ does [] ds [] [])
      unfolding done cells_with
      taken_so well free ds are =
          let long = All-get_or (λ (b : Bank). length b.cells ≡ t.sizes.clients) t.banks p (free_bank 0) heard well.cells in (
            by_cell ∙ pick_true _ 0 6 free,
            ap (λ n. does [] (pick (leb (quorum t.sizes.clients) n) (x.what ∷ []) []) [] [])
                (ap (alike x.seat x.what) cells_after ∙ one_more x.seat x.what (bank_at t.banks p).cells who (omega arith) free)
                ∙ ap (λ ys. does [] ys [] []) (sym are),
          )

-- a share is served as the one that was read from its event's bytes
module _ (z : Sizes) (can : ℕ → Bool) (before out out' : List ℕ) (t : Stored) (x y : Share) (read : x ≡ y) where
  module _ (a : Answer) (taken : refusal can t (share x) ≡ 0) (says : done can t (share x) ≡ a) where
    pub share_done : (after : List ℕ) (n : ℕ) → Written (length (answer_bytes a)) (answer_bytes a) out out' n → Held z after (moved t (share x)) → Serves z can (share y) before after out out' (Ok n) t
    share_done after n w h =
        subst (λ (s : Share). Serves z can (share s) before after out out' (Ok n) t) read (serves_done z can (share x) before out out' t a taken says after n w h)

    pub share_unwritten : (r : Result ℕ Short) (e : Short) → r ≡ Err e → Unwritten (length (answer_bytes a)) out out' → Serves z can (share y) before before out out' r t
    share_unwritten r e failed w =
        rw failed (subst (λ (s : Share). Serves z can (share s) before before out out' (Err e) t) read (serves_unwritten z can (share x) before out out' t a taken says e w))
