-- Banks after a block: the shares of a slot that was shown are gone, and its bank is free if the slot was being decided. Assumes nothing.
use Rattle.std.proofs.Common.{◌≡◌, ℕ, zero, suc, ◌+◌, ◌≤◌, Bool, true, false, ◌&&◌, List, [], ◌∷◌, ◌++◌, map, replicate, sym, refl, ap, ◌∙◌, subst, ap₂, ⊎_elim, arith}
use Rattle.std.specs.List.{AllByRecursion}
use Rattle.std.proofs.ByRecursion.{All-map, All-weaker}
use Rattle.std.proofs.lemmas.List.{length-map}
use Rattle.std.proofs.lemmas.Bool.{ltb-true, ltb-false, cases_Bool, and_from, and_left, and_right}
use Rattle.protocol.specs.Data.{pick, Data, Duty}
use Rattle.protocol.specs.Client.{Share, has_slot, not_for, shares_not_for, for_some}
use Rattle.safety.proofs.Picks.{pick_both, pick_two, pick_true}
use Rattle.stored.specs.Stored.{empty, Bank, free_bank}
use Rattle.stored.specs.Stands.{cells_of, bank_of, AsMarked, banks_for, duties_for, BanksHold}
use Rattle.keeper.specs.Step.{shown, decides, bank_after}
use Rattle.keeper.proofs.Marks.{pick_false, hit, hit_none, hit_tells, banks_more, duties_both}
use Rattle.keeper.proofs.Duties.{some_counted, none_told, others_left}
use Rattle.keeper.proofs.Cells.{cells_same, cells_none, cell_left, cell_gone}

-- nothing, or something that a test leaves
gone_none : (g : Bool) → pick {A = ℕ} g 0 0 ≡ 0
gone_none g = pick_both g 0 0 (λ h. h ≡ 0) (λ _. refl) (λ _. refl)

gone_both : (g : Bool) (i j : ℕ) → pick g 0 i + pick g 0 j ≡ pick g 0 (i + j)
unfolding pick
gone_both true i j = refl
gone_both false i j = refl

module _ (n : ℕ) (active : List Duty) (all : List Data) where
  -- each bank is as its mark asks, by the shares that are left
  bank_shown : (got : List Share) (m : ℕ) →
      AsMarked n (shares_not_for all got) (bank_after n active all (bank_of n got m))
  unfolding bank_of shown decides pick
  bank_shown got zero = refl
  bank_shown got (suc k) =
      pick_both (has_slot k all) (pick (for_some k active) (free_bank n) (record { mark = suc k; cells = replicate n empty })) (record { mark = suc k; cells = cells_of n got k })
      (AsMarked n (shares_not_for all got))
      (λ t. pick_both (for_some k active) (free_bank n) (record { mark = suc k; cells = replicate n empty }) (AsMarked n (shares_not_for all got))
      (λ _. refl)
      (λ _. ap (λ cs. record { mark = suc k; cells = cs }) (sym (cells_none n (shares_not_for all got) k (λ i. cell_gone all k i got t)))))
      (λ f. ap (λ cs. record { mark = suc k; cells = cs }) (cells_same n got (shares_not_for all got) k (λ i. cell_left all k i got f)))

  kept_shown : (got : List Share) (bs : List Bank) → AllByRecursion (AsMarked n got) bs → AllByRecursion (AsMarked n (shares_not_for all got)) (map (bank_after n active all) bs)
  kept_shown got bs kept =
      All-map (AsMarked n (shares_not_for all got)) (bank_after n active all) bs
      (All-weaker (AsMarked n got) _
      (λ b e. subst (λ (c : Bank). AsMarked n (shares_not_for all got) (bank_after n active all c)) (sym e) (bank_shown got b.mark)) bs kept)

  -- the mark goes where its slot was shown and was being decided
  mark_after : (b : Bank) → (bank_after n active all b).mark ≡ pick (shown all b.mark && decides active b.mark) 0 b.mark
  unfolding pick
  mark_after b = by_tests (shown all b.mark) (decides active b.mark)
    where
      by_tests : (p q : Bool) → (pick p (pick q (free_bank n) (record { mark = b.mark; cells = replicate n empty })) b).mark ≡ pick (p && q) 0 b.mark
      by_tests true true = refl
      by_tests true false = refl
      by_tests false q = refl

  -- whether a slot's bank is freed
  abbrev frees : ℕ → Bool
  frees k = has_slot k all && for_some k active

  -- so each mark is counted as before, but for those
  hit_shown : (b : Bank) (k : ℕ) → hit (bank_after n active all b).mark (suc k) ≡ pick (frees k) 0 (hit b.mark (suc k))
  unfolding shown decides
  hit_shown b k =
      ap (λ m. hit m (suc k)) (mark_after b)
      ∙ ⊎_elim (λ same. rw same.0 (here (frees k))) (λ other. rw other.1 (there (shown all b.mark && decides active b.mark) (frees k) other.1)) (hit_tells b.mark (suc k))
    where
      here : (g : Bool) → hit (pick g 0 (suc k)) (suc k) ≡ pick g 0 (hit (suc k) (suc k))
      here g = pick_two g 0 (suc k) 0 (hit (suc k) (suc k)) (λ m h. hit m (suc k) ≡ h) (λ _. hit_none k) (λ _. refl)

      there : (p g : Bool) → hit b.mark (suc k) ≡ 0 → hit (pick p 0 b.mark) (suc k) ≡ pick g 0 0
      there p g off =
          pick_both p 0 b.mark (λ m. hit m (suc k) ≡ 0) (λ _. hit_none k) (λ _. off) ∙ sym (gone_none g)

  banks_shown : (k : ℕ) (bs : List Bank) → banks_for (suc k) (map (bank_after n active all) bs) ≡ pick (frees k) 0 (banks_for (suc k) bs)
  unfolding banks_for
  banks_shown k [] = sym (gone_none (frees k))
  banks_shown k (b ∷ bs) =
      banks_more (suc k) (bank_after n active all b) (map (bank_after n active all) bs)
      ∙ ap₂ ◌+◌ (hit_shown b k) (banks_shown k bs)
      ∙ gone_both (frees k) (hit b.mark (suc k)) (banks_for (suc k) bs)
      ∙ ap (λ c. pick (frees k) 0 c) (sym (banks_more (suc k) b bs))

  -- as many are left as duties are, where no two duties are for one slot
  duties_shown : (queue : List Duty) (k : ℕ) → duties_for k active + duties_for k queue ≤ 1 → pick (frees k) 0 (duties_for k (active ++ queue)) ≡ duties_for k (not_for all active ++ queue)
  duties_shown queue k one =
      let before = duties_both k active queue in
      let left = duties_both k (not_for all active) queue in
      ⊎_elim
      (λ t. ⊎_elim
      (λ on. pick_true (frees k) 0 (duties_for k (active ++ queue)) (and_from (has_slot k all) (for_some k active) t on)
      ∙ omega (arith, left, one, none_told all k active t, ltb-true 0 (duties_for k active) (sym (some_counted k active) ∙ on)))
      (λ off. pick_false (frees k) 0 (duties_for k (active ++ queue)) (and_right (has_slot k all) (for_some k active) off)
      ∙ omega (arith, before, left, none_told all k active t, ltb-false 0 (duties_for k active) (sym (some_counted k active) ∙ off)))
      (cases_Bool (for_some k active)))
      (λ f. pick_false (frees k) 0 (duties_for k (active ++ queue)) (and_left (has_slot k all) (for_some k active) f) ∙ omega (arith, before, left, others_left all k active f))
      (cases_Bool (has_slot k all))

  -- the banks hold what is left
  pub shown_holds : {w : ℕ} {got : List Share} (queue : List Duty) {bs : List Bank} → ((k : ℕ) → duties_for k active + duties_for k queue ≤ 1) →
      BanksHold n w got (active ++ queue) bs → BanksHold n w (shares_not_for all got) (not_for all active ++ queue) (map (bank_after n active all) bs)
  shown_holds {got = got} queue {bs = bs} apart h =
      record {
        many = length-map bs (bank_after n active all) ∙ h.many;
        each = kept_shown got bs h.each;
        marks = λ k. banks_shown k bs ∙ ap (λ c. pick (frees k) 0 c) (h.marks k) ∙ duties_shown queue k (apart k);
      }
