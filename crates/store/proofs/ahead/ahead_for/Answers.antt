-- The first row with the slot, and the data that is read in it.
use Rattle.std.proofs.Common.{◌≡◌, ℕ, true, false, cond, eqb, get_or, List, [], ◌∷◌, map, Some, None, Option, Bor, MatchOption, refl, sym, ap, ◌∙◌, subst, rules}
use borrow.Author.Tests.{tests}
use Rattle.std.specs.List.{find}
use Rattle.std.specs.Option.{option_map, IsSomeAnd}
use Rattle.std.proofs.lemmas.Iterator.{YieldsList-from_slice}
use Rattle.std.proofs.lemmas.Iterator.Search.{find_from_yields_List}
use Rattle.protocol.specs.Data as defined
use Rattle.protocol.specs.Client.{ahead_of}
use Rattle.protocol.specs.Data.{pick}
use Rattle.wire.specs.Meaning.{data_of}
use Rattle.wire.specs.declared.values.Data.{Data}
use Rattle.stored.specs.Numbers.{data_numbers, data_in}
use Rattle.stored.proofs.Entries.{data_back}
use Rattle.store.specs.Store.{data_found}
use Rattle.store.proofs.ahead.ahead_for.Goals as goal

-- the first row with a slot is that of what is ahead for it
first_row : (k : ℕ) (ds : List defined.Data) → MatchOption (find (λ row. eqb (get_or row 0 0) k) (map data_numbers ds)) ([] ≡ ahead_of k ds) (λ row. data_in row ∷ [] ≡ ahead_of k ds)
unfolding data_numbers ahead_of pick
first_row k [] = refl
first_row k (d ∷ ds) =
    elim (eqb d.slot k) as (λ b. MatchOption (cond b (Some (data_numbers d)) (find (λ row. eqb (get_or row 0 0) k) (map data_numbers ds))) ([] ≡ pick b (d ∷ []) (ahead_of k ds)) (λ row. data_in row ∷ [] ≡ pick b (d ∷ []) (ahead_of k ds))) [
      | true ↦ ap (λ v. v ∷ []) (data_back d)
      | false ↦ first_row k ds
    ]

read : (k : ℕ) (ds : List defined.Data) (o : Option (Bor (List ℕ))) (r : Option Data) → option_map (λ (x : Bor (List ℕ)). x.now) o ≡ find (λ row. eqb (get_or row 0 0) k) (map data_numbers ds) → MatchOption o (r ≡ None) (λ x. MatchOption r ⊥ (λ d. data_of d ≡ data_in x.now)) → data_found r ≡ ahead_of k ds
read k ds None r e m = ap data_found m ∙ subst (λ (o : Option (List ℕ)). MatchOption o ([] ≡ ahead_of k ds) (λ row. data_in row ∷ [] ≡ ahead_of k ds)) (sym e) (first_row k ds)
read k ds (Some x) None e m = absurd m
read k ds (Some x) (Some d) e m =
    ap (λ v. v ∷ []) m ∙ subst (λ (o : Option (List ℕ)). MatchOption o ([] ≡ ahead_of k ds) (λ row. data_in row ∷ [] ≡ ahead_of k ds)) (sym e) (first_row k ds)

matched : (o : Option (Bor (List ℕ))) (r : Option Data) (P : Bor (List ℕ) → Data → Type 0) → MatchOption o (r ≡ None) (λ x. IsSomeAnd r (P x)) → ((x : Bor (List ℕ)) (d : Data) → P x d → data_of d ≡ data_in x.now) → MatchOption o (r ≡ None) (λ x. MatchOption r ⊥ (λ d. data_of d ≡ data_in x.now))
matched None r P m is = m
matched (Some x) None P m is = absurd m
matched (Some x) (Some d) P m is = is x d m

pub returns : goal.returns
returns c t h =
    let found = find_from_yields_List (λ row. eqb (get_or row 0 0) c.args.slot) _ _ c.find.result c.find.ensures.ran (YieldsList-from_slice c.rows.result.now cc) (λ x b q k. search (rules, tests)) in
    read c.args.slot t.ahead c.find.result c.map.result (found ∙ ap (find (λ row. eqb (get_or row 0 0) c.args.slot)) (c.rows.ensures t h)) (matched c.find.result c.map.result _ c.map.ensures.cases (λ x y k. search (rules, tests)))
