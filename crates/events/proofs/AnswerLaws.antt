-- Answers are read back as written: the rows of an answer, one after the other, over any coding of an entry.
use Rattle.std.proofs.Common.{◌≡◌, ℕ, ◌*◌, Bool, true, eqb, ltb, leb, List, [], ◌∷◌, ◌++◌, length, Some, Option, sym, ◌∙◌, arith, length-append, drop_at}
use Rattle.std.specs.List.{AllByRecursion}
use Rattle.std.proofs.lemmas.List.{append-nil}
use Rattle.std.proofs.lemmas.Bool.{le-leb, eq-eqb, and_parts}
use Rattle.protocol.specs.Data.{pick, Data, Duty}
use Rattle.protocol.specs.Client.{Share, Answer, refused, does}
use Rattle.protocol.specs.Promise.{eight}
use Rattle.wire.specs.Bytes.{le_bytes, data_bytes, duty_bytes, share_bytes}
use Rattle.wire.specs.Coding.{Coding}
use Rattle.wire.specs.Laws.{eight_coding, data_coding, duty_coding, share_coding}
use Rattle.events.specs.Layout.{all_bytes, row_bytes, row_there, row_entries, behind_row, number_from, answer_bytes, parse_answer, parse_refused, parse_done}
use Rattle.events.specs.Codec.{all_pass, row_carried, answer_carried, AnswersReadBack}
use Rattle.events.proofs.AnswerRows.{done_is}
use Rattle.events.proofs.Entries.{alone, length_all, entries_back}

each_passes : {A : Type 0} (f : A → Bool) (xs : List A) → all_pass f xs ≡ true → AllByRecursion (λ x. f x ≡ true) xs
unfolding all_pass
each_passes f [] h = tt
each_passes f (x ∷ xs) h = let parts = and_parts (f x) (all_pass f xs) h in (parts.0, each_passes f xs parts.1)

-- a row in front of other bytes
module _ {A : Type 0} {size : ℕ} {bytes : A → List ℕ} {from : List ℕ → A} {fits : A → Type 0} (c : Coding A size bytes from fits) (xs : List A) (rest : List ℕ) where
  row_is_there : row_there size (row_bytes bytes xs ++ rest) ≡ true
  unfolding row_there
  row_is_there = le-leb _ _ (omega (arith, length-append (all_bytes bytes xs) rest, length_all c xs))

  row_back : AllByRecursion fits xs → row_entries size from (row_bytes bytes xs ++ rest) ≡ xs
  unfolding row_entries
  row_back h = entries_back c xs rest h

  row_behind : behind_row size (row_bytes bytes xs ++ rest) ≡ rest
  unfolding behind_row
  row_behind = drop_at (all_bytes bytes xs) rest (size * length xs) (length_all c xs)

row_each : {A : Type 0} (f : A → Bool) (xs : List A) → row_carried f xs ≡ true → AllByRecursion (λ x. f x ≡ true) xs
unfolding row_carried
row_each f xs h = each_passes f xs (and_parts (leb (length xs) 255) (all_pass f xs) h).1

done_back : (ss : List Share) (ds : List Data) (ys : List Duty) (ks : List ℕ) → answer_carried (does ss ds ys ks) ≡ true → (slots : List ℕ) →
    slots ≡ row_bytes (le_bytes 8) ks ++ [] →
    parse_done (row_bytes share_bytes ss ++ (row_bytes data_bytes ds ++ (row_bytes duty_bytes ys ++ slots))) ≡ Some (does ss ds ys ks)
unfolding answer_carried
done_back ss ds ys ks h slots last =
    let parts = and_parts _ _ h in
    let front = and_parts _ _ parts.0 in
    let back = and_parts _ _ parts.1 in
    let duties : List ℕ = row_bytes duty_bytes ys ++ slots in
    let datas : List ℕ = row_bytes data_bytes ds ++ duties in
    done_is (row_bytes share_bytes ss ++ datas) datas duties slots (row_behind share_coding ss datas) (row_behind data_coding ds duties)
    (row_behind duty_coding ys slots)
    (rw last (row_behind eight_coding ks []))
    (row_is_there share_coding ss datas)
    (row_is_there data_coding ds duties)
    (row_is_there duty_coding ys slots)
    (rw last (row_is_there eight_coding ks []))
    ∙ all_four
    (row_back share_coding ss datas (row_each _ ss front.0))
    (row_back data_coding ds duties (row_each _ ds front.1))
    (row_back duty_coding ys slots (row_each _ ys back.0))
    (rw last (row_back eight_coding ks [] (row_each _ ks back.1)))
  where
    all_four : {xs ss : List Share} {bs ds : List Data} {cs ys : List Duty} {es ks : List ℕ} → xs ≡ ss → bs ≡ ds → cs ≡ ys → es ≡ ks →
        ◌≡◌ {A = Option Answer} (Some (does xs bs cs es)) (Some (does ss ds ys ks))
    all_four p q r t = cc

pub answers_back : AnswersReadBack
unfolding answer_bytes answer_carried parse_answer parse_refused pick
answers_back (refused j k) h =
    let fits = and_parts (ltb j 256) (eight k) h in
    let eight_long : eqb (length (le_bytes 8 k)) 8 ≡ true = eq-eqb _ 8 (eight_coding.long k) in
    let place : number_from (le_bytes 8 k) ≡ k = alone eight_coding k fits.1 in
    rw (eight_long, place)
answers_back (does ss ds ys ks) h = done_back ss ds ys ks h (row_bytes (le_bytes 8) ks) (sym (append-nil (row_bytes (le_bytes 8) ks)))
