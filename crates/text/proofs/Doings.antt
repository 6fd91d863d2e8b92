-- What an answer says was done: the entries of its rows, one after the other, and their line.
use Rattle.std.specs.Prelude.{◌≡◌, ℕ, zero, suc, ◌+◌, ◌*◌, ◌≤◌, true, false, ◌==◌, List, [], ◌∷◌, ◌++◌, drop, length, codes, refl}
use Rattle.std.proofs.Math.Path.{sym}
use Rattle.std.proofs.Common.{ap, ◌∙◌, append-nil, append_assoc, mul-zero, add-one, arith, drop-drop}
use Rattle.std.proofs.lemmas.Bool.{eqb-true, eqb-false}
use Rattle.events.specs.Layout.{entries}
use Rattle.events.specs.Meaning.{answer_of, row_shares, row_data, row_duties, row_slots}
use Rattle.events.specs.declared.answer.Answer.{Answer}
use Rattle.events.specs.declared.answer.Answer.TheVariants.{Done}
use Rattle.events.specs.declared.answer.Rows.{Rows}
use Rattle.protocol.specs.Data.{Data, Duty}
use Rattle.protocol.specs.Client.{Share}
use Rattle.text.specs.Text.{listed, joined, done_texts, done_text, answer_text}

-- one entry more
entries_push : {A : Type 0} (size : ℕ) (from : List ℕ → A) (n : ℕ) (bs : List ℕ) → entries size from (suc n) bs ≡ entries size from n bs ++ (from (drop (size * n) bs) ∷ [])
unfolding entries
entries_push size from zero bs = rw mul-zero
entries_push size from (suc n) bs =
    let next : size * suc n ≡ size + size * n = omega arith in
    rw (next, ← drop-drop (size * n) size bs) (ap (λ xs. from bs ∷ xs) (entries_push size from n (drop size bs)))

-- a line that has one entry more
pub entry_told : (size : ℕ) (from : List ℕ → List ℕ) (bs : List ℕ) (start : List (List ℕ) → List ℕ) (text lead new : List ℕ) (i : ℕ)
    → ((more : List (List ℕ)) → text ++ listed lead (codes "; ") more ≡ start (entries size from i bs ++ more))
    → new ≡ text ++ (lead ++ from (drop (size * i) bs))
    → (more : List (List ℕ)) → new ++ listed (codes "; ") (codes "; ") more ≡ start (entries size from (i + 1) bs ++ more)
unfolding listed
entry_told size from bs start text lead new i f e more =
    rw (e, add-one i, entries_push size from i bs, append_assoc (entries size from i bs) (from (drop (size * i) bs) ∷ []) more)
    (simp append_assoc (f (from (drop (size * i) bs) ∷ more)))

-- a line that has all of a row
pub row_told : (size : ℕ) (from : List ℕ → List ℕ) (bs : List ℕ) (start line : List (List ℕ) → List ℕ) (i n count : ℕ) (all : List (List ℕ))
    → ((more : List (List ℕ)) → line more ≡ start (entries size from i bs ++ more))
    → n ≤ i → i ≤ n → n ≡ count → all ≡ entries size from count bs
    → (more : List (List ℕ)) → line more ≡ start (all ++ more)
row_told size from bs start line i n count all f g h k e more = let m : i ≡ count = omega arith in rw (e, ← m) (f more)

-- the line of four rows, one row after the other
pub four_rows : (one two three four : List (List ℕ) → List ℕ) (base text : List ℕ) (a b c d : List (List ℕ)) → base ≡ []
    → ((more : List (List ℕ)) → one more ≡ base ++ joined (codes "; ") (a ++ more))
    → ((more : List (List ℕ)) → two more ≡ one (b ++ more))
    → ((more : List (List ℕ)) → three more ≡ two (c ++ more))
    → ((more : List (List ℕ)) → four more ≡ three (d ++ more))
    → four [] ≡ text ++ [] → text ≡ joined (codes "; ") (a ++ (b ++ (c ++ d)))
four_rows one two three four base text a b c d e0 e1 e2 e3 e4 e =
    sym (append-nil text) ∙ sym e ∙ e4 [] ∙ (rw (append-nil d) (e3 d)) ∙ e2 (c ++ d) ∙ e1 (b ++ (c ++ d)) ∙ (rw e0)

-- a line with nothing has no deed
none_done : (ss : List Share) (ds : List Data) (ys : List Duty) (ks : List ℕ) → length (joined (codes "; ") (done_texts ss ds ys ks)) ≡ 0 → done_texts ss ds ys ks ≡ []
unfolding listed
none_done (s ∷ ss) ds ys ks e = absurd (omega (arith, e))
none_done [] (d ∷ ds) ys ks e = absurd (omega (arith, e))
none_done [] [] (y ∷ ys) ks e = absurd (omega (arith, e))
none_done [] [] [] (k ∷ ks) e = absurd (omega (arith, e))
none_done [] [] [] [] e = refl

pub nothing_done : (ss : List Share) (ds : List Data) (ys : List Duty) (ks text : List ℕ) → text ≡ joined (codes "; ") (done_texts ss ds ys ks) → true ≡ (length text == 0)
    → codes "nothing" ≡ done_text (done_texts ss ds ys ks)
unfolding done_text
nothing_done ss ds ys ks text e z =
    let none : length (joined (codes "; ") (done_texts ss ds ys ks)) ≡ 0 = rw (← e) (eqb-true (length text) 0 (sym z)) in
    rw (none_done ss ds ys ks none)

pub something_done : (ts : List (List ℕ)) (text : List ℕ) → text ≡ joined (codes "; ") ts → false ≡ (length text == 0) → text ≡ done_text ts
unfolding done_text listed
something_done [] text e z = absurd (eqb-false (length text) 0 (sym z) (rw e))
something_done (t ∷ ts) text e z = e

pub done_said : (a : Answer) (r : Rows) → a ≡ Done r
    → done_text (done_texts (row_shares r.sent) (row_data r.handed_in) (row_duties r.begun) (row_slots r.ended)) ≡ answer_text (answer_of a)
unfolding answer_text answer_of
done_said a r e = rw e
