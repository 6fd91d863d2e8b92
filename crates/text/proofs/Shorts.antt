-- Why an answer has no text: a row is cut short, or there is no memory.
use Rattle.std.proofs.Common.{◌≡◌, ℕ, ◌+◌, ◌*◌, ◌<◌, ◌≤◌, ◌⊎◌, List, length, IsErrAnd, Result, Ok, Err, Option, Some, None, MatchOption, inl, inr, mul-le-mul_left, arith, MatchResult}
use Rattle.std.proofs.lemmas.Result.{err_from_is_err_and}
use Rattle.std.specs.Option.{ok_or}
use Rattle.events.specs.declared.answer.Answer.{Answer}
use Rattle.events.specs.declared.answer.Answer.TheVariants.{Done}
use Rattle.events.specs.declared.answer.Rows.{Rows}
use Rattle.text.specs.Short.{ShortRows, ShortAnswer, IfCut}
use Rattle.text.specs.declared.errors.AnswerError.{AnswerError}
use Rattle.text.specs.declared.errors.AnswerError.TheVariants.{Cut, Memory}

if_cut_weaker : {P Q : Type 0} (e : AnswerError) → (P → Q) → IfCut P e → IfCut Q e
unfolding IfCut
if_cut_weaker Cut f h = f h
if_cut_weaker Memory f h = tt

no_memory : (P : Type 0) (e : AnswerError) → e ≡ Memory → IfCut P e
unfolding IfCut
no_memory P Cut k = let z : ◌≡◌ {A = ℕ} 0 1 = cc in absurd (omega arith)
no_memory P Memory k = tt

-- what the exit of a `?` answers: what a part of it answered, or that there is no memory
module _ {T : Type 0} (r : Result T AnswerError) (A : T → Type 0) (Q : Type 0) where
  pub cut_exit : (P : Type 0) (x : AnswerError) → IsErrAnd r (λ y. y ≡ x) → (P → Q) → IfCut P x → MatchResult r A (IfCut Q)
  cut_exit P x b f h = let p = err_from_is_err_and r b in rw (p.1, p.2) (if_cut_weaker x f h)

  pub memory_exit : IsErrAnd r (λ y. y ≡ Memory) → MatchResult r A (IfCut Q)
  memory_exit b = let p = err_from_is_err_and r b in rw p.1 (no_memory Q p.0 p.2)

-- an entry that is not there, in a row that is to have it
pub cut_at : (size count n i : ℕ) (bs : List ℕ) → i < n → n ≡ count → (count ≤ i) ⊎ (length bs < size * i + size) → IfCut (length bs < size * count) Cut
unfolding IfCut
cut_at size count n i bs h e (inl k) = absurd (omega arith)
cut_at size count n i bs h e (inr k) =
    let next : size * (i + 1) ≤ size * count = mul-le-mul_left size (omega arith) in
    let one : size * (i + 1) ≡ size * i + size = omega arith in
    omega arith

-- an answer whose rows are those
pub rows_cut : (a : Answer) (r : Rows) → a ≡ Done r → ShortRows r → ShortAnswer a
unfolding ShortAnswer
rows_cut a r k h = rw k h

-- what `ok_or` makes of an entry that is not there
pub missing : {X : Type 0} (size count n i : ℕ) (bs : List ℕ) (o : Option X) (there : X → Type 0) (q : Result X AnswerError) (x : AnswerError) → i < n → n ≡ count
    → MatchOption o ((count ≤ i) ⊎ (length bs < size * i + size)) there → q ≡ ok_or o Cut → q ≡ Err x → IfCut (length bs < size * count) x
missing size count n i bs None there q x h e m k w =
    let same : Cut ≡ x = cc in
    rw (← same) (cut_at size count n i bs h e m)
missing size count n i bs (Some y) there q x h e m k w = let z : ◌≡◌ {A = ℕ} 0 1 = cc in absurd (omega arith)

-- what is told of four rows is what is told of the answer that has them
pub answer_is : {T : Type 0} (r : Result T AnswerError) (A B : T → Type 0) (P Q : Type 0) → ((t : T) → A t → B t) → (P → Q) → MatchResult r A (IfCut P) → MatchResult r B (IfCut Q)
answer_is (Ok t) A B P Q f g h = f t h
answer_is (Err e) A B P Q f g h = if_cut_weaker e g h
