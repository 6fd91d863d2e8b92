-- What is handed on by `?`: an error, or that there is nothing.
use Rattle.std.proofs.Common.{◌≡◌, ℕ, Bool, true, false, Some, None, Ok, Err, Option, Result, refl, ap, MatchResult}
use Rattle.std.specs.Prelude.{IsErr, IsErrAnd}
use Rattle.std.specs.Option.{ok_or}
use Rattle.std.specs.Result.{result_ok}
use Rattle.std.specs.Bool.{then_some}
use Rattle.protocol.specs.Data.{pick}
use Rattle.std.proofs.lemmas.Result.{err_from_is_err_and}
use Rattle.protocol.specs.Client.{garbled}
use Rattle.events.specs.declared.event.Event.{Event}
use Rattle.events.specs.declared.event.Garbled.{Garbled}
use Rattle.events.specs.declared.answer.Answer.{Answer}
use Rattle.events.specs.Meaning.{answer_of}
use Rattle.events.specs.Reading.{read_as, answer_read}

pub none_from_err : {A E : Type 0} (o : Option A) (d : E) {e : E} → ok_or o d ≡ Err e → (o ≡ None) × (e ≡ d)
none_from_err None d h = (refl, cc)
none_from_err (Some x) d h = absurd cc

pub some_from_ok : {A E : Type 0} (o : Option A) (d : E) {x : A} → ok_or o d ≡ Ok x → o ≡ Some x
some_from_ok None d h = absurd cc
some_from_ok (Some y) d h = cc

pub handed_on : {T E : Type 0} (P : T → Type 0) (Q : E → Type 0) (r : Result T E) (e : E) → IsErr r × IsErrAnd r (λ x. x ≡ e) → Q e → MatchResult r P Q
handed_on P Q r e h q = let p = err_from_is_err_and r h.1 in rw (p.1, p.2) q

-- bytes that are no event
pub no_event : (r : Result Event Garbled) (n : ℕ) → IsErr r × IsErrAnd r (λ g. g.place ≡ n) → read_as r ≡ garbled n
unfolding read_as
no_event (Ok e) n h = absurd h.1
no_event (Err g) n h = ap garbled h.1

pub no_event_by : (r : Result Event Garbled) (g : Garbled) (n : ℕ) → IsErr r × IsErrAnd r (λ x. x ≡ g) → g.place ≡ n → read_as r ≡ garbled n
unfolding read_as
no_event_by (Ok e) g n h p = absurd h.1
no_event_by (Err x) g n h p = rw h.1 (ap garbled p)

-- what is known of a result that only its value is asked of
pub err_from_ok : {A E : Type 0} (r : Result A E) (P : A → Type 0) (Q : E → Type 0) → result_ok r ≡ None → MatchResult r P Q → (e : E) × Q e
err_from_ok (Ok x) P Q h m = absurd cc
err_from_ok (Err e) P Q h m = (e, m)

pub ok_from_ok : {A E : Type 0} (r : Result A E) (P : A → Type 0) (Q : E → Type 0) {x : A} → result_ok r ≡ Some x → MatchResult r P Q → P x
ok_from_ok (Ok y) P Q h m = let same : y ≡ _ = cc in rw same at m
ok_from_ok (Err e) P Q h m = absurd cc

-- an answer that is read where a test holds
pub read_if : (b : Bool) (a : Answer) → answer_read (then_some b a) ≡ pick b (Some (answer_of a)) None
unfolding answer_read pick
read_if true a = refl
read_if false a = refl
