-- Bytes that are read as anything but a block, or as a refusal, are read with no row at all.
use Rattle.std.proofs.Common.{◌≡◌, ℕ, ◌≢◌, List, [], ◌∷◌, Some, None, Ok, Err, Option, Result, sym, ap, arith}
use Rattle.std.proofs.lemmas.Bool.{false≢true}
use Rattle.protocol.specs.Data.{Data, Duty}
use Rattle.protocol.specs.Client as client
use Rattle.protocol.specs.Client.{garbled, does, event_number}
use Rattle.events.specs.declared.event.Event.{Event}
use Rattle.events.specs.declared.event.Event.TheVariants.{OnDuty, Decided, ShareCame, Block, Resend}
use Rattle.events.specs.declared.event.Garbled.{Garbled}
use Rattle.events.specs.declared.answer.Answer.{Answer}
use Rattle.events.specs.declared.answer.Answer.TheVariants.{Refused, Done}
use Rattle.events.specs.Layout.{exactly, parse_refused}
use Rattle.events.specs.Meaning.{event_of, answer_of}
use Rattle.events.specs.Reading.{read_as, answer_read, EventExact, AnswerExact}
use Rattle.events.proofs.Picked.{picked}

no_block : (b k : ℕ) (bs : List ℕ) (e : client.Event) → event_number e ≢ 3 → event_number (exactly b k bs e) ≢ 3
unfolding event_number
no_block b k bs e h =
    picked (λ x. event_number x ≢ 3) _ _ _ (λ p. omega arith) (picked (λ x. event_number x ≢ 3) _ _ _ (λ p. omega arith) h)

pub event_without : (r : Result Event Garbled) (b k : ℕ) (bs : List ℕ) (e : client.Event) → read_as r ≡ exactly b k bs e → event_number e ≢ 3 → EventExact r
unfolding read_as event_of event_number
event_without (Ok (OnDuty y)) b k bs e p h = tt
event_without (Ok (Decided n d)) b k bs e p h = tt
event_without (Ok (ShareCame s)) b k bs e p h = tt
event_without (Ok (Block row)) b k bs e p h = absurd (no_block b k bs e h (sym (ap event_number p)))
event_without (Ok Resend) b k bs e p h = tt
event_without (Err g) b k bs e p h = tt

not_done : (bs : List ℕ) (ss : List client.Share) (ds : List Data) (ys : List Duty) (ks : List ℕ) → Some (does ss ds ys ks) ≢ parse_refused bs
unfolding parse_refused
not_done [] ss ds ys ks = λ p. false≢true cc
not_done (j ∷ bs) ss ds ys ks = picked (λ x. Some (does ss ds ys ks) ≢ x) _ _ _ (λ p. false≢true cc) (λ p. false≢true cc)

pub answer_without : (r : Option Answer) (bs : List ℕ) → answer_read r ≡ parse_refused bs → AnswerExact r
unfolding answer_read answer_of
answer_without None bs p = tt
answer_without (Some (Refused j k)) bs p = tt
answer_without (Some (Done r)) bs p = absurd (not_done bs _ _ _ _ p)
