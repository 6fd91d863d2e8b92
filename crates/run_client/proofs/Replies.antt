-- What a client that can't do any event replies, from its bytes to its text: an answer that it writes is read back as it was written.
use Rattle.std.proofs.Common.{◌≡◌, ℕ, ◌<◌, true, List, [], ◌∷◌, map, length, take, IfOk, None, Some, IfSome, IsSomeAnd, slice_get, Option, Ok, Err, string_bytes, Result, String, sym, refl, ap, ◌∙◌, subst, arith}
use Rattle.std.proofs.lemmas.List.{take_at}
use denote.Param.Members.{Mut, Called}
use Rattle.std.specs.Iterator.Runs.{Run, YieldsRun, IsMapWhileRun, CallKeepsClosure}
use Rattle.std.specs.declared.alloc.Global.{Global}
use Rattle.protocol.specs.Client.{Event, duty, decided, share, block, resend, garbled, Answer, Limits, State, state, answer}
use Rattle.protocol.specs.Promise.{readable}
use Rattle.wire.specs.Bytes.{AllBytes}
use Rattle.wire.specs.Fixed.{Written}
use Rattle.wire.specs.Meaning.{entry_of}
use Rattle.wire.specs.declared.values.Entry.{Entry}
use Rattle.events.specs.Layout.{event_bytes, parse, answer_bytes, parse_answer}
use Rattle.events.specs.Codec.{answer_carried}
use Rattle.events.proofs.EventLaws.{read_readable}
use Rattle.events.proofs.AnswerLaws.{answers_back}
use Rattle.client.specs.Stage.{reply, Remembers}
use Rattle.client.proofs.Refuses.{idle, turned_away, answer_idle, state_idle}
use Rattle.text.specs.Text.{Asked, event, may, past, raw, request_text, answer_text, past_text}
use Rattle.lines.specs.Bytes.{asked_bytes}
use Rattle.run_client.specs.Reply.{reply_text, Answers, Says, RepliesTo}

never : ◌≡◌ {A = ℕ} 0 1 → ⊥
never z = omega arith

-- bytes can carry what such a client answers
carried_idle : (e : Event) → readable e ≡ true → answer_carried (turned_away e) ≡ true
unfolding turned_away answer_carried readable
carried_idle (duty y) h = refl
carried_idle (decided k d) h = refl
carried_idle (share s) h = refl
carried_idle (block ds) h = refl
carried_idle resend h = refl
carried_idle (garbled n) h = h

module _ (clients me kept waiting : ℕ) (event : List ℕ) (small : AllBytes event) (short : length event < 18446744073709551616) where
  -- the answer that is read from the front of what was written
  pub read_again : (es : List Event) (before now part : List ℕ) (n : ℕ) (a : Answer) →
      Written (length (reply (idle clients me kept waiting) es event)) (reply (idle clients me kept waiting) es event) before now n → part ≡ take n now →
      Some a ≡ parse_answer part → a ≡ answer (idle clients me kept waiting) (state (idle clients me kept waiting) es) (parse event)
  read_again es before now part n a w p e =
      let l = idle clients me kept waiting in
      let s = state l es in
      let said : Answer = answer l s (parse event) in
      let fits : answer_carried said ≡ true =
      ap answer_carried (answer_idle clients me kept waiting s (parse event)) ∙ carried_idle (parse event) (read_readable event small short) in
      let front : part ≡ answer_bytes said = p ∙ ap (take n) w.holds ∙ take_at (answer_bytes said) _ n (sym w.counted) in
      let back : Some a ≡ Some said = e ∙ ap parse_answer front ∙ answers_back said fits in
      cc

-- the past of such a client has no entry
pub no_entry : (clients me kept waiting place : ℕ) (x : Entry) → Remembers (idle clients me kept waiting) place (Some x) → ⊥
unfolding state
no_entry clients me kept waiting place x h = let e = h [] in let z : ◌≡◌ {A = ℕ} 0 1 = cc in never z

unstarted : {A : Type 0} (xs : List A) → ((y : A) → slice_get xs 0 ≡ Some y → ⊥) → xs ≡ []
unstarted [] h = refl
unstarted (x ∷ xs) h = absurd (h x refl)

given_by : {A : Type 0} (o : Option A) (P : A → Type 0) → ((x : A) → P x → ⊥) → IsSomeAnd o P → ⊥
given_by None P k h = h
given_by (Some x) P k h = k x h

-- up to the first `None`, nothing is taken from calls that give no value
module _ {S T A B F : Type 0} {steps : S → Option B → S → Type 0} {source : T → Option A → T → Type 0} (p : Run steps) (q : Run source) (g : Mut F (A × Unit {0}) (Option B)) (f : F) where
  pub none_taken : IsMapWhileRun p q g f → CallKeepsClosure g f → ((x : A) (y : B) → Called g f (x, tt) (Some y) f → ⊥) → p.items ≡ []
  unfolding YieldsRun
  none_taken h keeps none =
      unstarted p.items (λ y e.
      let first : p.at 0 ≡ Some y = p.gave.1 0 ∙ e in
      given_by (q.at 0) (λ x. Called g f (x, tt) (Some y) f) (λ x. none x y) (subst (λ o. IfSome o (λ z. IsSomeAnd (q.at 0) (λ x. Called g f (x, tt) (Some z) f))) first ((h.1 keeps).0 0)))

pub past_told : (clients me kept waiting : ℕ) (es : List Event) (text : List ℕ) (items : List Entry) → text ≡ past_text (map entry_of items) → items ≡ [] →
    text ≡ reply_text (idle clients me kept waiting) (state (idle clients me kept waiting) es) past
unfolding reply_text
past_told clients me kept waiting es text items e none =
    e ∙ ap (λ (xs : List Entry). past_text (map entry_of xs)) none ∙ sym (ap (λ (s : State). past_text s.past) (state_idle clients me kept waiting es))

-- what is said to a request that has bytes is the answer to them
pub answered_asked : (l : Limits) (q : Asked) (bs text : List ℕ) → Some bs ≡ asked_bytes q → Answers l bs text → Says l q text
unfolding reply_text asked_bytes
answered_asked l (event e) bs text is h es = let same : bs ≡ event_bytes e = cc in subst (λ xs. text ≡ answer_text (answer l (state l es) (parse xs))) same (h es)
answered_asked l (may k d) bs text is h es = let z : ◌≡◌ {A = ℕ} 0 1 = cc in absurd (never z)
answered_asked l past bs text is h es = let z : ◌≡◌ {A = ℕ} 0 1 = cc in absurd (never z)
answered_asked l (raw xs) bs text is h es = let same : bs ≡ xs = cc in subst (λ ys. text ≡ answer_text (answer l (state l es) (parse ys))) same (h es)

-- a reply to what was read from a line
pub replied : {E : Type 0} (l : Limits) (q : Asked) (line : List ℕ) (r : Result (String Global) E) → line ≡ request_text q →
    IfOk r (λ t. Says l q (string_bytes t)) → IfOk r (λ t. RepliesTo l line (string_bytes t))
replied l q line (Ok t) e h = (q, e, h)
replied l q line (Err x) e h = tt

pub replied_event : {E : Type 0} (l : Limits) (q : Asked) (line bs : List ℕ) (r : Result (String Global) E) → line ≡ request_text q → Some bs ≡ asked_bytes q →
    IfOk r (λ t. Answers l bs (string_bytes t)) → IfOk r (λ t. RepliesTo l line (string_bytes t))
replied_event l q line bs (Ok t) e is h = (q, e, answered_asked l q bs (string_bytes t) is h)
replied_event l q line bs (Err x) e is h = tt
