-- The kinds of events, as one: bytes in front that say the kind, and then exactly as many as the kind asks for. And every list of bytes by cases:
-- none, a number that no kind has, a block's number alone, or those of a kind in front of others.
use Rattle.std.proofs.Common.{◌≡◌, ℕ, zero, suc, ◌+◌, ◌*◌, ◌<◌, ◌≤◌, true, List, [], ◌∷◌, ◌++◌, length, take, drop, sym, refl, ap, ◌∙◌, arith}
use Rattle.std.specs.List.{AllByRecursion}
use Rattle.std.proofs.lemmas.List.{take_all, nil_from_length}
use Rattle.std.proofs.lemmas.Bool.{ne_eqb, and_from, le-leb}
use Rattle.protocol.specs.Data.{pick, Data}
use Rattle.protocol.specs.Client.{Event, duty, decided, share, block, resend, garbled, event_number}
use Rattle.protocol.specs.Promise.{carried, all_carried, readable}
use Rattle.wire.specs.Bytes.{le_value, data_from, duty_from, share_from, AllBytes}
use Rattle.wire.specs.Coding.{Coding}
use Rattle.wire.specs.CodingLemmas.{both}
use Rattle.wire.specs.Laws.{eight_coding, data_coding, duty_coding, share_coding}
use Rattle.events.specs.Layout.{entries, event_bytes, exactly, parse, parse_block}
use Rattle.events.proofs.Entries.{length_entries, entries_again, entries_fit}
use Rattle.events.proofs.Exactly.{exactly_short, exactly_long, exactly_right}

-- bytes that begin with `front` are of a kind: `size` more bytes make an event, which is written as they are
pub record Kind (front : List ℕ) : Type 0 where
  pub size : ℕ
  pub make : List ℕ → Event
  pub reads : (bs : List ℕ) → parse (front ++ bs) ≡ exactly (length front) size bs (make bs)
  pub number : (bs : List ℕ) → event_number (make bs) < 5
  pub fits : (bs : List ℕ) → AllBytes bs → length bs ≡ size → readable (make bs) ≡ true
  pub writes : (bs : List ℕ) → AllBytes bs → length bs ≡ size → event_bytes (make bs) ≡ front ++ bs

-- what bytes after a number are, by the number
pub parse_unknown : (n : ℕ) (bs : List ℕ) → 5 ≤ n → parse (n ∷ bs) ≡ garbled 0
unfolding parse pick
parse_unknown n bs h =
    let e0 = ne_eqb n 0 (omega arith) in
    let e1 = ne_eqb n 1 (omega arith) in
    let e2 = ne_eqb n 2 (omega arith) in
    let e3 = ne_eqb n 3 (omega arith) in
    let e4 = ne_eqb n 4 (omega arith) in
    rw (e0, e1, e2, e3, e4)

-- bytes of a coding's size are written back whole
pub whole : {A : Type 0} {size : ℕ} {bytes : A → List ℕ} {from : List ℕ → A} {fits : A → Type 0} (c : Coding A size bytes from fits) (bs : List ℕ)
    → AllBytes bs → length bs ≡ size → bytes (from bs) ≡ bs
whole {size = size} c bs h l = c.again bs h (omega arith) ∙ take_all size bs (omega arith)

unfoldable pub duty_kind : Kind (0 ∷ [])
unfolding parse pick event_bytes event_number
duty_kind =
    record {
      size = 24;
      make = λ bs. duty (duty_from bs);
      reads = λ bs. refl;
      number = λ bs. omega arith;
      fits = λ bs h l. duty_coding.fitting bs h;
      writes = λ bs h l. ap (λ xs. 0 ∷ xs) (whole duty_coding bs h l);
    }

unfoldable pub decided_kind : Kind (1 ∷ [])
unfolding parse pick event_bytes event_number readable
decided_kind =
    record {
      size = 136;
      make = λ bs. decided (le_value (take 8 bs)) (data_from (drop 8 bs));
      reads = λ bs. refl;
      number = λ bs. omega arith;
      fits = λ bs h l. let f = (both eight_coding data_coding).fitting bs h in and_from _ _ f.0 f.1;
      writes = λ bs h l. ap (λ xs. 1 ∷ xs) (whole (both eight_coding data_coding) bs h l);
    }

unfoldable pub share_kind : Kind (2 ∷ [])
unfolding parse pick event_bytes event_number
share_kind =
    record {
      size = 137;
      make = λ bs. share (share_from bs);
      reads = λ bs. refl;
      number = λ bs. omega arith;
      fits = λ bs h l. share_coding.fitting bs h;
      writes = λ bs h l. ap (λ xs. 2 ∷ xs) (whole share_coding bs h l);
    }

unfoldable pub resend_kind : Kind (4 ∷ [])
unfolding parse pick event_bytes event_number readable
resend_kind =
    record {
      size = 0;
      make = λ bs. resend;
      reads = λ bs. refl;
      number = λ bs. omega arith;
      fits = λ bs h l. refl;
      writes = λ bs h l. ap (λ xs. 4 ∷ xs) (sym (nil_from_length bs l));
    }

-- a block of n data
pub all_carried_from : (ds : List Data) → AllByRecursion (λ d. carried d ≡ true) ds → all_carried ds ≡ true
unfolding all_carried
all_carried_from [] h = refl
all_carried_from (d ∷ ds) h = and_from (carried d) (all_carried ds) h.0 (all_carried_from ds h.1)

unfoldable pub block_kind : (n : ℕ) → n < 256 → Kind (3 ∷ (n ∷ []))
unfolding parse parse_block pick event_bytes event_number readable
block_kind n small =
    record {
      size = 128 * n;
      make = λ bs. block (entries 128 data_from n bs);
      reads = λ bs. refl;
      number = λ bs. omega arith;
      fits = λ bs h l. and_from _ _ (le-leb _ 255 (omega (arith, length_entries 128 data_from n bs))) (all_carried_from _ (entries_fit data_coding n bs h));
      writes = λ bs h l.
          let count = length_entries 128 data_from n bs in
          let written = entries_again data_coding n bs h (omega arith) ∙ take_all (128 * n) bs (omega arith) in
          rw (count, written);
    }

-- what holds of no bytes, after a number that no kind has, of a block's number alone and of the bytes of a kind and any others behind them, holds of all bytes
pub by_kind : (P : List ℕ → Type 0) → P [] → ((n : ℕ) (bs : List ℕ) → 5 ≤ n → P (n ∷ bs)) → P (3 ∷ []) →
    ((front : List ℕ) (k : Kind front) (bs : List ℕ) → AllBytes bs → P (front ++ bs)) → (bs : List ℕ) → AllBytes bs → P bs
by_kind P none other lone known [] h = none
by_kind P none other lone known (zero ∷ bs) h = known (0 ∷ []) duty_kind bs h.1
by_kind P none other lone known (suc zero ∷ bs) h = known (1 ∷ []) decided_kind bs h.1
by_kind P none other lone known (suc (suc zero) ∷ bs) h = known (2 ∷ []) share_kind bs h.1
by_kind P none other lone known (suc (suc (suc zero)) ∷ []) h = lone
by_kind P none other lone known (suc (suc (suc zero)) ∷ (n ∷ bs)) h = known (3 ∷ (n ∷ [])) (block_kind n h.1.0) bs h.1.1
by_kind P none other lone known (suc (suc (suc (suc zero))) ∷ bs) h = known (4 ∷ []) resend_kind bs h.1
by_kind P none other lone known (suc (suc (suc (suc (suc n)))) ∷ bs) h = other (suc (suc (suc (suc (suc n))))) bs (omega arith)

-- what the bytes of a kind are read as: too few, too many, and as many as it asks for
module _ {front : List ℕ} (k : Kind front) (bs : List ℕ) where
  pub cut_short : length bs < k.size → parse (front ++ bs) ≡ garbled (length front + length bs)
  cut_short l = k.reads bs ∙ exactly_short (length front) k.size bs (k.make bs) l

  pub too_long : k.size < length bs → parse (front ++ bs) ≡ garbled (length front + k.size)
  too_long l = k.reads bs ∙ exactly_long (length front) k.size bs (k.make bs) l

  pub just_right : length bs ≡ k.size → parse (front ++ bs) ≡ k.make bs
  just_right l = k.reads bs ∙ exactly_right (length front) k.size bs (k.make bs) l
