-- Events are read back as written and written back as read, and whatever is read can be carried.
use Rattle.std.proofs.Common.{◌≡◌, ℕ, ◌+◌, ◌<◌, ◌≤◌, true, leb, List, [], ◌∷◌, ◌++◌, length, sym, refl, ap, ◌∙◌, subst, ⊎_elim, arith, length-append}
use Rattle.std.specs.List.{AllByRecursion}
use Rattle.std.proofs.lemmas.List.{append-nil}
use Rattle.std.proofs.lemmas.Bool.{lt-ltb, leb-true, and_parts, cases_order}
use Rattle.protocol.specs.Data.{pick, Data}
use Rattle.protocol.specs.Client.{Event, duty, decided, share, block, resend, garbled, event_number}
use Rattle.protocol.specs.Promise.{eight, carried, all_carried, readable}
use Rattle.wire.specs.Bytes.{le_bytes, data_bytes, duty_bytes, share_bytes, data_from, AllBytes}
use Rattle.wire.specs.CodingLemmas.{both}
use Rattle.wire.specs.Laws.{eight_coding, data_coding, duty_coding, share_coding}
use Rattle.events.specs.Layout.{all_bytes, entries, event_bytes, parse, parse_block}
use Rattle.events.specs.Codec.{EventsReadBack, ReadIsReadable, ReadIsWrittenBack}
use Rattle.events.proofs.Entries.{alone, length_all, entries_back}
use Rattle.events.proofs.EventKinds.{Kind, parse_unknown, duty_kind, decided_kind, share_kind, block_kind, resend_kind, by_kind, cut_short, too_long, just_right}

all_carried_each : (ds : List Data) → all_carried ds ≡ true → AllByRecursion (λ d. carried d ≡ true) ds
unfolding all_carried
all_carried_each [] h = tt
all_carried_each (d ∷ ds) h = let both_of = and_parts (carried d) (all_carried ds) h in (both_of.0, all_carried_each ds both_of.1)

read_data : (ds : List Data) → all_carried ds ≡ true → entries 128 data_from (length ds) (all_bytes data_bytes ds) ≡ ds
read_data ds h =
    ap (λ bs. entries 128 data_from (length ds) bs) (sym (append-nil (all_bytes data_bytes ds)))
    ∙ entries_back data_coding ds [] (all_carried_each ds h)

pub events_back : EventsReadBack
unfolding event_bytes readable event_number duty_kind decided_kind share_kind block_kind resend_kind
events_back (duty y) h = just_right duty_kind (duty_bytes y) (duty_coding.long y) ∙ ap duty (alone duty_coding y h.0)
events_back (decided k d) h =
    let c = both eight_coding data_coding in
    let fits = and_parts (eight k) (carried d) h.0 in
    just_right decided_kind (le_bytes 8 k ++ data_bytes d) (c.long (k, d)) ∙ ap (λ p. decided p.0 p.1) (alone c (k, d) fits)
events_back (share s) h = just_right share_kind (share_bytes s) (share_coding.long s) ∙ ap share (alone share_coding s h.0)
events_back (block ds) h =
    let fits = and_parts (leb (length ds) 255) (all_carried ds) h.0 in
    let few : length ds < 256 = omega (arith, leb-true (length ds) 255 fits.0) in
    just_right (block_kind (length ds) few) (all_bytes data_bytes ds) (length_all data_coding ds) ∙ ap block (read_data ds fits.1)
events_back resend h = just_right resend_kind [] refl
events_back (garbled n) h = absurd (omega (arith, h.1))

-- an event is not bytes that are none
pub no_event : (e : Event) (n : ℕ) → event_number e < 5 → e ≡ garbled n → ⊥
unfolding event_number
no_event e n h p = let less : event_number (garbled n) < 5 = subst (λ x. event_number x < 5) p h in omega arith

-- garbled at an index that is a place
place_readable : (bs : List ℕ) (n : ℕ) → parse bs ≡ garbled n → n ≤ length bs → length bs < 18446744073709551616 → readable (parse bs) ≡ true
unfolding readable
place_readable bs n e l h = ap readable e ∙ lt-ltb n 18446744073709551616 (omega arith)

known_readable : (front : List ℕ) (k : Kind front) (bs : List ℕ) → AllBytes bs → length (front ++ bs) < 18446744073709551616 → readable (parse (front ++ bs)) ≡ true
known_readable front k bs h l =
    ⊎_elim (λ same. ap readable (just_right k bs same) ∙ k.fits bs h same)
    (⊎_elim (λ less. place_readable (front ++ bs) (length front + length bs) (cut_short k bs less) (omega (arith, all)) l)
    (λ more. place_readable (front ++ bs) (length front + k.size) (too_long k bs more) (omega (arith, all)) l))
    (cases_order (length bs) k.size)
  where
    all : length (front ++ bs) ≡ length front + length bs
    all = length-append front bs

pub read_readable : ReadIsReadable
unfolding parse parse_block pick readable
read_readable =
    by_kind (λ bs. length bs < 18446744073709551616 → readable (parse bs) ≡ true)
    (λ l. refl)
    (λ n bs h l. place_readable (n ∷ bs) 0 (parse_unknown n bs h) (omega arith) l)
    (λ l. refl)
    known_readable

known_written : (front : List ℕ) (k : Kind front) (bs : List ℕ) → AllBytes bs → event_number (parse (front ++ bs)) < 5 → event_bytes (parse (front ++ bs)) ≡ front ++ bs
known_written front k bs h l =
    ⊎_elim (λ same. ap event_bytes (just_right k bs same) ∙ k.writes bs h same)
    (⊎_elim (λ less. absurd (no_event _ _ l (cut_short k bs less)))
    (λ more. absurd (no_event _ _ l (too_long k bs more))))
    (cases_order (length bs) k.size)

pub read_written : ReadIsWrittenBack
unfolding parse parse_block pick
read_written =
    by_kind (λ bs. event_number (parse bs) < 5 → event_bytes (parse bs) ≡ bs)
    (λ l. absurd (no_event _ _ l refl))
    (λ n bs h l. absurd (no_event _ _ l (parse_unknown n bs h)))
    (λ l. absurd (no_event _ _ l refl))
    known_written
