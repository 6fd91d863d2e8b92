-- The place of bytes that are no event is where their longest front ends with which an event begins.
use Rattle.std.proofs.Common.{◌≡◌, ℕ, zero, suc, ◌+◌, ◌-◌, ◌<◌, ◌≤◌, List, [], ◌∷◌, ◌++◌, length, take, replicate, sym, refl, ap, ◌∙◌, subst, ⊎_elim, append_assoc, arith, length-append, length-take-le}
use lib.ListN.{length-replicate}
use lib.Seq.{take-append-add}
use Rattle.std.proofs.ByRecursion.{All-append, All-take}
use Rattle.std.proofs.lemmas.List.{append-nil, take_all}
use Rattle.std.proofs.lemmas.Bool.{cases_order, cases_lt}
use Rattle.protocol.specs.Data.{pick}
use Rattle.protocol.specs.Client.{block, resend, garbled, event_number}
use Rattle.protocol.specs.Promise.{all_carried, readable}
use Rattle.wire.specs.Bytes.{AllBytes}
use Rattle.events.specs.Layout.{all_bytes, event_bytes, parse, parse_block}
use Rattle.events.specs.Codec.{BeginsAnEvent, PlaceIsLongestFront}
use Rattle.events.proofs.EventKinds.{Kind, parse_unknown, by_kind, cut_short, too_long, just_right}
use Rattle.events.proofs.EventLaws.{events_back, no_event}

-- what a place says
abbrev Place : List ℕ → ℕ → Type 0
Place bs n = (n ≤ length bs) × BeginsAnEvent (take n bs) × ((m : ℕ) → m ≤ length bs → BeginsAnEvent (take m bs) → m ≤ n)

-- the place is told by what the bytes are read as
place_at : (bs : List ℕ) (m n : ℕ) → parse bs ≡ garbled m → Place bs m → parse bs ≡ garbled n → Place bs n
place_at bs m n p h q = let e : m ≡ n = cc in subst (Place bs) e h

-- no event begins with bytes that with anything behind them are none
never_begins : (fs : List ℕ) (n : ℕ) → ((rest : List ℕ) → parse (fs ++ rest) ≡ garbled n) → BeginsAnEvent fs → ⊥
never_begins fs n h b =
    no_event b.0 n b.2.1 (sym (events_back b.0 b.2) ∙ ap parse b.3 ∙ h b.1)

begins_none : BeginsAnEvent []
unfolding event_bytes readable event_number
begins_none = (resend, 4 ∷ [], (refl, omega arith), refl)

begins_block : BeginsAnEvent (3 ∷ [])
unfolding event_bytes readable event_number all_carried all_bytes
begins_block = (block [], 0 ∷ [], (refl, omega arith), refl)

small_zeros : (n : ℕ) → AllBytes (replicate n 0)
small_zeros zero = tt
small_zeros (suc n) = (omega arith, small_zeros n)

place_unknown : (n : ℕ) (bs : List ℕ) → 5 ≤ n → Place (n ∷ bs) 0
place_unknown n bs h = (omega arith, begins_none, at_most)
  where
    at_most : (m : ℕ) → m ≤ length (n ∷ bs) → BeginsAnEvent (take m (n ∷ bs)) → m ≤ 0
    at_most zero l b = omega arith
    at_most (suc m) l b = absurd (never_begins (n ∷ take m bs) 0 (λ rest. parse_unknown n (take m bs ++ rest) h) b)

module _ {front : List ℕ} (k : Kind front) (bs : List ℕ) (h : AllBytes bs) where
  -- a kind's bytes with as many behind them as it asks for are those of an event
  begins_right : (rest : List ℕ) → length rest ≡ k.size → AllBytes rest → (fs more : List ℕ) → front ++ rest ≡ fs ++ more → BeginsAnEvent fs
  begins_right rest l ok fs more e = (k.make rest, more, (k.fits rest ok l, k.number rest), k.writes rest ok l ∙ e)

  -- cut short: with zeros behind them they would be an event
  place_short : length bs < k.size → Place (front ++ bs) (length front + length bs)
  place_short l = (omega (arith, all), rw whole filled, λ m le b. omega (arith, all))
    where
      all : length (front ++ bs) ≡ length front + length bs
      all = length-append front bs

      whole : take (length front + length bs) (front ++ bs) ≡ front ++ bs
      whole = take_all (length front + length bs) (front ++ bs) (omega (arith, all))

      zeros : List ℕ
      zeros = replicate (k.size - length bs) 0

      long : length (bs ++ zeros) ≡ k.size
      long = length-append bs zeros ∙ omega (arith, length-replicate {A = ℕ} (k.size - length bs) 0)

      filled : BeginsAnEvent (front ++ bs)
      filled =
          begins_right (bs ++ zeros) long (All-append (λ b. b < 256) bs zeros h (small_zeros (k.size - length bs))) (front ++ bs) zeros (sym (append_assoc front bs zeros))

  -- too long: without what is too much they are an event, and with one byte more no event begins so
  place_long : k.size < length bs → Place (front ++ bs) (length front + k.size)
  place_long l = (omega (arith, length-append front bs), rw (take-append-add front bs k.size) enough, at_most)
    where
      enough : BeginsAnEvent (front ++ take k.size bs)
      enough =
          begins_right (take k.size bs) (length-take-le k.size bs (omega arith)) (All-take (λ b. b < 256) k.size bs h) (front ++ take k.size bs) []
          (sym (append-nil (front ++ take k.size bs)))

      past : (m : ℕ) → k.size < m → m ≤ length bs → BeginsAnEvent (front ++ take m bs) → ⊥
      past m more le b =
          never_begins (front ++ take m bs) (length front + k.size)
          (λ rest. ap parse (append_assoc front (take m bs) rest) ∙ too_long k (take m bs ++ rest) (rw (length-append, length-take-le m bs le) (omega arith))) b

      at_most : (m : ℕ) → m ≤ length (front ++ bs) → BeginsAnEvent (take m (front ++ bs)) → m ≤ length front + k.size
      at_most m le b =
          ⊎_elim
          (λ more.
          let rest : ℕ = m - length front in
          let split : m ≡ length front + rest = omega arith in
          let here : BeginsAnEvent (front ++ take rest bs) = rw (split, take-append-add front bs rest) at b in
          absurd (past rest (omega arith) (omega (arith, length-append front bs)) here))
          (λ less. less)
          (cases_lt (length front + k.size) m)

  place_known : (n : ℕ) → parse (front ++ bs) ≡ garbled n → Place (front ++ bs) n
  place_known n e =
      ⊎_elim (λ same. absurd (no_event (k.make bs) n (k.number bs) (sym (just_right k bs same) ∙ e)))
      (⊎_elim (λ less. place_at (front ++ bs) _ n (cut_short k bs less) (place_short less) e)
      (λ more. place_at (front ++ bs) _ n (too_long k bs more) (place_long more) e))
      (cases_order (length bs) k.size)

pub place_longest : PlaceIsLongestFront
unfolding parse parse_block pick
place_longest bs n h =
    by_kind (λ bs. parse bs ≡ garbled n → Place bs n)
    (place_at [] 0 n refl (omega arith, begins_none, λ m l b. l))
    (λ m bs h. place_at (m ∷ bs) 0 n (parse_unknown m bs h) (place_unknown m bs h))
    (place_at (3 ∷ []) 1 n refl (omega arith, begins_block, λ m l b. l))
    (λ front k bs h. place_known k bs h n)
    bs h
