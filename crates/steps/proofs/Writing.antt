-- Answers as they are written: a refusal has ten bytes, and rows of at most one entry always have counts that fit.
use Rattle.std.proofs.Common.{◌≡◌, ℕ, suc, List, [], ◌∷◌, map, length, Bor, Some, None, Option, Result, refl, sym, ap, subst, MatchOption, MatchResult}
use Rattle.protocol.specs.Data as some
use Rattle.protocol.specs.Client as defined
use Rattle.protocol.specs.Client.{refused, does}
use Rattle.wire.specs.Fixed.{Written, Unwritten}
use Rattle.wire.specs.Meaning.{data_of, duty_of, share_of}
use Rattle.wire.specs.declared.fixed.Short.{Short}
use Rattle.wire.specs.declared.values.Data.{Data}
use Rattle.wire.specs.declared.values.Duty.{Duty}
use Rattle.wire.specs.declared.values.Share.{Share}
use Rattle.wire.specs.CodingLemmas.{length_le_bytes}
use Rattle.events.specs.Layout.{answer_bytes}
use Rattle.events.specs.declared.answer.Deeds.{Deeds}
use Rattle.store.specs.Store.{data_found, duty_found}
use Rattle.steps.specs.Served.{Writes, deeds_of}

refused_length : (j k : ℕ) → length (answer_bytes (refused j k)) ≡ 10
unfolding answer_bytes
refused_length j k = ap (λ n. suc (suc n)) (length_le_bytes 8 k)

pub writes_refusal : (j i p : ℕ) (before after : List ℕ) (r : Result ℕ Short) → i ≡ j → MatchResult r (Written 10 (answer_bytes (refused i p)) before after) (λ _. Unwritten 10 before after) → Writes (refused j p) before after r
writes_refusal j i p before after r e w =
    subst (λ (n : ℕ). MatchResult r (Written n (answer_bytes (refused j p)) before after) (λ _. Unwritten n before after)) (sym (refused_length j p))
    (subst (λ (k : ℕ). MatchResult r (Written 10 (answer_bytes (refused k p)) before after) (λ _. Unwritten 10 before after)) e w)

-- a list of none or one, as the code lends it
one_data : (o : Option Data) (ds : List Data) → MatchOption o (ds ≡ []) (λ x. ds ≡ x ∷ []) → map data_of ds ≡ data_found o
one_data None ds e = ap (map data_of) e
one_data (Some x) ds e = ap (map data_of) e

one_duty : (o : Option Duty) (ys : List Duty) → MatchOption o (ys ≡ []) (λ x. ys ≡ x ∷ []) → map duty_of ys ≡ duty_found o
one_duty None ys e = ap (map duty_of) e
one_duty (Some x) ys e = ap (map duty_of) e

-- the answer that some deeds are, by their rows
deeds_are : (d : Deeds) (ss : List defined.Share) (ds : List some.Data) (ys : List some.Duty) → map share_of d.sent.now ≡ ss → map data_of d.handed_in.now ≡ ds → map duty_of d.begun.now ≡ ys → d.ended.now ≡ [] → deeds_of d ≡ does ss ds ys []
deeds_are d ss ds ys s h b e = cc

-- nothing is done
abbrev pub Idle : Deeds → Type 0
Idle d = (d.sent.now ≡ []) × ((d.handed_in.now ≡ []) × ((d.begun.now ≡ []) × (d.ended.now ≡ [])))

-- just the data that may be there is handed in
pub handing_in : (d : Deeds) (ds : Bor (List Data)) (o : Option Data) → MatchOption o (ds.now ≡ []) (λ x. ds.now ≡ x ∷ []) → Idle d → deeds_of (record { sent = d.sent; handed_in = ds; begun = d.begun; ended = d.ended }) ≡ does [] (data_found o) [] []
handing_in d ds o is none =
    deeds_are (record { sent = d.sent; handed_in = ds; begun = d.begun; ended = d.ended }) [] (data_found o) [] (ap (map share_of) none.0) (one_data o ds.now is) (ap (map duty_of) none.1.1.0) none.1.1.1

-- just the duty that may be there is begun
pub beginning : (d : Deeds) (ys : Bor (List Duty)) (o : Option Duty) → MatchOption o (ys.now ≡ []) (λ x. ys.now ≡ x ∷ []) → Idle d → deeds_of (record { sent = d.sent; handed_in = d.handed_in; begun = ys; ended = d.ended }) ≡ does [] [] (duty_found o) []
beginning d ys o is none =
    deeds_are (record { sent = d.sent; handed_in = d.handed_in; begun = ys; ended = d.ended }) [] [] (duty_found o) (ap (map share_of) none.0) (ap (map data_of) none.1.0) (one_duty o ys.now is) none.1.1.1

-- nothing at all
pub nothing : (d : Deeds) → Idle d → deeds_of d ≡ does [] [] [] []
nothing d none =
    deeds_are d [] [] [] (ap (map share_of) none.0) (ap (map data_of) none.1.0) (ap (map duty_of) none.1.1.0) none.1.1.1

-- one share is sent, and just the duty that may be there is begun
pub sending : (d : Deeds) (s : Share) (ys : Bor (List Duty)) (o : Option Duty) → MatchOption o (ys.now ≡ []) (λ x. ys.now ≡ x ∷ []) → Idle d → deeds_of (record { sent = record { ref_ptr = (0, 0); now = s ∷ [] }; handed_in = d.handed_in; begun = ys; ended = d.ended }) ≡ does (share_of s ∷ []) [] (duty_found o) []
sending d s ys o is none =
    deeds_are (record { sent = record { ref_ptr = (0, 0); now = s ∷ [] }; handed_in = d.handed_in; begun = ys; ended = d.ended }) (share_of s ∷ []) [] (duty_found o) refl (ap (map data_of) none.1.0) (one_duty o ys.now is) none.1.1.1
