-- Values that are put one behind the other: what stands in a slice after each, and after all of a root, data, a duty and a share.
use Rattle.std.proofs.Common.{◌≡◌, ℕ, ◌+◌, ◌*◌, ◌<◌, ◌≤◌, List, ◌++◌, length, take, drop, sym, ap, ◌∙◌, append_assoc, arith, length-append, take-append-drop, length-take-le, drop-drop, take_at, drop_at}
use Rattle.protocol.specs.Data as defined
use Rattle.protocol.specs.Client as client
use Rattle.wire.specs.Bytes.{le_bytes, data_bytes, duty_bytes, share_bytes}
use Rattle.wire.specs.Fixed.{placed}
use Rattle.wire.specs.CodingLemmas.{length_le_bytes}
use Rattle.wire.specs.Laws.{data_coding}
use Rattle.wire.proofs.Quarters.{quarters_bytes}

-- a slice that held xs has the bytes `front` at its front now, as far as a place
record Filled (xs front : List ℕ) (at : ℕ) (cur : List ℕ) : Type 0 where
  pub holds : cur ≡ front ++ drop at xs
  pub long : length front ≡ at

-- nothing is put yet
not_yet : (xs : List ℕ) (at : ℕ) → at ≤ length xs → Filled xs (take at xs) at xs
not_yet xs at l = record { holds = sym (take-append-drop at xs); long = length-take-le at xs l }

-- one value more, from the place on
put_next : {xs front cur after : List ℕ} {at : ℕ} (k next : ℕ) (new : List ℕ) → Filled xs front at cur → next ≡ at + k → after ≡ placed at k new cur → length new ≡ k
    → Filled xs (front ++ new) next after
put_next {xs} {front} {cur} {after} {at} k next new f e w l =
    record {
      holds = rw (w, first, behind, e) (sym (append_assoc front new (drop (at + k) xs)));
      long = length-append front new ∙ omega (arith, f.long);
    }
  where
    first : take at cur ≡ front
    first = ap (take at) f.holds ∙ take_at front (drop at xs) at f.long

    behind : drop (at + k) cur ≡ drop (at + k) xs
    behind = sym (drop-drop k at cur) ∙ ap (λ (ys : List ℕ). drop k ys) (ap (drop at) f.holds ∙ drop_at front (drop at xs) at f.long) ∙ drop-drop k at xs

four_joined : (front a b c d rest : List ℕ) → ((((front ++ a) ++ b) ++ c) ++ d) ++ rest ≡ front ++ ((((a ++ b) ++ c) ++ d) ++ rest)
four_joined front a b c d rest = simp append_assoc

seven_joined : (front a b c d e f g rest : List ℕ)
    → (((((((front ++ a) ++ b) ++ c) ++ d) ++ e) ++ f) ++ g) ++ rest ≡ front ++ ((a ++ (b ++ (c ++ (d ++ (e ++ (f ++ g)))))) ++ rest)
seven_joined front a b c d e f g rest = simp append_assoc

two_joined : (front a b rest : List ℕ) → ((front ++ a) ++ b) ++ rest ≡ front ++ ((a ++ b) ++ rest)
two_joined front a b rest = simp append_assoc

three_joined : (front a b c rest : List ℕ) → (((front ++ a) ++ b) ++ c) ++ rest ≡ front ++ ((a ++ (b ++ c)) ++ rest)
three_joined front a b c rest = simp append_assoc

module _ (xs : List ℕ) where
  pub root_put : {x1 x2 x3 x4 : List ℕ} (at a b c d : ℕ) → at + 32 ≤ length xs → a < 18446744073709551616 → b < 18446744073709551616 → c < 18446744073709551616
      → x1 ≡ placed at 8 (le_bytes 8 a) xs → x2 ≡ placed (at + 8) 8 (le_bytes 8 b) x1 → x3 ≡ placed (at + 16) 8 (le_bytes 8 c) x2 → x4 ≡ placed (at + 24) 8 (le_bytes 8 d) x3
      → x4 ≡ placed at 32 (le_bytes 32 (a + 18446744073709551616 * (b + 18446744073709551616 * (c + 18446744073709551616 * d)))) xs
  root_put at a b c d l ha hb hc e1 e2 e3 e4 =
      let f1 = put_next 8 (at + 8) (le_bytes 8 a) (not_yet xs at (omega arith)) (omega arith) e1 (length_le_bytes 8 a) in
      let f2 = put_next 8 (at + 16) (le_bytes 8 b) f1 (omega arith) e2 (length_le_bytes 8 b) in
      let f3 = put_next 8 (at + 24) (le_bytes 8 c) f2 (omega arith) e3 (length_le_bytes 8 c) in
      let f4 = put_next 8 (at + 32) (le_bytes 8 d) f3 (omega arith) e4 (length_le_bytes 8 d) in
      f4.holds ∙ four_joined (take at xs) (le_bytes 8 a) (le_bytes 8 b) (le_bytes 8 c) (le_bytes 8 d) (drop (at + 32) xs)
      ∙ ap (λ (bs : List ℕ). take at xs ++ (bs ++ drop (at + 32) xs)) (quarters_bytes a b c d ha hb hc)

  pub data_put : {x1 x2 x3 x4 x5 x6 x7 : List ℕ} (at : ℕ) (d : defined.Data) → at + 128 ≤ length xs
      → x1 ≡ placed at 8 (le_bytes 8 d.slot) xs → x2 ≡ placed (at + 8) 8 (le_bytes 8 d.committee) x1 → x3 ≡ placed (at + 16) 32 (le_bytes 32 d.block) x2
      → x4 ≡ placed (at + 48) 8 (le_bytes 8 d.source) x3 → x5 ≡ placed (at + 56) 32 (le_bytes 32 d.source_root) x4
      → x6 ≡ placed (at + 88) 8 (le_bytes 8 d.target) x5 → x7 ≡ placed (at + 96) 32 (le_bytes 32 d.target_root) x6
      → x7 ≡ placed at 128 (data_bytes d) xs
  unfolding data_bytes
  data_put at d l e1 e2 e3 e4 e5 e6 e7 =
      let f1 = put_next 8 (at + 8) (le_bytes 8 d.slot) (not_yet xs at (omega arith)) (omega arith) e1 (length_le_bytes 8 d.slot) in
      let f2 = put_next 8 (at + 16) (le_bytes 8 d.committee) f1 (omega arith) e2 (length_le_bytes 8 d.committee) in
      let f3 = put_next 32 (at + 48) (le_bytes 32 d.block) f2 (omega arith) e3 (length_le_bytes 32 d.block) in
      let f4 = put_next 8 (at + 56) (le_bytes 8 d.source) f3 (omega arith) e4 (length_le_bytes 8 d.source) in
      let f5 = put_next 32 (at + 88) (le_bytes 32 d.source_root) f4 (omega arith) e5 (length_le_bytes 32 d.source_root) in
      let f6 = put_next 8 (at + 96) (le_bytes 8 d.target) f5 (omega arith) e6 (length_le_bytes 8 d.target) in
      let f7 = put_next 32 (at + 128) (le_bytes 32 d.target_root) f6 (omega arith) e7 (length_le_bytes 32 d.target_root) in
      f7.holds
      ∙ seven_joined (take at xs) (le_bytes 8 d.slot) (le_bytes 8 d.committee) (le_bytes 32 d.block) (le_bytes 8 d.source) (le_bytes 32 d.source_root)
      (le_bytes 8 d.target)
      (le_bytes 32 d.target_root)
      (drop (at + 128) xs)

  pub duty_put : {x1 x2 x3 : List ℕ} (at : ℕ) (y : defined.Duty) → at + 24 ≤ length xs
      → x1 ≡ placed at 8 (le_bytes 8 y.slot) xs → x2 ≡ placed (at + 8) 8 (le_bytes 8 y.committee) x1 → x3 ≡ placed (at + 16) 8 (le_bytes 8 y.seat) x2
      → x3 ≡ placed at 24 (duty_bytes y) xs
  unfolding duty_bytes
  duty_put at y l e1 e2 e3 =
      let f1 = put_next 8 (at + 8) (le_bytes 8 y.slot) (not_yet xs at (omega arith)) (omega arith) e1 (length_le_bytes 8 y.slot) in
      let f2 = put_next 8 (at + 16) (le_bytes 8 y.committee) f1 (omega arith) e2 (length_le_bytes 8 y.committee) in
      let f3 = put_next 8 (at + 24) (le_bytes 8 y.seat) f2 (omega arith) e3 (length_le_bytes 8 y.seat) in
      f3.holds ∙ three_joined (take at xs) (le_bytes 8 y.slot) (le_bytes 8 y.committee) (le_bytes 8 y.seat) (drop (at + 24) xs)

  pub decided_put : {x1 x2 : List ℕ} (at k : ℕ) (d : defined.Data) → at + 136 ≤ length xs
      → x1 ≡ placed at 8 (le_bytes 8 k) xs → x2 ≡ placed (at + 8) 128 (data_bytes d) x1
      → x2 ≡ placed at 136 (le_bytes 8 k ++ data_bytes d) xs
  decided_put at k d l e1 e2 =
      let f1 = put_next 8 (at + 8) (le_bytes 8 k) (not_yet xs at (omega arith)) (omega arith) e1 (length_le_bytes 8 k) in
      let f2 = put_next 128 (at + 136) (data_bytes d) f1 (omega arith) e2 (data_coding.long d) in
      f2.holds ∙ two_joined (take at xs) (le_bytes 8 k) (data_bytes d) (drop (at + 136) xs)

  pub share_put : {x1 x2 x3 : List ℕ} (at : ℕ) (s : client.Share) → at + 137 ≤ length xs
      → x1 ≡ placed at 1 (le_bytes 1 s.who) xs → x2 ≡ placed (at + 1) 128 (data_bytes s.what) x1 → x3 ≡ placed (at + 129) 8 (le_bytes 8 s.seat) x2
      → x3 ≡ placed at 137 (share_bytes s) xs
  unfolding share_bytes
  share_put at s l e1 e2 e3 =
      let f1 = put_next 1 (at + 1) (le_bytes 1 s.who) (not_yet xs at (omega arith)) (omega arith) e1 (length_le_bytes 1 s.who) in
      let f2 = put_next 128 (at + 129) (data_bytes s.what) f1 (omega arith) e2 (data_coding.long s.what) in
      let f3 = put_next 8 (at + 137) (le_bytes 8 s.seat) f2 (omega arith) e3 (length_le_bytes 8 s.seat) in
      f3.holds ∙ three_joined (take at xs) (le_bytes 1 s.who) (data_bytes s.what) (le_bytes 8 s.seat) (drop (at + 137) xs)
