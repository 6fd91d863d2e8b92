-- Bytes of which just so many are asked for: too few, too many, and enough.
use Rattle.std.proofs.Common.{◌≡◌, ℕ, ◌+◌, ◌-◌, ◌<◌, ◌≤◌, ltb, List, length, take, drop, sym, ap, ◌∙◌, arith, length-drop}
use Rattle.std.proofs.lemmas.List.{take_rest}
use Rattle.std.proofs.lemmas.Bool.{le-ltb, lt-ltb}
use Rattle.protocol.specs.Client.{Event, garbled}
use Rattle.events.specs.Layout.{exactly}
use Rattle.events.proofs.Picked.{pick_true, pick_false}

module _ (b k : ℕ) (bs : List ℕ) (e : Event) where
  pub exactly_short : length bs < k → exactly b k bs e ≡ garbled (b + length bs)
  exactly_short l = pick_true (ltb (length bs) k) _ _ (lt-ltb (length bs) k l)

  pub exactly_long : k < length bs → exactly b k bs e ≡ garbled (b + k)
  exactly_long l =
      pick_false (ltb (length bs) k) _ _ (le-ltb (length bs) k (omega arith)) ∙ pick_true (ltb k (length bs)) _ _ (lt-ltb k (length bs) l)

  pub exactly_right : length bs ≡ k → exactly b k bs e ≡ e
  exactly_right l =
      pick_false (ltb (length bs) k) _ _ (le-ltb (length bs) k (omega arith)) ∙ pick_false (ltb k (length bs)) _ _ (le-ltb k (length bs) (omega arith))

-- the same from a place on, where what is there is a part of a slice
module _ (at k : ℕ) (bs : List ℕ) (e : Event) (inside : at ≤ length bs) where
  pub rest_short : length (take (length bs - at) (drop at bs)) < k → exactly at k (drop at bs) e ≡ garbled (length bs)
  rest_short l =
      let less : length (drop at bs) < k = rw (take_rest bs at) at l in
      let all : at + length (drop at bs) ≡ length bs = simp length-drop (omega arith) in
      exactly_short at k (drop at bs) e less ∙ ap garbled all

  pub rest_long : (n : ℕ) → n ≡ k → at + n < length bs → exactly at k (drop at bs) e ≡ garbled (at + n)
  rest_long n same l =
      exactly_long at k (drop at bs) e (simp length-drop (omega arith)) ∙ ap (λ m. garbled (at + m)) (sym same)

  pub rest_right : (n : ℕ) → n ≡ k → k ≤ length (take (length bs - at) (drop at bs)) → length bs ≤ at + n → exactly at k (drop at bs) e ≡ e
  rest_right n same l m =
      let more : k ≤ length (drop at bs) = rw (take_rest bs at) at l in
      let rest : length (drop at bs) ≡ length bs - at = length-drop at bs in
      exactly_right at k (drop at bs) e (omega arith)
